-- What arranging the points does to D and S, and the identity of five points. Each is an identity of polynomials; of the
-- twenty-four arrangements only three are computed, and the others follow.
use mathlib.Core.List.{[], ◌∷◌}
use mathlib.Core.Path.{◌≡◌, refl, sym, ap, ◌∙◌}
use lib.IntN.{neg_ℤ, nat_abs, ◌+ℤ◌}
use Rattle.algebra.proofs.Normal.{neg, ◌:+◌, norm, ring}
use Rattle.volume.specs.declared.Point.{Point}
use Rattle.volume.specs.Volume.{D, S, determinant}
use Rattle.volume.proofs.PointPolynomials.{point, D', S', SZ, coordinates, pos_S}

-- ---- arrangements

-- f stays the same by turning the last three, and by exchanging the first two and the last two: so by each even arrangement.
pub record UnchangedByEven {X A : Type 0} (f : X → X → X → X → A) : Type 0 where
  pub turned : (p q r s : X) → f p r s q ≡ f p q r s
  pub crossed : (p q r s : X) → f q p s r ≡ f p q r s

-- the even arrangements, by their letters
module _ {X A : Type 0} {f : X → X → X → X → A} (k : UnchangedByEven f) (p q r s : X) where
  pub prsq : f p r s q ≡ f p q r s
  prsq = k.turned p q r s

  pub psqr : f p s q r ≡ f p q r s
  psqr = k.turned p r s q ∙ prsq

  pub qpsr : f q p s r ≡ f p q r s
  qpsr = k.crossed p q r s

  pub qsrp : f q s r p ≡ f p q r s
  qsrp = k.turned q p s r ∙ qpsr

  pub qrps : f q r p s ≡ f p q r s
  qrps = k.turned q s r p ∙ qsrp

  pub rpqs : f r p q s ≡ f p q r s
  rpqs = k.crossed p r s q ∙ prsq

  pub rqsp : f r q s p ≡ f p q r s
  rqsp = k.turned r p q s ∙ rpqs

  pub rspq : f r s p q ≡ f p q r s
  rspq = k.turned r q s p ∙ rqsp

  pub sprq : f s p r q ≡ f p q r s
  sprq = k.crossed p s q r ∙ psqr

  pub srqp : f s r q p ≡ f p q r s
  srqp = k.turned s p r q ∙ sprq

  pub sqpr : f s q p r ≡ f p q r s
  sqpr = k.turned s r q p ∙ srqp

-- the odd arrangements, from what exchanging the first two does
module _
    {X A : Type 0} {f : X → X → X → X → A} (k : UnchangedByEven f)
    (g : A → A) (exchanged : (p q r s : X) → f q p r s ≡ g (f p q r s)) (p q r s : X) where
  pub qprs : f q p r s ≡ g (f p q r s)
  qprs = exchanged p q r s

  pub qrsp : f q r s p ≡ g (f p q r s)
  qrsp = prsq k q p r s ∙ qprs

  pub qspr : f q s p r ≡ g (f p q r s)
  qspr = psqr k q p r s ∙ qprs

  pub pqsr : f p q s r ≡ g (f p q r s)
  pqsr = qpsr k q p r s ∙ qprs

  pub psrq : f p s r q ≡ g (f p q r s)
  psrq = qsrp k q p r s ∙ qprs

  pub prqs : f p r q s ≡ g (f p q r s)
  prqs = qrps k q p r s ∙ qprs

  pub rqps : f r q p s ≡ g (f p q r s)
  rqps = rpqs k q p r s ∙ qprs

  pub rpsq : f r p s q ≡ g (f p q r s)
  rpsq = rqsp k q p r s ∙ qprs

  pub rsqp : f r s q p ≡ g (f p q r s)
  rsqp = rspq k q p r s ∙ qprs

  pub sqrp : f s q r p ≡ g (f p q r s)
  sqrp = sprq k q p r s ∙ qprs

  pub srpq : f s r p q ≡ g (f p q r s)
  srpq = srqp k q p r s ∙ qprs

  pub spqr : f s p q r ≡ g (f p q r s)
  spqr = sqpr k q p r s ∙ qprs

-- ---- of D

pub D_even : UnchangedByEven D
unfolding norm D determinant point
D_even =
    record {
      turned =
          λ p q r s.
          ring
          (coordinates (p ∷ q ∷ r ∷ s ∷ []))
          (D' (point 0) (point 2) (point 3) (point 1))
          (D' (point 0) (point 1) (point 2) (point 3))
          refl;
      crossed =
          λ p q r s.
          ring
          (coordinates (p ∷ q ∷ r ∷ s ∷ []))
          (D' (point 1) (point 0) (point 3) (point 2))
          (D' (point 0) (point 1) (point 2) (point 3))
          refl;
    }

-- an odd arrangement negates D: `pqsr D_even neg_ℤ D_exchanged p q r s`, and so on
pub D_exchanged : (p q r s : Point) → D q p r s ≡ neg_ℤ (D p q r s)
unfolding norm D determinant point
D_exchanged p q r s =
    ring
    (coordinates (p ∷ q ∷ r ∷ s ∷ []))
    (D' (point 1) (point 0) (point 2) (point 3))
    (neg (D' (point 0) (point 1) (point 2) (point 3)))
    refl

-- ---- of S

-- S from its whole number
S_same : (p q r s p' q' r' s' : Point) → SZ p' q' r' s' ≡ SZ p q r s → S p' q' r' s' ≡ S p q r s
S_same p q r s p' q' r' s' e = ap nat_abs (pos_S p' q' r' s' ∙ e ∙ sym (pos_S p q r s))

pub S_even : UnchangedByEven S
unfolding norm point
S_even =
    record {
      turned =
          λ p q r s.
          S_same p q r s p r s q
          (ring
          (coordinates (p ∷ q ∷ r ∷ s ∷ []))
          (S' (point 0) (point 2) (point 3) (point 1))
          (S' (point 0) (point 1) (point 2) (point 3))
          refl);
      crossed =
          λ p q r s.
          S_same p q r s q p s r
          (ring
          (coordinates (p ∷ q ∷ r ∷ s ∷ []))
          (S' (point 1) (point 0) (point 3) (point 2))
          (S' (point 0) (point 1) (point 2) (point 3))
          refl);
    }

-- an odd arrangement keeps S
pub S_exchanged : (p q r s : Point) → S q p r s ≡ S p q r s
unfolding norm point
S_exchanged p q r s =
    S_same p q r s q p r s
    (ring
    (coordinates (p ∷ q ∷ r ∷ s ∷ []))
    (S' (point 1) (point 0) (point 2) (point 3))
    (S' (point 0) (point 1) (point 2) (point 3))
    refl)

-- ---- five points

-- the three tetrahedra round the edge a b fill what the two on the triangle u v w fill
pub five_points : (a b u v w : Point) → D a b u v +ℤ D a b v w +ℤ D a b w u ≡ D a u v w +ℤ D u v w b
unfolding norm D determinant point
five_points a b u v w =
    ring
    (coordinates (a ∷ b ∷ u ∷ v ∷ w ∷ []))
    (D' (point 0) (point 1) (point 2) (point 3)
    :+ D' (point 0) (point 1) (point 3) (point 4)
    :+ D' (point 0) (point 1) (point 4) (point 2))
    (D' (point 0) (point 2) (point 3) (point 4) :+ D' (point 2) (point 3) (point 4) (point 1))
    refl
