-- How large D and S get where no coordinate is over L: |D| ≤ 2·L³ and S ≤ 12·L². Both are by certificate: the gap,
-- times a number over 0, is a sum of products of coordinates and of their gaps to L.
use Prim.Native.Nat.{ℕ, suc, ◌*◌, ◌^◌, ◌≤◌, ◌<◌}
use mathlib.Core.List.{List, [], ◌∷◌}
use mathlib.Core.Path.{◌≡◌, refl, sym, subst, subst₂}
use lib.Dec.{le→leb, leb→le, lt→ltb, lit<}
use lib.IntN.{ℤ, pos, negsuc, neg_ℤ, nat_abs, ◌*ℤ◌}
use lib.Signed.{◌≤ℤ◌, le_z_yes, lt_z_yes}
use Rattle.algebra.proofs.Normal.{Expr, var, con, ◌:+◌, ◌:-◌, ◌:*◌, eval, norm}
use Rattle.algebra.proofs.Order.{NonNeg, ◌⊞◌, ◌⊠◌, square, number, given, gap, nn_pos, pos_mul, le_by, le_by_times}
use Rattle.volume.specs.declared.Point.{Point}
use Rattle.volume.specs.Steps.{largest_byte, volume_limit, spread_limit}
use Rattle.volume.specs.Volume.{D, S, determinant}
use Rattle.volume.proofs.PointPolynomials.{Three, point, D', S', SZ, cube_is, square_is, pos_S}
use Rattle.volume.proofs.VolumeIdentities.{D_exchanged}

-- No coordinate of p is over L.
pub record CoordinatesTo (L : ℕ) (p : Point) : Type 0 where
  pub x_most : p.x ≤ L
  pub y_most : p.y ≤ L
  pub z_most : p.z ≤ L

-- a is between 0 and l at ρ.
record Span (ρ : List ℤ) (l a : Expr) : Type 0 where
  low : NonNeg ρ a
  high : NonNeg ρ (l :- a)

-- So is each coordinate of p.
record Between (ρ : List ℤ) (l : Expr) (p : Three) : Type 0 where
  x : Span ρ l p.x
  y : Span ρ l p.y
  z : Span ρ l p.z

-- ---- S

-- 4·L² - Σ (xi - xj)² over four numbers, as 4·Σ xi·(L - xi) + (2·L - Σ xi)²
abbrev rest' : Expr → Expr → Expr → Expr → Expr → Expr
rest' l a b c d =
    let t = con (pos 2) :* l :- a :- b :- c :- d in
    con (pos 4) :* (a :* (l :- a) :+ b :* (l :- b) :+ c :* (l :- c) :+ d :* (l :- d)) :+ t :* t

rest :
    {ρ : List ℤ} {l a b c d : Expr} → Span ρ l a → Span ρ l b → Span ρ l c → Span ρ l d → NonNeg ρ (rest' l a b c d)
rest {ρ} {l} {a} {b} {c} {d} ha hb hc hd =
    number 4 ⊠ (ha.low ⊠ ha.high ⊞ hb.low ⊠ hb.high ⊞ hc.low ⊠ hc.high ⊞ hd.low ⊠ hd.high)
    ⊞ square (con (pos 2) :* l :- a :- b :- c :- d)

-- ---- D

-- L·(L² - A), where A = a.y·(b.z - c.z) + b.y·(c.z - a.z) + c.y·(a.z - b.z) is twice the area of a b c seen along x, as
-- eight products
abbrev eight' : Expr → Three → Three → Three → Expr
eight' l a b c =
    a.y :* (l :- b.y) :* c.z
    :+ (l :- a.y) :* b.y :* (l :- c.z)
    :+ (l :- a.y) :* (l :- c.y) :* a.z
    :+ a.y :* c.y :* (l :- a.z)
    :+ (l :- a.y) :* (l :- b.y) :* (l :- a.z)
    :+ a.y :* b.y :* a.z
    :+ a.y :* (l :- c.y) :* (l :- b.z)
    :+ (l :- a.y) :* c.y :* b.z

module _ {ρ : List ℤ} {l : Expr} {a b c : Three} (ha : Between ρ l a) (hb : Between ρ l b) (hc : Between ρ l c) where
  eight : NonNeg ρ (eight' l a b c)
  eight =
      ha.y.low ⊠ hb.y.high ⊠ hc.z.low
      ⊞ ha.y.high ⊠ hb.y.low ⊠ hc.z.high
      ⊞ ha.y.high ⊠ hc.y.high ⊠ ha.z.low
      ⊞ ha.y.low ⊠ hc.y.low ⊠ ha.z.high
      ⊞ ha.y.high ⊠ hb.y.high ⊠ ha.z.high
      ⊞ ha.y.low ⊠ hb.y.low ⊠ ha.z.low
      ⊞ ha.y.low ⊠ hc.y.high ⊠ hb.z.high
      ⊞ ha.y.high ⊠ hc.y.low ⊠ hb.z.low

-- ---- at points

span : {ρ : List ℤ} (l a : Expr) (L n : ℕ) → n ≤ L → eval ρ l ≡ pos L → eval ρ a ≡ pos n → Span ρ l a
span {ρ} l a L n h el ea =
    record {
      low = given a (subst (λ t. pos 0 ≤ℤ t) (sym ea) (nn_pos n));
      high = gap a l (subst₂ ◌≤ℤ◌ (sym ea) (sym el) (le_z_yes (le→leb n L h)));
    }

-- the variables t stand for the coordinates of p, and l for L
between :
    {ρ : List ℤ} (l : Expr) (t : Three) (L : ℕ) (p : Point)
    → CoordinatesTo L p
    → eval ρ l ≡ pos L → eval ρ t.x ≡ pos p.x → eval ρ t.y ≡ pos p.y → eval ρ t.z ≡ pos p.z
    → Between ρ l t
between l t L p h el ex ey ez =
    record {
      x = span l t.x L p.x h.x_most el ex;
      y = span l t.y L p.y h.y_most el ey;
      z = span l t.z L p.z h.z_most el ez;
    }

module _ (L : ℕ) (p q r s : Point) (hp : CoordinatesTo L p) (hq : CoordinatesTo L q) (hr : CoordinatesTo L r) (hs : CoordinatesTo L s) where
  abbrev ρ : List ℤ
  ρ = pos p.x ∷ pos p.y ∷ pos p.z ∷ pos q.x ∷ pos q.y ∷ pos q.z
      ∷ pos r.x ∷ pos r.y ∷ pos r.z ∷ pos s.x ∷ pos s.y ∷ pos s.z ∷ pos L ∷ []

  abbrev l : Expr
  l = var 12

  at_p : Between ρ l (point 0)
  unfolding point
  at_p = between l (point 0) L p hp refl refl refl refl

  at_q : Between ρ l (point 1)
  unfolding point
  at_q = between l (point 1) L q hq refl refl refl refl

  at_r : Between ρ l (point 2)
  unfolding point
  at_r = between l (point 2) L r hr refl refl refl refl

  at_s : Between ρ l (point 3)
  unfolding point
  at_s = between l (point 3) L s hs refl refl refl refl

  SZ_most : SZ p q r s ≤ℤ (pos 12 *ℤ (pos L *ℤ pos L))
  unfolding norm point
  SZ_most =
      le_by
      ρ
      (S' (point 0) (point 1) (point 2) (point 3))
      (con (pos 12) :* (l :* l))
      (rest at_p.x at_q.x at_r.x at_s.x
      ⊞ rest at_p.y at_q.y at_r.y at_s.y
      ⊞ rest at_p.z at_q.z at_r.z at_s.z)
      refl

  -- 2·L·(2·L³ - D) = Σ xi·L·(L² - Ci) + (L - xi)·L·(L² + Ci), where D = Σ xi·Ci
  D_most : 0 < L → D p q r s ≤ℤ (pos 2 *ℤ (pos L *ℤ pos L *ℤ pos L))
  unfolding norm point D determinant
  D_most h =
      le_by_times
      ρ
      (con (pos 2) :* l)
      (D' (point 0) (point 1) (point 2) (point 3))
      (con (pos 2) :* (l :* l :* l))
      (pos_mul (pos 2) (pos L) (lt_z_yes tt) (lt_z_yes (lt→ltb 0 L h)))
      (at_p.x.low ⊠ eight at_q at_r at_s ⊞ at_p.x.high ⊠ eight at_r at_q at_s
      ⊞ at_q.x.low ⊠ eight at_r at_p at_s ⊞ at_q.x.high ⊠ eight at_p at_r at_s
      ⊞ at_r.x.low ⊠ eight at_p at_q at_s ⊞ at_r.x.high ⊠ eight at_q at_p at_s
      ⊞ at_s.x.low ⊠ eight at_q at_p at_r ⊞ at_s.x.high ⊠ eight at_p at_q at_r)
      refl

size_most : (z : ℤ) (n : ℕ) → z ≤ℤ pos n → neg_ℤ z ≤ℤ pos n → nat_abs z ≤ n
size_most (pos m) n h k = leb→le m n h.le
size_most (negsuc m) n h k = leb→le (suc m) n k.le

-- ---- the bounds, over L

module _ (L : ℕ) (p q r s : Point) (hp : CoordinatesTo L p) (hq : CoordinatesTo L q) (hr : CoordinatesTo L r) (hs : CoordinatesTo L s) where
  pub S_within : S p q r s ≤ 12 * L ^ 2
  S_within =
      let h : pos (S p q r s) ≤ℤ pos (12 * (L * L)) = rw (pos_S p q r s) (SZ_most L p q r s hp hq hr hs) in
      rw (square_is L) (leb→le (S p q r s) (12 * (L * L)) h.le)

  pub D_within : 0 < L → nat_abs (D p q r s) ≤ 2 * L ^ 3
  D_within h =
      rw (cube_is L)
      (size_most
      (D p q r s)
      (2 * (L * L * L))
      (D_most L p q r s hp hq hr hs h)
      (rw⁻¹ (D_exchanged p q r s) (D_most L q p r s hq hp hr hs h)))

-- ---- coordinates of 0 to 255: any bytes

module _
    (p q r s : Point)
    (hp : CoordinatesTo largest_byte p) (hq : CoordinatesTo largest_byte q) (hr : CoordinatesTo largest_byte r) (hs : CoordinatesTo largest_byte s) where
  pub D_of_bytes : nat_abs (D p q r s) ≤ volume_limit
  D_of_bytes = D_within largest_byte p q r s hp hq hr hs (lit< tt)

  pub S_of_bytes : S p q r s ≤ spread_limit
  S_of_bytes = S_within largest_byte p q r s hp hq hr hs
