-- A row round an edge, (a,b,l,n), against the two rows of a triangle, (a,x,y,z) and (x,y,z,b). No face of the one is a face of the others
-- reversed, unless the link l n runs against a side of the triangle; where it runs along one, its outer faces are theirs.
use Prim.Native.Nat.{ℕ}
use mathlib.Core.Path.{◌≡◌, refl, sym}
use lib.Dec.{T}
use Rattle.rows.specs.declared.Row.{Row}
use Rattle.rows.specs.Labels.{no_marks}
use Rattle.rows.specs.Rows.{holds}
use Rattle.rows.proofs.EvenMoves.{holds_cases}
use Rattle.mesh.specs.Mesh.{Face, reversed}
use Rattle.mesh.proofs.TurnedFaces.{Turned, as_is, once, twice, on, back, turned_sym, turned_trans, turned_reversed}
use Rattle.mesh.proofs.TurnedFaces.{FaceOf, no_p, no_q, no_r, no_s}
use Rattle.kept_marks.proofs.NumbersOfFaces.{at_0, at_1, at_2, three_cases, turned_in, reversed_in, face_holds}

-- a row by its numbers alone
abbrev pub plain_row : ℕ → ℕ → ℕ → ℕ → Row
plain_row p q r s = record { p = p; q = q; r = r; s = s; region = 0; marks = no_marks }

-- The link from l to n runs along a side of the triangle x, y, z.
pub data SideOf (x y z l n : ℕ) : Type 0 where
  first : l ≡ x → n ≡ y → SideOf x y z l n
  second : l ≡ y → n ≡ z → SideOf x y z l n
  third : l ≡ z → n ≡ x → SideOf x y z l n

-- its outer faces are the triangle's

pub outer_a : {a x y z l n : ℕ} {f : Face} → SideOf x y z l n → Turned f (a, n, l) → FaceOf f (plain_row a x y z)
outer_a (first d e) t = no_s (rw (sym d, sym e) t)
outer_a (second d e) t = no_q (rw (sym d, sym e) t)
outer_a (third d e) t = no_r (rw (sym d, sym e) t)

pub outer_b : {b x y z l n : ℕ} {f : Face} → SideOf x y z l n → Turned f (b, l, n) → FaceOf f (plain_row x y z b)
outer_b (first d e) t = no_r (rw (sym d, sym e) (turned_trans t back))
outer_b (second d e) t = no_p (rw (sym d, sym e) (turned_trans t back))
outer_b (third d e) t = no_q (rw (sym d, sym e) (turned_trans t on))

-- two faces that begin with one number
same_two : {x y z y' z' : ℕ} → (x ≡ y' → ⊥) → (x ≡ z' → ⊥) → Turned (x, y, z) (x, y', z') → (y ≡ y') × (z ≡ z')
same_two f g (as_is a b c) = (b, c)
same_two f g (once a b c) = absurd (f a)
same_two f g (twice a b c) = absurd (g a)

-- The ends are different from each other and from the triangle's points.
pub record EndsApart (a b x y z : ℕ) : Type 0 where
  pub ends : a ≡ b → ⊥
  pub a_x : a ≡ x → ⊥
  pub a_y : a ≡ y → ⊥
  pub a_z : a ≡ z → ⊥
  pub b_x : b ≡ x → ⊥
  pub b_y : b ≡ y → ⊥
  pub b_z : b ≡ z → ⊥

module _ {a b x y z : ℕ} (apart : EndsApart a b x y z) where
  pub no_b : T (holds (plain_row a x y z) b) → ⊥
  no_b h = holds_cases (plain_row a x y z) b h (λ e. apart.ends (sym e)) apart.b_x apart.b_y apart.b_z

  pub no_a : T (holds (plain_row x y z b) a) → ⊥
  no_a h = holds_cases (plain_row x y z b) a h apart.a_x apart.a_y apart.a_z apart.ends

  module _ {l n : ℕ} (not : SideOf x y z n l → ⊥) where
    a_row_fact : {f : Face} → Turned (a, l, n) f → FaceOf f (plain_row a x y z) → ⊥
    a_row_fact e (no_p d) = three_cases (turned_in (turned_trans e d) (at_0 refl)) apart.a_x apart.a_y apart.a_z
    a_row_fact e (no_q d) = let (i, j) = same_two apart.a_z apart.a_y (turned_trans e d) in not (second j i)
    a_row_fact e (no_r d) = let (i, j) = same_two apart.a_x apart.a_z (turned_trans e d) in not (third j i)
    a_row_fact e (no_s d) = let (i, j) = same_two apart.a_y apart.a_x (turned_trans e d) in not (first j i)

    b_row_fact : {f : Face} → Turned (b, n, l) f → FaceOf f (plain_row x y z b) → ⊥
    b_row_fact e (no_p d) = let (i, j) = same_two apart.b_y apart.b_z (turned_trans (turned_trans e d) on) in not (second i j)
    b_row_fact e (no_q d) = let (i, j) = same_two apart.b_z apart.b_x (turned_trans (turned_trans e d) back) in not (third i j)
    b_row_fact e (no_r d) = let (i, j) = same_two apart.b_x apart.b_y (turned_trans (turned_trans e d) on) in not (first i j)
    b_row_fact e (no_s d) = three_cases (turned_in (turned_trans e d) (at_0 refl)) apart.b_x apart.b_z apart.b_y

    -- no face of the link's row is, reversed, one of the triangle's

    pub against_a : {f : Face} → FaceOf f (plain_row a b l n) → FaceOf (reversed f) (plain_row a x y z) → ⊥
    against_a (no_p e) h = no_b (face_holds h (reversed_in (turned_in (turned_sym e) (at_0 refl))))
    against_a (no_q e) h = a_row_fact (turned_sym (turned_reversed e)) h
    against_a (no_r e) h = no_b (face_holds h (reversed_in (turned_in (turned_sym e) (at_1 refl))))
    against_a (no_s e) h = no_b (face_holds h (reversed_in (turned_in (turned_sym e) (at_2 refl))))

    pub against_b : {f : Face} → FaceOf f (plain_row a b l n) → FaceOf (reversed f) (plain_row x y z b) → ⊥
    against_b (no_p e) h = b_row_fact (turned_sym (turned_reversed e)) h
    against_b (no_q e) h = no_a (face_holds h (reversed_in (turned_in (turned_sym e) (at_0 refl))))
    against_b (no_r e) h = no_a (face_holds h (reversed_in (turned_in (turned_sym e) (at_0 refl))))
    against_b (no_s e) h = no_a (face_holds h (reversed_in (turned_in (turned_sym e) (at_0 refl))))
