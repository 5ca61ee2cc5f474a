-- Turning a face round: the test of sameness as a view with three cases; the faces that a row uses as a view with four.
-- A proof goes by the cases of the view, never by those of the test.
use Prim.Native.Nat.{ℕ}
use mathlib.Core.Bool.{◌&&◌, ◌||◌}
use mathlib.Core.List.{Memᴰ}
use mathlib.Core.Logic.{◌⊎◌, inl, inr}
use mathlib.Core.Path.{◌≡◌, refl, sym, ◌∙◌}
use lib.Dec.{T, eqb, eqb→eq}
use Rattle.lists.proofs.Tests.{and_l, and_r, and_i, or_l, or_r, or_e, same_test, eq_test}
use Rattle.lists.proofs.Lists.{each, any_i, any_e}
use Rattle.rows.specs.declared.Row.{Row}
use Rattle.mesh.specs.Mesh.{Face, faces, same_three, same_face, uses, reversed}

-- ---- turning a face round

-- The ways in which two faces are one.
pub data Turned (f g : Face) : Type 0 where
  as_is : f.0 ≡ g.0 → f.1 ≡ g.1 → f.2 ≡ g.2 → Turned f g
  once : f.0 ≡ g.1 → f.1 ≡ g.2 → f.2 ≡ g.0 → Turned f g
  twice : f.0 ≡ g.2 → f.1 ≡ g.0 → f.2 ≡ g.1 → Turned f g

pub stay : {x y z : ℕ} → Turned (x, y, z) (x, y, z)
stay = as_is refl refl refl

pub on : {x y z : ℕ} → Turned (y, z, x) (x, y, z)
on = once refl refl refl

pub back : {x y z : ℕ} → Turned (z, x, y) (x, y, z)
back = twice refl refl refl

three_e : (f g : Face) → T (same_three f g) → (f.0 ≡ g.0) × (f.1 ≡ g.1) × (f.2 ≡ g.2)
three_e f g h =
    let a = eqb f.0 g.0 in
    let b = eqb f.1 g.1 in
    let c = eqb f.2 g.2 in (
      eqb→eq f.0 g.0 (and_l a b (and_l (a && b) c h)),
      eqb→eq f.1 g.1 (and_r a b (and_l (a && b) c h)),
      eqb→eq f.2 g.2 (and_r (a && b) c h),
    )

pub same_turned : (f g : Face) → T (same_face f g) → Turned f g
unfolding same_face
same_turned f g h = go (or_e (same_three f g || same_three f (g.1, g.2, g.0)) (same_three f (g.2, g.0, g.1)) h)
  where
    early : T (same_three f g) ⊎ T (same_three f (g.1, g.2, g.0)) → Turned f g
    early (inl h) = let k = three_e f g h in as_is k.0 k.1 k.2
    early (inr h) = let k = three_e f (g.1, g.2, g.0) h in once k.0 k.1 k.2

    go : T (same_three f g || same_three f (g.1, g.2, g.0)) ⊎ T (same_three f (g.2, g.0, g.1)) → Turned f g
    go (inl h) = early (or_e (same_three f g) (same_three f (g.1, g.2, g.0)) h)
    go (inr h) = let k = three_e f (g.2, g.0, g.1) h in twice k.0 k.1 k.2

pub turned_same : (f g : Face) → Turned f g → T (same_face f g)
unfolding same_face
turned_same f g (as_is a b c) = search (or_l, or_r, and_i, eq_test)
turned_same f g (once a b c) = search (or_l, or_r, and_i, eq_test)
turned_same f g (twice a b c) = search (or_l, or_r, and_i, eq_test)

pub turned_sym : {f g : Face} → Turned f g → Turned g f
turned_sym (as_is a b c) = as_is (sym a) (sym b) (sym c)
turned_sym (once a b c) = twice (sym c) (sym a) (sym b)
turned_sym (twice a b c) = once (sym b) (sym c) (sym a)

pub turned_trans : {f g h : Face} → Turned f g → Turned g h → Turned f h
turned_trans (as_is a b c) (as_is d e f) = as_is (a ∙ d) (b ∙ e) (c ∙ f)
turned_trans (as_is a b c) (once d e f) = once (a ∙ d) (b ∙ e) (c ∙ f)
turned_trans (as_is a b c) (twice d e f) = twice (a ∙ d) (b ∙ e) (c ∙ f)
turned_trans (once a b c) (as_is d e f) = once (a ∙ e) (b ∙ f) (c ∙ d)
turned_trans (once a b c) (once d e f) = twice (a ∙ e) (b ∙ f) (c ∙ d)
turned_trans (once a b c) (twice d e f) = as_is (a ∙ e) (b ∙ f) (c ∙ d)
turned_trans (twice a b c) (as_is d e f) = twice (a ∙ f) (b ∙ d) (c ∙ e)
turned_trans (twice a b c) (once d e f) = as_is (a ∙ f) (b ∙ d) (c ∙ e)
turned_trans (twice a b c) (twice d e f) = once (a ∙ f) (b ∙ d) (c ∙ e)

pub turned_reversed : {f g : Face} → Turned f g → Turned (reversed f) (reversed g)
turned_reversed (as_is a b c) = as_is a c b
turned_reversed (once a b c) = twice a c b
turned_reversed (twice a b c) = once a c b

-- what does not change as a face is turned
pub turned_equal : (n : ℕ → ℕ → ℕ → ℕ) → ((x y z : ℕ) → n x y z ≡ n y z x) → (f g : Face) → Turned f g
    → n f.0 f.1 f.2 ≡ n g.0 g.1 g.2
turned_equal n turn f g (as_is a b c) = rw (a, b, c)
turned_equal n turn f g (once a b c) = rw (a, b, c) (sym (turn g.0 g.1 g.2))
turned_equal n turn f g (twice a b c) = rw (a, b, c) (turn g.2 g.0 g.1)

-- ---- the faces of a row

-- what holds of a row's four faces holds of every face in their list
pub each_face : (P : Face → Type 0) (row : Row)
    → P (row.q, row.r, row.s) → P (row.p, row.s, row.r) → P (row.p, row.q, row.s) → P (row.p, row.r, row.q)
    → (f : Face) → Memᴰ f (faces row) → P f
unfolding faces
each_face P row a b c d f m = each P (faces row) (a, (b, (c, (d, tt)))) f m

-- a face that a row uses is one of its four, turned
pub uses_e : (f : Face) (row : Row) → T (uses f row) → (g : Face) × Memᴰ g (faces row) × Turned f g
unfolding uses
uses_e f row h = let k = any_e (same_face f) (faces row) h in (k.0, k.1, same_turned f k.0 k.2)

pub uses_i : (f g : Face) (row : Row) → Memᴰ g (faces row) → Turned f g → T (uses f row)
unfolding uses
uses_i f g row m e = any_i (same_face f) (faces row) m (turned_same f g e)

-- The face is the one of the row's four that leaves out p, q, r or s.
pub data FaceOf (f : Face) (row : Row) : Type 0 where
  no_p : Turned f (row.q, row.r, row.s) → FaceOf f row
  no_q : Turned f (row.p, row.s, row.r) → FaceOf f row
  no_r : Turned f (row.p, row.q, row.s) → FaceOf f row
  no_s : Turned f (row.p, row.r, row.q) → FaceOf f row

-- rows with the same four numbers have the same faces
pub same_faces : (f : Face) (t u : Row) → t.p ≡ u.p → t.q ≡ u.q → t.r ≡ u.r → t.s ≡ u.s → FaceOf f u → FaceOf f t
same_faces f t u p q r s (no_p e) = no_p (rw (q, r, s) e)
same_faces f t u p q r s (no_q e) = no_q (rw (p, r, s) e)
same_faces f t u p q r s (no_r e) = no_r (rw (p, q, s) e)
same_faces f t u p q r s (no_s e) = no_s (rw (p, q, r) e)

pub uses_face : (f : Face) (row : Row) → T (uses f row) → FaceOf f row
uses_face f row h = let k = uses_e f row h in each_face (λ g. Turned f g → FaceOf f row) row no_p no_q no_r no_s k.0 k.1 k.2

pub face_uses : (f : Face) (row : Row) → FaceOf f row → T (uses f row)
unfolding faces
face_uses f row (no_p e) = uses_i f _ row (Memᴰ.head refl) e
face_uses f row (no_q e) = uses_i f _ row (Memᴰ.tail (Memᴰ.head refl)) e
face_uses f row (no_r e) = uses_i f _ row (Memᴰ.tail (Memᴰ.tail (Memᴰ.head refl))) e
face_uses f row (no_s e) = uses_i f _ row (Memᴰ.tail (Memᴰ.tail (Memᴰ.tail (Memᴰ.head refl)))) e

-- a row that uses a face uses it turned
pub uses_turned : (f g : Face) (row : Row) → Turned f g → uses f row ≡ uses g row
uses_turned f g row e = same_test (uses f row) (uses g row) (to f g (turned_sym e)) (to g f e)
  where
    to : (f g : Face) → Turned g f → T (uses f row) → T (uses g row)
    to f g e h = let k = uses_e f row h in uses_i g k.0 row k.1 (turned_trans e k.2)
