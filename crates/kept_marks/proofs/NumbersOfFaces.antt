-- The three numbers of a face: turned or the other way round it has the same, and a row holds those of its faces. A marked face that has
-- all of some numbers is one that 23 sees.
use Prim.Native.Nat.{ℕ}
use mathlib.Core.Bool.{false, ◌&&◌}
use mathlib.Core.List.Memᴰ
use mathlib.Core.List.{List, [], ◌∷◌, ◌++◌, Memᴰ}
use mathlib.Core.Logic.{◌⊎◌, inl, inr}
use mathlib.Core.Path.{◌≡◌, ◌∙◌, subst}
use lib.Dec.{T}
use Rattle.lists.specs.Lists.{any, has}
use Rattle.lists.proofs.Tests.{and_l, and_r, and_i, or_l, or_e}
use Rattle.lists.proofs.Places.{in_cases}
use Rattle.lists.proofs.Lists.{any_i, any_e, every_at, every_i}
use Rattle.lists.proofs.Numbers.{has_i, has_e}
use Rattle.rows.specs.declared.Row.{Row}
use Rattle.rows.specs.Rows.{numbers, holds}
use Rattle.mesh.specs.Mesh.{Face, uses, uses_either_way, reversed}
use Rattle.mesh.proofs.TurnedFaces.{Turned, as_is, once, twice, stay, FaceOf, no_p, no_q, no_r, no_s, uses_face}
use Rattle.marking.specs.Marking.{marked_faces, marks, marks_over, mark_goes}
use Rattle.kept_marks.specs.Replacing.{has_all, NoMarkGoes}
use Rattle.dressing.proofs.NewMarks.{marks_uses}
use Rattle.kept_marks.proofs.MarksOfRows.{marks_e, marks_i}

abbrev pub three_of : Face → List ℕ
three_of f = f.0 ∷ f.1 ∷ f.2 ∷ []

-- the places of a number in a face

pub at_0 : {x y z n : ℕ} → n ≡ x → Memᴰ n (x ∷ y ∷ z ∷ [])
at_0 e = Memᴰ.head e

pub at_1 : {x y z n : ℕ} → n ≡ y → Memᴰ n (x ∷ y ∷ z ∷ [])
at_1 e = Memᴰ.tail (Memᴰ.head e)

pub at_2 : {x y z n : ℕ} → n ≡ z → Memᴰ n (x ∷ y ∷ z ∷ [])
at_2 e = Memᴰ.tail (Memᴰ.tail (Memᴰ.head e))

pub three_cases : {P : Type 0} {x y z n : ℕ} → Memᴰ n (x ∷ y ∷ z ∷ []) → (n ≡ x → P) → (n ≡ y → P) → (n ≡ z → P) → P
three_cases m f g h = in_cases m f λ m. in_cases m g λ m. in_cases m h λ m. absurd (Memᴰ.not-nil m)

pub turned_in : {f g : Face} {n : ℕ} → Turned f g → Memᴰ n (three_of f) → Memᴰ n (three_of g)
turned_in (as_is a b c) m = three_cases m (λ e. at_0 (e ∙ a)) (λ e. at_1 (e ∙ b)) (λ e. at_2 (e ∙ c))
turned_in (once a b c) m = three_cases m (λ e. at_1 (e ∙ a)) (λ e. at_2 (e ∙ b)) (λ e. at_0 (e ∙ c))
turned_in (twice a b c) m = three_cases m (λ e. at_2 (e ∙ a)) (λ e. at_0 (e ∙ b)) (λ e. at_1 (e ∙ c))

pub reversed_in : {x y z n : ℕ} → Memᴰ n (x ∷ y ∷ z ∷ []) → Memᴰ n (x ∷ z ∷ y ∷ [])
reversed_in m = three_cases m at_0 at_2 at_1

-- a row holds the numbers of its faces
pub face_holds : {f : Face} {row : Row} {n : ℕ} → FaceOf f row → Memᴰ n (three_of f) → T (holds row n)
face_holds {f} {row} {n} face m = has_i (numbers row) (go face)
  where
    second : {p q r s : ℕ} → n ≡ q → Memᴰ n (p ∷ q ∷ r ∷ s ∷ [])
    second e = Memᴰ.tail (at_0 e)

    third : {p q r s : ℕ} → n ≡ r → Memᴰ n (p ∷ q ∷ r ∷ s ∷ [])
    third e = Memᴰ.tail (at_1 e)

    last : {p q r s : ℕ} → n ≡ s → Memᴰ n (p ∷ q ∷ r ∷ s ∷ [])
    last e = Memᴰ.tail (at_2 e)

    go : FaceOf f row → Memᴰ n (numbers row)
    go (no_p e) = Memᴰ.tail (turned_in e m)
    go (no_q e) = three_cases (turned_in e m) Memᴰ.head last third
    go (no_r e) = three_cases (turned_in e m) Memᴰ.head second last
    go (no_s e) = three_cases (turned_in e m) Memᴰ.head third second

-- also of those that it uses the other way round
pub either_holds : (f : Face) (row : Row) {n : ℕ} → T (uses_either_way f row) → Memᴰ n (three_of f) → T (holds row n)
either_holds f row {n} h m = go (or_e (uses f row) (uses (reversed f) row) h)
  where
    go : T (uses f row) ⊎ T (uses (reversed f) row) → T (holds row n)
    go (inl u) = face_holds (uses_face f row u) m
    go (inr u) = face_holds (uses_face (reversed f) row u) (reversed_in m)

pub all_in : (ns : List ℕ) (f : Face) → T (has_all ns f) → {n : ℕ} → Memᴰ n ns → Memᴰ n (three_of f)
all_in ns f h {n} m = has_e (three_of f) n (every_at (has (three_of f)) ns h m)

pub in_all : (ns : List ℕ) (f : Face) → ((n : ℕ) → Memᴰ n ns → Memᴰ n (three_of f)) → T (has_all ns f)
in_all ns f h = every_i (has (three_of f)) ns (λ n m. has_i (three_of f) (h n m))

-- a row marks a face that has all these numbers, as a statement

pub over_e : (ns : List ℕ) (row : Row) → T (marks_over ns row) → (f : Face) × T (has_all ns f) × T (marks f row)
unfolding marks_over
over_e ns row h =
    let (g, at, k) = any_e (λ g. has_all ns g.0 && g.1) (marked_faces row) h in
    (g.0, and_l (has_all ns g.0) g.1 k, marks_i g.0 g row at stay (and_r (has_all ns g.0) g.1 k))

pub over_i : (ns : List ℕ) (row : Row) (f : Face) → T (has_all ns f) → T (marks f row) → T (marks_over ns row)
unfolding marks_over
over_i ns row f all marked =
    let (g, at, e, mark) = marks_e f row marked in
    any_i (λ g. has_all ns g.0 && g.1) (marked_faces row) at
    (and_i (has_all ns g.0) g.1 (in_all ns g.0 (λ n m. turned_in e (all_in ns f all m))) mark)

-- so where the other faces pass to new rows and 23 is not given, no marked face goes
pub none_goes : (ns : List ℕ) (removed kept new : List Row)
    → ((f : Face) (row : Row) → Memᴰ row removed → T (uses f row) → T (has_all ns f) ⊎ T (any (uses f) new))
    → mark_goes ns removed ≡ false → NoMarkGoes removed (kept ++ new)
none_goes ns removed kept new passes clear f marked =
    let (row, k, h) = any_e (marks f) removed marked in
    go k h (passes f row k (marks_uses f row h))
  where
    go : {row : Row} → Memᴰ row removed → T (marks f row) → T (has_all ns f) ⊎ T (any (uses f) new)
        → T (any (uses_either_way f) (kept ++ new))
    go k h (inl all) = absurd (subst T clear (any_i (marks_over ns) removed k (over_i ns _ f all h)))
    go k h (inr used) =
        let (row, k, u) = any_e (uses f) new used in
        any_i (uses_either_way f) (kept ++ new) (Memᴰ.append_right kept k) (or_l (uses f row) (uses (reversed f) row) u)
