-- What even rearrangements of a row keep. The twelve come from two moves, `spin` and `cross`: what both moves keep, all twelve keep.
use Prim.Native.Nat.{ℕ, ◌<◌}
use mathlib.Core.Bool.{Bool, ◌&&◌}
use mathlib.Core.List.Memᴰ
use mathlib.Core.List.{Memᴰ}
use mathlib.Core.Path.{◌≡◌, refl, ◌∙◌}
use native.Mathlib.Omega.{arith}
use lib.Dec.{T, eqb, eqb→eq, eqb_refl}
use lib.ListN.{get_or}
use Rattle.lists.proofs.Tests.{and_l, and_r, and_i, same_test}
use Rattle.lists.proofs.Places.{in_cases, at_in}
use Rattle.lists.proofs.Lists.{any_i, any_e, each}
use Rattle.lists.proofs.Numbers.{has_i, has_e}
use Rattle.rows.specs.declared.Marks.{Marks}
use Rattle.rows.specs.declared.Row.{Row}
use Rattle.rows.specs.Labels.{same_marks}
use Rattle.rows.specs.Rows.{numbers, holds}
use Rattle.rows.specs.Tetrahedra.{of_corners, evenly, same_row, rearranged}
use Rattle.rows.proofs.LabelsReadBack.{same_marks_lem, same_marks_refl}

-- rows compared by their numbers, region and marks

pub same_row_lem : (t u : Row) → T (same_row t u) → t ≡ u
same_row_lem t u h =
    let a = eqb t.p u.p in
    let b = eqb t.q u.q in
    let c = eqb t.r u.r in
    let d = eqb t.s u.s in
    let e = eqb t.region u.region in
    let n = same_marks t.marks u.marks in
    let five = and_l (a && b && c && d && e) n h in
    let four = and_l (a && b && c && d) e five in
    let three = and_l (a && b && c) d four in
    let two = and_l (a && b) c three in
    equal t.p u.p t.q u.q t.r u.r t.s u.s t.region u.region t.marks u.marks
    (eqb→eq _ _ (and_l a b two)) (eqb→eq _ _ (and_r a b two)) (eqb→eq _ _ (and_r (a && b) c three))
    (eqb→eq _ _ (and_r (a && b && c) d four)) (eqb→eq _ _ (and_r (a && b && c && d) e five))
    (same_marks_lem t.marks u.marks (and_r (a && b && c && d && e) n h))
  where
    equal : (p p' q q' r r' s s' g g' : ℕ) (m m' : Marks) → p ≡ p' → q ≡ q' → r ≡ r' → s ≡ s' → g ≡ g' → m ≡ m'
        → ◌≡◌ {A = Row}
        (record { p = p; q = q; r = r; s = s; region = g; marks = m })
        (record { p = p'; q = q'; r = r'; s = s'; region = g'; marks = m' })
    equal p p' q q' r r' s s' g g' m m' a b c d e f = rw (a, b, c, d, e, f)

same_row_refl : (t : Row) → T (same_row t t)
same_row_refl t =
    and_i (eqb t.p t.p && eqb t.q t.q && eqb t.r t.r && eqb t.s t.s && eqb t.region t.region)
    (same_marks t.marks t.marks) (search (and_i, eqb_refl) depth 8) (same_marks_refl t.marks)

pub even_e : (t u : Row) → T (rearranged t u) → Memᴰ t (evenly u)
unfolding rearranged
even_e t u h = let k = any_e (same_row t) (evenly u) h in Memᴰ.cast (same_row_lem t k.0 k.2) k.1

pub even_i : (t u : Row) → Memᴰ t (evenly u) → T (rearranged t u)
unfolding rearranged
even_i t u m = any_i (same_row t) (evenly u) m (same_row_refl t)

-- the two moves

-- the last three corners turned round
abbrev pub spin : Row → Row
spin t = let m = t.marks in of_corners t.region (t.p, m.qrs) (t.r, m.pqs) (t.s, m.prq) (t.q, m.psr)

-- two pairs exchanged
abbrev pub cross : Row → Row
cross t = let m = t.marks in of_corners t.region (t.q, m.psr) (t.p, m.qrs) (t.s, m.prq) (t.r, m.pqs)

-- what both moves keep, every even rearrangement keeps
pub moved : (P : Row → Type 0) → ((t : Row) → P t → P (spin t)) → ((t : Row) → P t → P (cross t))
    → (t u : Row) → T (rearranged t u) → P u → P t
unfolding evenly
moved P a b t u e h =
    let a2 : (t : Row) → P t → P (spin (spin t)) = λ t h. a (spin t) (a t h) in
    let q = b u h in
    let r = b (spin u) (a u h) in
    let s = b (spin (spin u)) (a2 u h) in
    let s1 = cross (spin u) in
    let s2 = cross (spin (spin u)) in
    each P (evenly u)
    (h, (a u h, (a2 u h, (q, (a2 (cross u) q, (a (cross u) q, (r, (a s1 r, (a2 s1 r, (s, (a2 s2 s, (a s2 s, tt))))))))))))
    t (even_e t u e)

-- a test that both moves keep is one test for all twelve
pub even_test : (p : Row → Bool) → ((t : Row) → T (p t) → T (p (spin t))) → ((t : Row) → T (p t) → T (p (cross t)))
    → (t u : Row) → T (rearranged t u) → p t ≡ p u
even_test p a b t u e =
    moved (λ t. p t ≡ p u)
    (λ t e. same_test (p (spin t)) (p t) (λ h. a (spin (spin t)) (a (spin t) h)) (a t) ∙ e)
    (λ t e. same_test (p (cross t)) (p t) (b (cross t)) (b t) ∙ e) t u e refl

-- the numbers of a row

-- a number of a row is one of the four
pub holds_cases : {P : Type 0} (row : Row) (n : ℕ) → T (holds row n)
    → (n ≡ row.p → P) → (n ≡ row.q → P) → (n ≡ row.r → P) → (n ≡ row.s → P) → P
holds_cases row n h p q r s =
    in_cases (has_e (numbers row) n h) p λ m. in_cases m q λ m. in_cases m r λ m. in_cases m s λ m. absurd (Memᴰ.not-nil m)

holds_at : (row : Row) (i n : ℕ) → i < 4 → n ≡ get_or (numbers row) i 0 → T (holds row n)
holds_at row i n l e = rw e (has_i (numbers row) (at_in (numbers row) i 0 l))

spin_holds : (n : ℕ) (t : Row) → T (holds t n) → T (holds (spin t) n)
spin_holds n t h =
    let at = holds_at (spin t) in
    holds_cases t n h (at 0 n (omega arith)) (at 3 n (omega arith)) (at 1 n (omega arith)) (at 2 n (omega arith))

cross_holds : (n : ℕ) (t : Row) → T (holds t n) → T (holds (cross t) n)
cross_holds n t h =
    let at = holds_at (cross t) in
    holds_cases t n h (at 1 n (omega arith)) (at 0 n (omega arith)) (at 3 n (omega arith)) (at 2 n (omega arith))

-- an even rearrangement holds the same numbers
pub even_holds : (t u : Row) → T (rearranged t u) → (n : ℕ) → holds t n ≡ holds u n
even_holds t u e n = even_test (λ t. holds t n) (spin_holds n) (cross_holds n) t u e

pub even_region : (t u : Row) → T (rearranged t u) → t.region ≡ u.region
even_region t u e = moved (λ t. t.region ≡ u.region) (λ t h. h) (λ t h. h) t u e refl
