-- A row that marks a face with some numbers holds these numbers: asked of all rows of a table, or of those alone that go, it is one question.
use Prim.Native.Nat.{ℕ, ◌<◌}
use mathlib.Core.Bool.{Bool, true, false, ◌&&◌}
use mathlib.Core.List.Memᴰ
use mathlib.Core.List.{List, [], ◌∷◌, Memᴰ}
use mathlib.Core.Path.{◌≡◌, refl, ap, ◌∙◌}
use native.Mathlib.Omega.{arith}
use lib.Dec.{T}
use lib.ListN.{get_or}
use Rattle.lists.specs.Lists.{every, any, those, has}
use Rattle.lists.proofs.Tests.{and_l, and_true, same_test}
use Rattle.lists.proofs.Lists.{every_at, every_i, any_i, any_e, any_same, those_e, those_i, those_same, each}
use Rattle.lists.proofs.Numbers.{has_i, has_e}
use Rattle.lists.proofs.Places.{in_cases, at_in}
use Rattle.rows.specs.declared.Row.{Row}
use Rattle.rows.specs.Rows.{numbers, holds, holds_edge, holds_face}
use Rattle.mesh.specs.Mesh.{Face}
use Rattle.marking.specs.Marking.{marked_faces, marks_over, mark_goes}

-- a face of a row has numbers of the row
of_row : (row : Row) (g : Face × Bool) → Memᴰ g (marked_faces row) → (n : ℕ) → T (has (g.0.0 ∷ g.0.1 ∷ g.0.2 ∷ []) n) → T (holds row n)
unfolding marked_faces
of_row row =
    each (λ g. (n : ℕ) → T (has (g.0.0 ∷ g.0.1 ∷ g.0.2 ∷ []) n) → T (holds row n)) (marked_faces row)
    (three _ _ _ q r s, (three _ _ _ p s r, (three _ _ _ p q s, (three _ _ _ p r q, tt))))
  where
    own : (i : ℕ) → i < 4 → T (holds row (get_or (numbers row) i 0))
    own i h = has_i (numbers row) (at_in (numbers row) i 0 h)

    p : T (holds row row.p)
    p = own 0 (omega arith)

    q : T (holds row row.q)
    q = own 1 (omega arith)

    r : T (holds row row.r)
    r = own 2 (omega arith)

    s : T (holds row row.s)
    s = own 3 (omega arith)

    three : (x y z : ℕ) → T (holds row x) → T (holds row y) → T (holds row z) → (n : ℕ) → T (has (x ∷ y ∷ z ∷ []) n) → T (holds row n)
    three x y z a b c n h =
        in_cases (has_e (x ∷ y ∷ z ∷ []) n h) (λ e. rw e a) λ k. in_cases k (λ e. rw e b) λ k. in_cases k (λ e. rw e c) λ k.
        absurd (Memᴰ.not-nil k)

-- so the row holds all of them
over_holds : (ns : List ℕ) (row : Row) → T (marks_over ns row) → T (holds_face ns row)
unfolding marks_over
over_holds ns row h =
    let (g, m, k) = any_e (λ g. every (has (g.0.0 ∷ g.0.1 ∷ g.0.2 ∷ [])) ns && g.1) (marked_faces row) h in
    let all = and_l (every (has (g.0.0 ∷ g.0.1 ∷ g.0.2 ∷ [])) ns) g.1 k in
    every_i (holds row) ns (λ n i. of_row row g m n (every_at (has (g.0.0 ∷ g.0.1 ∷ g.0.2 ∷ [])) ns all i))

-- of all rows, or of those that hold them
pub goes_among : (ns : List ℕ) (rows : List Row) → any (marks_over ns) rows ≡ mark_goes ns (those (holds_face ns) rows)
goes_among ns rows =
    same_test (any (marks_over ns) rows) (mark_goes ns (those (holds_face ns) rows))
    (λ h. let (row, m, k) = any_e (marks_over ns) rows h in
    any_i (marks_over ns) (those (holds_face ns) rows) (those_i (holds_face ns) rows m (over_holds ns row k)) k)
    (λ h. let (row, m, k) = any_e (marks_over ns) (those (holds_face ns) rows) h in any_i (marks_over ns) rows (those_e (holds_face ns) rows m).0 k)

-- an edge, given with its second end twice
twice : (a b : Bool) → a && (b && (b && true)) ≡ a && (b && true)
twice true true = refl
twice true false = refl
twice false b = refl

pub edge_goes_among : (a b : ℕ) (rows : List Row) → any (marks_over (a ∷ b ∷ b ∷ [])) rows ≡ mark_goes (a ∷ b ∷ []) (those (holds_edge a b) rows)
unfolding marks_over every
edge_goes_among a b rows =
    any_same (marks_over (a ∷ b ∷ b ∷ [])) (marks_over (a ∷ b ∷ [])) rows (λ row m.
    any_same (λ g. every (has (g.0.0 ∷ g.0.1 ∷ g.0.2 ∷ [])) (a ∷ b ∷ b ∷ []) && g.1)
    (λ g. every (has (g.0.0 ∷ g.0.1 ∷ g.0.2 ∷ [])) (a ∷ b ∷ []) && g.1) (marked_faces row)
    (λ g k. ap (λ c. c && g.1) (twice (has (g.0.0 ∷ g.0.1 ∷ g.0.2 ∷ []) a) (has (g.0.0 ∷ g.0.1 ∷ g.0.2 ∷ []) b))))
    ∙ goes_among (a ∷ b ∷ []) rows
    ∙ ap (mark_goes (a ∷ b ∷ [])) (those_same (holds_face (a ∷ b ∷ [])) (holds_edge a b) (λ row. ap (λ c. holds row a && c) (and_true (holds row b))) rows)
