-- Requirement §8: one call for both plain flips, from all inputs to its answer and every byte of the output. Two numbers are the ends of an
-- edge, three are a face.
use Rattle.std.specs.Prelude.{ℕ, max, true, not, eqb, ltb, length}
use mathlib.Core.List.{List, [], ◌∷◌, ◌++◌, map, foldr}
use Rattle.lists.specs.Lists.{those, first_or, has}
use Rattle.rows.specs.declared.Row.{Row}
use Rattle.rows.specs.Labels.{no_marks}
use Rattle.rows.specs.Rows.{version, numbers, holds_face, no_row}
use Rattle.rows.specs.Regions.{region_of, mixed}
use Rattle.mesh.specs.Mesh.{keeps_mesh_rule}
use Rattle.rows.specs.Tetrahedra.{arranged_from}
use Rattle.marking.specs.Marking.{mark_goes, dressed}
use Rattle.layout.specs.Layout.{Patch, max_rows, fields_of, bytes_of}
use Rattle.answers.specs.Answers.{Tests, first_refusal, written}
use Rattle.ring.specs.Ring.{Site, site_of, m, min_ring, numbers_wrong, rings_alone, edge_tests}
use Rattle.walk.specs.Walk.{smallest}
use Rattle.calls.specs.Removing.{block_tests, no_way, mark_lost, rows_made, patch_after}

-- ---- the 3-2 flip: removal of an edge with a closed ring of m = 3, with no quality test

-- answers 13, 20, 23 and 15 of a 3-2 flip; 13: m is not 3; 20: the rows that go have more than one region; one row fewer comes than goes,
-- so there is always room
unfoldable pub flip32_tests : Site → Tests
flip32_tests site =
    (13, not (eqb (m site) min_ring))
    ∷ (20, mixed site.removed)
    ∷ (23, mark_lost site)
    ∷ (15, no_way site) ∷ []

-- ---- the 2-3 flip: a face in two rows

-- the apex of a row over the face: its number that the face has not
unfoldable pub apex_over : List ℕ → Row → ℕ
apex_over face row = first_or 0 (λ n. not (has face n)) (numbers row)

-- A face in its patch: the rows that go and the rows kept, each in order; a is the smaller apex, b the other; a's row.
pub record Pair : Type 0 where
  pub removed : List Row
  pub kept : List Row
  pub a : ℕ
  pub b : ℕ
  pub row_of_a : Row

-- the rows that hold the face, their apexes and the other rows
unfoldable pub pair_of : Patch → List ℕ → Pair
pair_of patch face =
    let removed = those (holds_face face) patch.rows in
    let kept = those (λ row. not (holds_face face row)) patch.rows in
    let apexes = map (apex_over face) removed in
    let a = smallest apexes in
    let b = foldr max 0 apexes in
    let row_of_a = first_or no_row (λ row. eqb (apex_over face row) a) removed in
    record { removed = removed; kept = kept; a = a; b = b; row_of_a = row_of_a }

-- u is the smallest number of the face, and (a,u,v,w) an even arrangement of a's row: (a,b,u,v), (a,b,v,w), (a,b,w,u), with the region of
-- both removed rows
unfoldable pub three_rows : Pair → List ℕ → List Row
three_rows pair face =
    let t = arranged_from pair.a (smallest face) pair.row_of_a in
    let u = t.q in
    let v = t.r in
    let w = t.s in
    let region = region_of pair.removed in
    let row : ℕ → ℕ → Row = λ x y. record { p = pair.a; q = pair.b; r = x; s = y; region = region; marks = no_marks } in
    row u v ∷ row v w ∷ row w u ∷ []

-- the three with their marks
abbrev pub three_made : Pair → List ℕ → List Row
three_made pair face = dressed pair.removed pair.kept (three_rows pair face)

-- both rows go; the three are appended
unfoldable pub patch_after23 : Patch → List ℕ → Patch
patch_after23 patch face =
    let pair = pair_of patch face in
    record { points = patch.points; rows = pair.kept ++ three_made pair face }

-- answers 9 to 11, 18, 20, 23, 14 and 15 of a 2-3 flip; 23: the face is marked
unfoldable pub flip23_tests : Patch → List ℕ → Tests
flip23_tests patch face =
    let count = length patch.points in
    let pair = pair_of patch face in
    let rows = (patch_after23 patch face).rows in
    (9, numbers_wrong count face)
    ∷ (10, eqb (length pair.removed) 0)
    ∷ (11, eqb (length pair.removed) 1)
    ∷ (18, eqb pair.a pair.b)
    ∷ (20, mixed pair.removed)
    ∷ (23, mark_goes face pair.removed)
    ∷ (14, ltb max_rows (length rows))
    ∷ (15, not (keeps_mesh_rule count rows)) ∷ []

-- ---- the call

-- a value for two numbers, one for three and one for any other count
abbrev pub by_count : {A : Type 0} → (ℕ → ℕ → A) → (ℕ → ℕ → ℕ → A) → A → List ℕ → A
by_count two three other [] = other
by_count two three other (x ∷ []) = other
by_count two three other (x ∷ y ∷ []) = two x y
by_count two three other (x ∷ y ∷ z ∷ []) = three x y z
by_count two three other (x ∷ y ∷ z ∷ w ∷ more) = other

-- its answers behind those of the block; 21: neither two nor three numbers are given, whatever they are
unfoldable pub flip_tests : Patch → List ℕ → Tests
flip_tests patch =
    by_count
    (λ e f. let site = site_of patch e f in edge_tests rings_alone site e f ++ flip32_tests site)
    (λ x y z. flip23_tests patch (x ∷ y ∷ z ∷ []))
    ((21, true) ∷ [])

-- the new rows in written order
unfoldable pub rows_flipped : Patch → List ℕ → List Row
rows_flipped patch =
    by_count
    (λ e f. rows_made (site_of patch e f))
    (λ x y z. let face = x ∷ y ∷ z ∷ [] in three_made (pair_of patch face) face)
    []

-- the patch afterwards; with any other count, which is refused, it is as it was and is never written
unfoldable pub patch_flipped : Patch → List ℕ → Patch
patch_flipped patch =
    by_count
    (λ e f. patch_after (site_of patch e f))
    (λ x y z. patch_after23 patch (x ∷ y ∷ z ∷ []))
    patch

-- numbered answers, tested from the top
unfoldable pub flip_answer : List ℕ → List ℕ → List ℕ → ℕ
flip_answer block out numbers = first_refusal (block_tests block out ++ flip_tests (fields_of block) numbers)

-- each byte of the output block afterwards
unfoldable pub flip_bytes : List ℕ → List ℕ → List ℕ → List ℕ
flip_bytes block out numbers = written (flip_answer block out numbers) (bytes_of (version block) (patch_flipped (fields_of block) numbers)) out
