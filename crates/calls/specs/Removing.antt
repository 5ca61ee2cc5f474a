-- Requirement §9 of a removal: from all inputs to its answer, every byte of the output,
-- page row and ring.
use Rattle.std.specs.Prelude.{ℕ, ◌-◌, Bool, not, ◌||◌, List, [], ◌∷◌, ◌++◌, map, ◌≡◌, ltb, Result, Ok, Err}
use Rattle.std.proofs.Math.Option.{get_or}
use Rattle.lists.specs.Lists.{every, any}
use Rattle.quality.specs.declared.Quality.{Quality}
use Rattle.quality.specs.Quality.{worst, worse, zero_quality}
use Rattle.page.specs.declared.PageRow.{PageRow}
use Rattle.page.specs.Page.{shown, page_row}
use Rattle.rows.specs.declared.Row.{Row}
use Rattle.rows.specs.Rows.{version}
use Rattle.rows.specs.RowMeasure.{row_quality}
use Rattle.rows.specs.Regions.{mixed}
use Rattle.marking.specs.Marking.{mark_goes, dressed}
use Rattle.layout.specs.Layout.{Patch, max_rows, fields_of, bytes_of}
use Rattle.answers.specs.declared.Refusal.{Refusal}
use Rattle.answers.specs.Answers.{Tests, first_refusal, gives, written}
use Rattle.block.specs.Opening.{not_block, open_answer}
use Rattle.layout.specs.Layout.{sum_wrong}
use Rattle.body.specs.Body.{body_tests}
use Rattle.ring.specs.Ring.{Site, site_of, m, or_chains, edge_tests, length_tests, not_flat, ring_with}
use Rattle.triangulation.specs.Triangulation.{ways, new_rows, rows_after}
use Rattle.triangulation.specs.Admissible.{admissible}
use Rattle.triangulation.specs.Best.{worst_of_way, ring_ways, chosen}
use Rattle.tally.specs.Tally.{worst_of_patch}
use Rattle.calls.specs.declared.Removed.{Removed}

-- ---- what each answer is given for

-- answers 1 to 8 and 22 of a call with a block and an output block: both lengths before anything in the block
unfoldable pub block_tests : List ℕ → List ℕ → Tests
block_tests block out = (1, not_block block || not_block out) ∷ (2, sum_wrong block) ∷ body_tests block

-- the worst tetrahedron round the edge now
unfoldable pub worst_now : Site → Quality
worst_now site = get_or (worst (map (row_quality site.points) site.removed)) zero_quality

-- 14: rows afterwards would be over 60
abbrev pub no_room : Site → Bool
no_room site = ltb max_rows (rows_after site)

-- 15: no admissible triangulation
unfoldable pub no_way : Site → Bool
no_way site = not (any (admissible site) (ways (m site - 1)))

-- 16: none better: each such way makes a tetrahedron no better than the worst one round the edge now
unfoldable pub none_better : Site → Bool
none_better site = every (λ t. not (worse (worst_now site) (worst_of_way site 1 t))) (ring_ways site)

-- 23: a marked face would go, one that has both ends
abbrev pub mark_lost : Site → Bool
mark_lost site = mark_goes (site.a ∷ site.b ∷ []) site.removed

-- the new rows in written order, with their marks
abbrev pub rows_made : Site → List Row
rows_made site = dressed site.removed site.kept (new_rows site 1 (chosen site))

-- the patch afterwards: points stay; the kept rows in order, then the new rows
unfoldable pub patch_after : Site → Patch
patch_after site = record { points = site.points; rows = site.kept ++ rows_made site }

-- answers 19, 20, 23 and 14 to 16 of a removal: whether the ring or chain is replaced; 20: the rows that go have more than one region
abbrev pub replacement_tests : Site → Tests
replacement_tests site =
    (19, not_flat site)
    ∷ (20, mixed site.removed)
    ∷ (23, mark_lost site)
    ∷ (14, no_room site)
    ∷ (15, no_way site)
    ∷ (16, none_better site) ∷ []

-- answers 13 to 16 of a removal, 19 directly after 13, then 20 and 23
unfoldable pub removal_tests : Site → Tests
removal_tests site = length_tests site ++ replacement_tests site

-- ---- the removal of edge e f

-- numbered answers, tested from the top
unfoldable pub remove_answer : List ℕ → List ℕ → ℕ → ℕ → ℕ
remove_answer block out e f =
    let site = site_of (fields_of block) e f in
    first_refusal (block_tests block out ++ edge_tests or_chains site e f ++ removal_tests site)

-- each byte of the output block afterwards, which has its input's version
unfoldable pub remove_bytes : List ℕ → List ℕ → ℕ → ℕ → List ℕ
remove_bytes block out e f = written (remove_answer block out e f) (bytes_of (version block) (patch_after (site_of (fields_of block) e f))) out

-- the page row: the worst row before and afterwards
abbrev pub page_afterwards : List ℕ → ℕ → ℕ → PageRow
page_afterwards block e f =
    page_row (shown (worst_of_patch (fields_of block))) (shown (worst_of_patch (patch_after (site_of (fields_of block) e f))))

-- there is a page row, and the ring or chain beside it, only with answer 0 of a removal
unfoldable pub remove_gives : List ℕ → List ℕ → ℕ → ℕ → Result Removed Refusal
remove_gives block out e f =
    let site = site_of (fields_of block) e f in
    gives (remove_answer block out e f) (record { page = page_afterwards block e f; ring = ring_with site.ring })

-- the page row of what a removal gives, or its refusal
abbrev pub page_given : Result Removed Refusal → Result PageRow Refusal
page_given (Ok removed) = Ok removed.page
page_given (Err refusal) = Err refusal

-- ---- a premise of most laws

-- The block opens and answers 9 to 12 of a removal are not given, so the links make one closed ring or one open chain.
pub record Sound (block : List ℕ) (e f : ℕ) : Type 0 where
  pub opens : open_answer block ≡ 0
  pub one : first_refusal (edge_tests or_chains (site_of (fields_of block) e f) e f) ≡ 0
