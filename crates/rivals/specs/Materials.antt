-- Wrong kernels that lose an interface between two materials, or refuse it at the wrong place: each ours but for its removal or its flip.
use Rattle.std.specs.Prelude.{ℕ, not, [], ◌∷◌, ◌++◌, map, eqb, get_or, take, drop}
use Rattle.lists.specs.Lists.{those}
use Rattle.rows.specs.declared.Row.{Row}
use Rattle.rows.specs.Rows.{version, no_row}
use Rattle.rows.specs.Regions.{mixed}
use Rattle.layout.specs.Layout.{Patch, fields_of, bytes_of}
use Rattle.answers.specs.Answers.{Tests, first_refusal, answer_of, gives, written}
use Rattle.ring.specs.Ring.{Site, site_of, or_chains, edge_tests, length_tests, not_flat}
use Rattle.calls.specs.Removing.{block_tests, mark_lost, no_room, no_way, none_better, rows_made, patch_after}
use Rattle.calls.specs.Flipping.{flip_tests, patch_flipped}
use Rattle.demands.specs.Kernels.{Kernel}
use Rattle.full_blocks.specs.FullBlocks.{six_ring}
use Rattle.facts.specs.Joint.{row_of}
use Rattle.rivals.specs.Useless.{with_remove, done_with}
use Rattle.rivals.specs.WrongFlips.{with_flip}

-- ---- the removal

-- ours, with other tests behind 13 and another patch afterwards; its page row and its ring are true
abbrev removing : (Site → Tests) → (Site → Patch) → Kernel
removing tests after = with_remove (λ block out e f.
    let patch = fields_of block in
    let site = site_of patch e f in
    let answer = first_refusal (block_tests block out ++ edge_tests or_chains site e f ++ length_tests site ++ tests site) in
    (gives answer (done_with patch site (after site)), written answer (bytes_of (version block) (after site)) out))

-- one that looks at two of the rows that go
abbrev pub looking_at_two : Kernel
looking_at_two = removing (λ site.
    (19, not_flat site)
    ∷ (20, mixed (take 2 site.removed))
    ∷ (23, mark_lost site)
    ∷ (14, no_room site)
    ∷ (15, no_way site)
    ∷ (16, none_better site) ∷ [])
    patch_after

-- one that tests 20 after room
abbrev pub room_first : Kernel
room_first = removing (λ site.
    (19, not_flat site)
    ∷ (14, no_room site)
    ∷ (20, mixed site.removed)
    ∷ (23, mark_lost site)
    ∷ (15, no_way site)
    ∷ (16, none_better site) ∷ [])
    patch_after

-- the row in a region
abbrev in_one : ℕ → Row → Row
in_one region row = record { p = row.p; q = row.q; r = row.r; s = row.s; region = region; marks = row.marks }

-- one that takes every ring and chain, and gives the new rows the region of one row that went
abbrev pub taking_several : Kernel
taking_several = removing (λ site.
    (19, not_flat site) ∷ (23, mark_lost site) ∷ (14, no_room site) ∷ (15, no_way site) ∷ (16, none_better site) ∷ []) (λ site. record {
      points = site.points;
      rows = site.kept ++ map (in_one (get_or site.removed 0 no_row).region) (rows_made site);
    })

-- ---- the flip

-- one whose removal tests 20 and whose flip does not
abbrev pub flipping_several : Kernel
flipping_several = with_flip (λ block out numbers.
    let patch = fields_of block in
    let tests = those (λ test. not (eqb test.0 20)) (flip_tests patch numbers) in
    let answer = first_refusal (block_tests block out ++ tests) in
    (answer_of answer, written answer (bytes_of (version block) (patch_flipped patch numbers)) out))

-- ---- a block that shows one of them up

-- a ring of six of two regions in 59 rows
unfoldable pub full_of_two : Patch
full_of_two = let full = six_ring 53 in record { points = full.points; rows = row_of 8 2 3 ∷ drop 1 full.rows }
