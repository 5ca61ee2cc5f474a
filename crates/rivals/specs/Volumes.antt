-- Two wrong kernels by which the total D would change, each ours but for its removal.
use Rattle.std.specs.Prelude.{ℕ, not, List, [], ◌∷◌, ◌++◌, eqb}
use Rattle.lists.specs.Lists.{those}
use Rattle.rows.specs.declared.Row.{Row}
use Rattle.rows.specs.Rows.{version}
use Rattle.layout.specs.Layout.{Patch, fields_of, bytes_of}
use Rattle.answers.specs.Answers.{Tests, first_refusal, gives, written}
use Rattle.ring.specs.Ring.{Site, site_of, or_chains, edge_tests}
use Rattle.calls.specs.Removing.{block_tests, removal_tests, rows_made, patch_after, remove_answer, remove_gives}
use Rattle.demands.specs.Kernels.{Kernel}
use Rattle.rivals.specs.Useless.{with_remove, done_with}

-- ---- one that takes a chain that is not flat

-- all tests of a removal but that for 19
abbrev pub other_tests : List ℕ → List ℕ → ℕ → ℕ → Tests
other_tests block out e f =
    let site = site_of (fields_of block) e f in
    those (λ test. not (eqb test.0 19)) (block_tests block out ++ edge_tests or_chains site e f ++ removal_tests site)

-- where none of them is met it carries out what ours would; its page row and its ring are true
abbrev pub taking_bent : Kernel
taking_bent = with_remove (λ block out e f.
    let patch = fields_of block in
    let site = site_of patch e f in
    let after = patch_after site in
    let answer = first_refusal (other_tests block out e f) in
    (gives answer (done_with patch site after), written answer (bytes_of (version block) after) out))

-- ---- one that writes a new row with two numbers exchanged

-- the last two numbers of the first row
abbrev pub first_turned : List Row → List Row
first_turned [] = []
first_turned (row ∷ rows) = record { p = row.p; q = row.q; r = row.s; s = row.r; region = row.region; marks = row.marks } ∷ rows

-- the patch afterwards, with the first new row so
abbrev pub patch_turned : Site → Patch
patch_turned site = record { points = site.points; rows = site.kept ++ first_turned (rows_made site) }

-- it gives what ours gives, and writes that
abbrev pub turning_first : Kernel
turning_first = with_remove (λ block out e f.
    let site = site_of (fields_of block) e f in
    (remove_gives block out e f, written (remove_answer block out e f) (bytes_of (version block) (patch_turned site)) out))
