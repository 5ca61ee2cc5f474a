-- Facts 8 and 9 at every place: of a patch that a block may hold the answer is that of the tests behind 22, and with a closed ring those as
-- far as 15 ask for rows and for the number of points alone, so they compute without a place.
use Prim.Native.Nat.{ℕ, ◌≤◌}
use mathlib.Core.Bool.{true, ◌&&◌}
use mathlib.Core.List.{[], ◌∷◌, ◌++◌, append_assoc}
use mathlib.Core.Path.{◌≡◌, refl, ap, ◌∙◌}
use borrow.Author.Tests.{lt-ltb}
use native.Mathlib.Omega.{arith}
use lib.Dec.{T, ltb, lit≤}
use Rattle.layout.specs.Layout.{Patch, fields_of, bytes_of}
use Rattle.block.specs.Holding.{Holdable}
use Rattle.answers.specs.Answers.{Tests, first_refusal}
use Rattle.block.specs.Opening.{not_block}
use Rattle.answers.proofs.Refusals.{goes_on}
use Rattle.layout.proofs.PatchWritten.{read_written}
use Rattle.block.proofs.RoundTrip.{opens_written}
use Rattle.ring.specs.Ring.{site_of, or_chains, edge_tests}
use Rattle.calls.specs.Removing.{block_tests, removal_tests, remove_answer}
use Rattle.calls.proofs.CallTests.{block_opened}
use Rattle.facts.specs.AllDefinitions.{definitions}
use Rattle.facts.specs.Facts.{row, answer, blank, block_a_with}
use Rattle.instances.specs.SixthPoint.{sixth_at, AnyPlace}

-- the tests behind 22
abbrev behind22 : Patch → ℕ → ℕ → Tests
behind22 patch e f = let site = site_of patch e f in edge_tests or_chains site e f ++ removal_tests site

-- the answer of a patch that a block may hold
answer_of_lem : (patch : Patch) → Holdable 1 patch → (e f : ℕ) → answer patch e f ≡ first_refusal (behind22 patch e f)
unfolding remove_answer
answer_of_lem patch kept e f =
    let block = bytes_of 1 patch in
    let its = fields_of block in
    let site = site_of its e f in
    ap first_refusal (append_assoc (block_tests block blank) (edge_tests or_chains site e f) (removal_tests site))
    ∙ block_opened block blank (behind22 its e f) (opens_written 1 patch kept)
    ∙ goes_on 1 (not_block blank) (behind22 its e f) refl
    ∙ ap (λ of. first_refusal (behind22 of e f)) (read_written 1 patch kept.within)

-- ---- block A with its sixth point

-- a block may hold it, with and without the row of fact 8
kept_at : (x y z : ℕ) → x ≤ 255 → y ≤ 255 → z ≤ 255
    → Holdable 1 (sixth_at x y z []) × Holdable 1 (sixth_at x y z (row 5 2 3 4 ∷ []))
unfolding block_a_with definitions
kept_at x y z hx hy hz =
    let placed : T (ltb x 256 && (ltb y 256 && (ltb z 256 && true))) =
    rw (lt-ltb x 256 (omega arith), lt-ltb y 256 (omega arith), lt-ltb z 256 (omega arith)) tt in (
      record { within = record { version_is = tt; few_points = lit≤ tt; few_rows = lit≤ tt; coordinates = placed; rows_fit = tt }; rule = tt; agrees = tt },
      record { within = record { version_is = tt; few_points = lit≤ tt; few_rows = lit≤ tt; coordinates = placed; rows_fit = tt }; rule = tt; agrees = tt },
    )

-- the tests, with the place left open

tests_8 : (x y z : ℕ) → first_refusal (behind22 (sixth_at x y z (row 5 2 3 4 ∷ [])) 0 1) ≡ 15
unfolding block_a_with definitions
tests_8 x y z = refl

tests_9 : (x y z : ℕ) → first_refusal (behind22 (sixth_at x y z []) 0 5) ≡ 10
unfolding block_a_with definitions
tests_9 x y z = refl

pub any_place : AnyPlace
any_place = record {
  fact_8 = λ x y z hx hy hz.
      answer_of_lem (sixth_at x y z (row 5 2 3 4 ∷ [])) (kept_at x y z hx hy hz).1 0 1 ∙ tests_8 x y z;
  fact_9 = λ x y z hx hy hz. answer_of_lem (sixth_at x y z []) (kept_at x y z hx hy hz).0 0 5 ∙ tests_9 x y z;
}
