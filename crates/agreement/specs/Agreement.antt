-- When a call gives what its record says: the definitions of the calls at the stored inputs, against the stored outcome.
use Rattle.std.specs.Prelude.{ℕ, Bool, false, cond, ◌&&◌, ◌-◌, List, [], eqb, replicate, Result, Ok, Err}
use Rattle.std.specs.Result.{result_unwrap_or}
use Rattle.answers.specs.declared.Refusal.{Refusal}
use Rattle.rows.specs.Rows.{rows_at}
use Rattle.layout.specs.declared.Fields.{Fields}
use Rattle.layout.specs.Layout.{points_at, body_bytes}
use Rattle.block.specs.Opening.{open_answer, open_gives, seal_answer, seal_bytes}
use Rattle.ring.specs.declared.Ring.{Ring}
use Rattle.ring.specs.Ring.{ring_with}
use Rattle.calls.specs.declared.Removed.{Removed}
use Rattle.calls.specs.Summarising.{summary_gives}
use Rattle.calls.specs.Removing.{remove_gives, remove_bytes, page_given}
use Rattle.calls.specs.Flipping.{flip_answer, flip_bytes}
use Rattle.records.specs.Records.{call_in, input_in, output_before, answer_in, number_in, numbers_in}
use Rattle.expected.specs.Expected.{ring_is, fields_are, output_is}
use Rattle.figures.specs.Figures.{summarised_is, removal_is}

-- ---- what is stored beside a refusal

-- fields that are all zero
abbrev pub no_fields : Fields
no_fields = record {
  version = 0;
  points = 0;
  rows = 0;
  coordinates = replicate (rows_at - points_at) 0;
  table = replicate (body_bytes - rows_at) 0;
}

-- the ring or chain of a removal; beside a refusal it has no points
abbrev pub ring_given : Result Removed Refusal → Ring
ring_given (Ok removed) = removed.ring
ring_given (Err refusal) = ring_with []

-- ---- each call, at its stored inputs

unfoldable pub open_agrees : List ℕ → List ℕ → Bool
open_agrees stored input = eqb (open_answer input) (answer_in stored) && fields_are (result_unwrap_or (open_gives input) no_fields) stored

unfoldable pub seal_agrees : List ℕ → List ℕ → List ℕ → Bool
seal_agrees stored input out = eqb (seal_answer input out) (answer_in stored) && output_is (seal_bytes input out) stored

abbrev pub summary_agrees : List ℕ → List ℕ → Bool
summary_agrees stored input = summarised_is (summary_gives input) stored

unfoldable pub remove_agrees : List ℕ → List ℕ → List ℕ → Bool
remove_agrees stored input out =
    let e = number_in stored 0 in
    let f = number_in stored 1 in
    let gives = remove_gives input out e f in
    removal_is (page_given gives) stored && (ring_is (ring_given gives) stored && output_is (remove_bytes input out e f) stored)

unfoldable pub flip_agrees : List ℕ → List ℕ → List ℕ → Bool
flip_agrees stored input out =
    let numbers = numbers_in stored in
    eqb (flip_answer input out numbers) (answer_in stored) && output_is (flip_bytes input out numbers) stored

-- ---- the call of a record

-- 0 open, 1 seal, 2 summary, 3 remove, 4 flip; a number of no call agrees with nothing
unfoldable pub call_agrees : List ℕ → List ℕ → List ℕ → Bool
call_agrees stored input out =
    let call = call_in stored in
    cond (eqb call 0) (open_agrees stored input)
    (cond (eqb call 1) (seal_agrees stored input out)
    (cond (eqb call 2) (summary_agrees stored input)
    (cond (eqb call 3) (remove_agrees stored input out) (cond (eqb call 4) (flip_agrees stored input out) false))))

-- the call gives what is stored
abbrev pub case_agrees : List ℕ → Bool
case_agrees stored = call_agrees stored (input_in stored) (output_before stored)
