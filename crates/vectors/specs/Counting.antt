-- What the program counts: whole records, each held to its own call.
use Rattle.std.specs.Prelude.{ℕ, Bool, ◌≡◌, T, eqb, length}
use mathlib.Core.List.{List, foldl}
use Rattle.lists.specs.Lists.{every}
use Rattle.records.specs.Records.{record_bytes, call_in, answer_in}
use Rattle.agreement.specs.Agreement.{case_agrees}
use Rattle.counts.specs.declared.Counts.{Counts}
use Rattle.counts.specs.CaseCounts.{no_cases, counted}

-- one record more: a case of its call and answer, which agrees if the call gives what is stored
abbrev pub record_counted : Counts → List ℕ → Counts
record_counted counts stored = counted counts (call_in stored) (answer_in stored) (case_agrees stored)

-- a record of all its bytes
abbrev pub is_whole : List ℕ → Bool
is_whole stored = eqb (length stored) record_bytes

-- Counts that are those of some whole records, counted one after another.
pub record Counted (counts : Counts) : Type 0 where
  pub records : List (List ℕ)
  pub whole : T (every is_whole records)
  pub all : counts ≡ foldl record_counted no_cases records
