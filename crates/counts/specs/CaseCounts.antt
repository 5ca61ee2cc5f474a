-- The table of counts: a cell for each call and answer.
use Rattle.std.specs.Prelude.{ℕ, ◌+◌, ◌*◌, ◌%◌, ◌^◌, Bool, cond, replicate, nat_le, get_or, map, slice_set}
use Rattle.lists.specs.Lists.{sum}
use Rattle.records.specs.declared.Call.{Call}
use Rattle.records.specs.StoredCalls.{number_of}
use Rattle.counts.specs.declared.Cases.{Cases}
use Rattle.counts.specs.declared.Counts.{Counts}

-- the calls, and the answers 0 to 23
abbrev pub calls : ℕ
calls = 5

abbrev pub answers : ℕ
answers = 24

-- no case of one call and answer
abbrev pub no_case : Cases
no_case = record { all = 0; agreeing = 0 }

-- no case of any call and answer
abbrev pub no_cases : Counts
no_cases = record { cells = replicate (calls * answers) no_case }

-- one case more, which agrees or does not
abbrev pub with_one : Cases → Bool → Cases
with_one cases agrees = record {
  all = (cases.all + 1) % 2 ^ 64;
  agreeing = cond agrees ((cases.agreeing + 1) % 2 ^ 64) cases.agreeing;
}

-- what is counted of one call and answer
abbrev pub cases_of : Counts → Call → ℕ → Cases
cases_of counts call answer = get_or counts.cells (number_of call * answers + answer) no_case

-- all cells together, in 64 bits
abbrev pub total_of : Counts → Cases
total_of counts = record {
  all = sum (map (λ cases. cases.all) counts.cells) % 2 ^ 64;
  agreeing = sum (map (λ cases. cases.agreeing) counts.cells) % 2 ^ 64;
}

-- one case more, and one that agrees if it does; a record of no call or no answer is none
unfoldable pub counted : Counts → ℕ → ℕ → Bool → Counts
counted counts call answer agrees =
    let at = call * answers + answer in
    let next : Counts = record { cells = slice_set counts.cells at (with_one (get_or counts.cells at no_case) agrees) } in
    cond (nat_le calls call) counts (cond (nat_le answers answer) counts next)
