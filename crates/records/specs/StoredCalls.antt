-- The calls by their numbers.
use Rattle.std.specs.Prelude.{◌≡◌, ℕ, ◌<◌, Result, MatchResult}
use Rattle.records.specs.declared.Call.{Call}
use Rattle.records.specs.declared.Call.TheVariants.{Open, Seal, Summary, Remove, Flip}
use Rattle.records.specs.declared.UnknownCall.{UnknownCall}

-- the number that is stored for a call
abbrev pub number_of : Call → ℕ
number_of Open = 0
number_of Seal = 1
number_of Summary = 2
number_of Remove = 3
number_of Flip = 4

-- the call of a number, or an error with a number that no call has
abbrev pub HasNumber : ℕ → Result Call UnknownCall → Type 0
HasNumber number r = MatchResult r (λ call. number_of call ≡ number) (λ e. (e.0 ≡ number) × (4 < number))
