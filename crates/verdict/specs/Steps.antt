-- What only contracts of inner functions and proofs say: the plan of a removal.
use Rattle.std.specs.Prelude.{ℕ, ◌≡◌, Result, Ok, Err}
use Rattle.answers.specs.declared.Refusal.{Refusal}
use Rattle.answers.specs.Answers.{first_refusal, answer_of}
use Rattle.rows.specs.Regions.{region_of}
use Rattle.ring.specs.Ring.{Site}
use Rattle.calls.specs.Removing.{replacement_tests}
use Rattle.replacement.specs.Steps.{StandFor}
use Rattle.verdict.specs.declared.Plan.{Plan}

-- 19, 20 and 14 to 16, tested from the top
unfoldable pub plan_answer : Site → ℕ
plan_answer site = first_refusal (replacement_tests site)

-- With answer 0, the region of the rows that go and the apexes of the chosen triangulation.
pub record Planned (site : Site) (plan : Plan) : Type 0 where
  pub answer : plan_answer site ≡ 0
  pub region : plan.region ≡ region_of site.removed
  pub apexes : StandFor site plan.apexes

-- the plan, or the refusal
abbrev pub Plans : Site → Result Plan Refusal → Type 0
Plans site (Ok plan) = Planned site plan
Plans site (Err refusal) = answer_of (plan_answer site) ≡ Err refusal
