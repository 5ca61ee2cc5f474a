-- What only contracts of inner functions and proofs say: a removal in a block that opens, before anything is carried out.
use Rattle.std.specs.Prelude.{ℕ, List, ◌++◌, ◌≡◌, Result, Ok, Err}
use Rattle.answers.specs.declared.Refusal.{Refusal}
use Rattle.layout.specs.Layout.{fields_of}
use Rattle.answers.specs.Answers.{first_refusal, answer_of}
use Rattle.ring.specs.Ring.{site_of, or_chains, edge_tests}
use Rattle.calls.specs.Removing.{removal_tests}
use Rattle.replacement.specs.Steps.{Replaceable}
use Rattle.attempt.specs.declared.Tried.{Tried}

-- answers 9 to 16, 19 and 20, tested from the top: those of a removal in a block that opens
unfoldable pub attempt_answer : List ℕ → ℕ → ℕ → ℕ
attempt_answer block e f =
    let site = site_of (fields_of block) e f in
    first_refusal (edge_tests or_chains site e f ++ removal_tests site)

-- with answer 0 what the replacement asks for, or the refusal
abbrev pub Attempts : List ℕ → ℕ → ℕ → Result Tried Refusal → Type 0
Attempts block e f (Ok tried) = (attempt_answer block e f ≡ 0) × Replaceable block e f tried.closed tried.ring tried.region tried.apexes
Attempts block e f (Err refusal) = answer_of (attempt_answer block e f) ≡ Err refusal
