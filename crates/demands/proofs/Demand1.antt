-- Demand 1: what a call returns has the number of its definition, that number is on the call's list, and a refusal writes nothing and
-- returns nothing else.
-- An answer is the number of the first test that is true, so it is 0 or one of the tests' numbers.
use mathlib.Core.Path.{◌∙◌}
use Rattle.block.specs.Opening.{seal_answer}
use Rattle.answers.proofs.Refusals.{number_of_lem}
use Rattle.block.proofs.OpenedAndSealed.{open_list, seal_list, seal_keeps}
use Rattle.display.specs.Display.{shown_answer}
use Rattle.display.proofs.ShownRows.{shown_list, shown_keeps}
use Rattle.calls.specs.Removing.{remove_answer, remove_bytes}
use Rattle.calls.specs.Flipping.{flip_answer, flip_bytes}
use Rattle.accepted.proofs.CallsNumbered.{kept_out, open_number, summary_number_fact, remove_listed, remove_number, flip_listed, refusal_of}
use Rattle.demands.specs.Kernels.{ours}
use Rattle.demands.specs.Demands.{Demand1, Numbered}

-- the numbers of all calls
pub numbered : Numbered ours
unfolding ours
numbered = record {
  open_number = open_number;
  summary_number_fact = summary_number_fact;
  shown_number = λ block out. number_of_lem (shown_answer block out) tt;
  seal_number = λ body out. number_of_lem (seal_answer body out) tt;
  remove_number = remove_number;
  flip_number = λ block out numbers. number_of_lem (flip_answer block out numbers) tt;
}

pub demand_1 : Demand1 ours
unfolding ours remove_bytes flip_bytes
demand_1 = record {
  numbers = numbered;
  open_listed = λ block. rw (open_number block) (open_list block);
  open_alone = λ block h. refusal_of _ h;
  summary_listed = λ block. rw (summary_number_fact block) (open_list block);
  shown_listed = λ block out. rw number_of_lem (shown_list block out);
  shown_keeps = λ block out h. shown_keeps block out (λ q. h (number_of_lem _ tt ∙ q));
  seal_listed = λ body out. rw number_of_lem (seal_list body out);
  seal_keeps = λ body out h. seal_keeps body out (λ q. h (number_of_lem _ tt ∙ q));
  remove_listed = λ block out e f. rw (remove_number block out e f) (remove_listed block out e f);
  remove_keeps = λ block out e f h. kept_out (remove_answer block out e f) _ out (λ q. h (remove_number block out e f ∙ q));
  remove_alone = λ block out e f h. refusal_of _ h;
  flip_listed = λ block out numbers. rw number_of_lem (flip_listed block out numbers);
  flip_keeps = λ block out numbers h. kept_out (flip_answer block out numbers) _ out (λ q. h (number_of_lem _ tt ∙ q));
}
