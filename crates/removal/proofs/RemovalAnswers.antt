-- The removal as a call: a refusal in front of the attempt, the attempt's refusal as the call's, and what is given with answer 0.
use Prim.Native.Nat.{ℕ}
use mathlib.Core.List.{List, ◌++◌, append_assoc}
use mathlib.Core.Path.{◌≡◌, sym, ap, ◌∙◌}
use borrow.Author.Tests.{ne_eqb}
use lib.ListN.{length}
use Rattle.std.specs.Prelude.{Ok, Err}
use Rattle.answers.specs.declared.Refusal.{Refusal}
use Rattle.answers.specs.Answers.{Tests, first_refusal, answer_of}
use Rattle.answers.proofs.Refusals.{given_refused, refused_same}
use Rattle.layout.specs.Layout.{block_bytes, fields_of}
use Rattle.block.specs.Opening.{open_answer}
use Rattle.ring.specs.Ring.{Site, site_of, or_chains, edge_tests, ring_with}
use Rattle.ring.proofs.RingInAnyOrder.{site_ordered}
use Rattle.calls.specs.Removing.{block_tests, removal_tests, remove_answer, remove_bytes, remove_gives, page_given}
use Rattle.calls.proofs.CallTests.{block_left, blocked}
use Rattle.attempt.specs.declared.Tried.{Tried}
use Rattle.attempt.specs.Steps.{attempt_answer, Attempts}
use Rattle.outcome.specs.declared.After.{After}
use Rattle.outcome.specs.Steps.{Replaces}

module _ (block out : List ℕ) (e f : ℕ) where
  abbrev site : Site
  site = site_of (fields_of block) e f

  abbrev behind : Tests
  behind = edge_tests or_chains site e f ++ removal_tests site

  -- the lengths and the opening, then the attempt
  in_stages : remove_answer block out e f ≡ first_refusal (block_tests block out ++ behind)
  unfolding remove_answer
  in_stages = ap first_refusal (append_assoc (block_tests block out) (edge_tests or_chains site e f) (removal_tests site))

  -- ---- a refusal

  module _ {refusal : Refusal} (refused : answer_of (remove_answer block out e f) ≡ Err refusal) where
    pub refusal_gives : Err refusal ≡ remove_gives block out e f
    unfolding remove_gives
    refusal_gives = sym (refused_same (remove_answer block out e f) tt _ refused)

    pub refusal_pages : Err refusal ≡ page_given (remove_gives block out e f)
    refusal_pages = ap page_given refusal_gives

    pub refusal_keeps : out ≡ remove_bytes block out e f
    unfolding remove_bytes
    refusal_keeps = rw (ne_eqb (remove_answer block out e f) 0 (given_refused (remove_answer block out e f) tt refusal refused))

  -- answers 1 to 8
  pub front_refuses : {refusal : Refusal} → answer_of (first_refusal (block_tests block out)) ≡ Err refusal
      → answer_of (remove_answer block out e f) ≡ Err refusal
  front_refuses told = ap answer_of in_stages ∙ sym (blocked block out told behind tt)

  -- ---- the others

  module _ (opens : open_answer block ≡ 0) (size : length out ≡ block_bytes) where
    same_answer : remove_answer block out e f ≡ attempt_answer block e f
    unfolding attempt_answer
    same_answer = in_stages ∙ block_left block out behind opens size

    pub attempt_refuses : {refusal : Refusal} → Attempts block e f (Err refusal) → answer_of (remove_answer block out e f) ≡ Err refusal
    attempt_refuses told = ap answer_of same_answer ∙ told

    module _ (tried : Tried) (attempts : Attempts block e f (Ok tried)) where
      pub done_answer : remove_answer block out e f ≡ 0
      done_answer = same_answer ∙ attempts.0

      own_ring : tried.ring ≡ ring_with site.ring
      unfolding fields_of
      own_ring = attempts.1.ringed.ready.found ∙ ap (λ (s : Site). ring_with s.ring) (site_ordered (fields_of block) e f)

      module _ (before rows : List ℕ) (after : After) (replaces : Replaces block e f before rows after) where
        pub done_gives : Ok (record { page = after.page; ring = tried.ring }) ≡ remove_gives block out e f
        unfolding remove_gives
        done_gives = rw (done_answer, own_ring, replaces.page)

        pub done_pages : Ok after.page ≡ page_given (remove_gives block out e f)
        done_pages = ap page_given done_gives
