-- The block that was begun, with the rows afterwards in their place, finished: each byte of the removal's output with answer 0.
use Prim.Native.Nat.{ℕ}
use mathlib.Core.List.{List}
use mathlib.Core.Path.{◌≡◌, refl}
use lib.Dec.{T}
use lib.ListN.{length, take, set}
use Rattle.lists.specs.Lists.{every}
use Rattle.layout.specs.Layout.{block_bytes, body_bytes, sealed}
use Rattle.layout.specs.Within.{is_byte}
use Rattle.std.specs.Prelude.{Ok}
use Rattle.block.specs.Opening.{open_answer}
use Rattle.ring.specs.Ring.{site_of}
use Rattle.output.specs.Steps.{begun}
use Rattle.output.proofs.BlockAfterwards.{block_finished}
use Rattle.calls.specs.Removing.{patch_after, remove_bytes}
use Rattle.attempt.specs.declared.Tried.{Tried}
use Rattle.attempt.specs.Steps.{Attempts}
use Rattle.outcome.specs.declared.After.{After}
use Rattle.outcome.specs.Steps.{rows_afterwards, Replaces}
use Rattle.outcome.proofs.RowsAfterwards.{few_afterwards}
use Rattle.removal.proofs.RemovalAnswers.{done_answer}

module _ (block out : List ℕ) (e f : ℕ) (opens : open_answer block ≡ 0) (size : length out ≡ block_bytes) (tried : Tried)
    (attempts : Attempts block e f (Ok tried)) (two : List ℕ) (after : After)
    (replaces : Replaces block e f (begun block out) two after) where
  pub done_bytes : T (every is_byte block) → (done : List ℕ) → done ≡ sealed (take body_bytes (set two 2 after.n))
      → done ≡ remove_bytes block out e f
  unfolding remove_bytes patch_after site_of
  done_bytes are done d =
      rw (done_answer block out e f opens size tried attempts)
      (block_finished block are opens out (begun block out) size refl (rows_afterwards block e f)
      (few_afterwards block e f attempts.1) two replaces.table after.n replaces.number done d)
