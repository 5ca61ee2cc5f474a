-- A block that opens is summarised, and its summary is that of its fields.
use Prim.Native.Nat.{ℕ}
use Rattle.std.specs.Prelude.{Result, Ok, Err}
use Rattle.answers.specs.declared.Refusal.{Refusal}
use mathlib.Core.List.{List}
use mathlib.Core.Path.{◌≡◌}
use Rattle.layout.specs.Layout.{fields_of}
use Rattle.block.specs.Opening.{open_answer}
use Rattle.summary.specs.declared.Summary.{Summary}
use Rattle.summary.specs.Summary.{summary_of}
use Rattle.calls.specs.Summarising.{summary_gives}
use Rattle.accepted.proofs.AfterRemoval.{summary_opened}

module _ (block : List ℕ) (opens : open_answer block ≡ 0) {given : Result Summary Refusal} (gives : given ≡ summary_gives block) where
  pub never_refused : {refusal : Refusal} → given ≡ Err refusal → ⊥
  never_refused h = let opened = summary_opened block opens in cc

  pub summary_is_lem : {summary : Summary} → given ≡ Ok summary → summary ≡ summary_of (fields_of block)
  summary_is_lem h = let opened = summary_opened block opens in cc
