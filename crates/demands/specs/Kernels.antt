-- A kernel as its caller sees it: of each public call what it returns and what it leaves in the output block.
-- What is demanded is demanded of any kernel, whatever it does inside.
-- Ours is the one whose calls are proved.
use Rattle.std.specs.Prelude.{ℕ, List, map, Float, Result}
use Rattle.lists.specs.Lists.{numbers_from}
use Rattle.volume.specs.Volume.{points_in}
use Rattle.rows.specs.Rows.{stored_row}
use Rattle.answers.specs.declared.Refusal.{Refusal}
use Rattle.layout.specs.declared.Fields.{Fields}
use Rattle.layout.specs.Layout.{Patch}
use Rattle.block.specs.Opening.{open_gives, seal_answer, seal_bytes}
use Rattle.answers.specs.Answers.{answer_of, number_of}
use Rattle.display.specs.Display.{shown_answer, shown_elements}
use Rattle.summary.specs.declared.Summary.{Summary}
use Rattle.calls.specs.declared.Removed.{Removed}
use Rattle.calls.specs.Summarising.{summary_gives}
use Rattle.calls.specs.Removing.{remove_gives, remove_bytes}
use Rattle.calls.specs.Flipping.{flip_answer, flip_bytes}

-- what a call answers that returns nothing else: done, or its refusal
abbrev pub Answer : Type 0
Answer = Result (Unit {0}) Refusal

-- A kernel: a field for each public call, with the bytes of the output block afterwards where the call has one.
pub record Kernel : Type 0 where
  pub read : List ℕ → Result Fields Refusal
  pub summary : List ℕ → Result Summary Refusal
  pub shown : List ℕ → List Float → Answer × List Float
  pub seal : List ℕ → List ℕ → Answer × List ℕ
  pub remove : List ℕ → List ℕ → ℕ → ℕ → Result Removed Refusal × List ℕ
  pub flip : List ℕ → List ℕ → List ℕ → Answer × List ℕ

-- ours: each field is the right side of that call's contract
unfoldable pub ours : Kernel
ours = record {
  read = open_gives;
  summary = summary_gives;
  shown = λ block out. (answer_of (shown_answer block out), shown_elements block out);
  seal = λ body out. (answer_of (seal_answer body out), seal_bytes body out);
  remove = λ block out e f. (remove_gives block out e f, remove_bytes block out e f);
  flip = λ block out numbers. (answer_of (flip_answer block out numbers), flip_bytes block out numbers);
}

-- ---- the numbers that its calls answer

-- opening
abbrev pub opens : Kernel → List ℕ → ℕ
opens k block = number_of (k.read block)

-- the summary
abbrev pub summarises : Kernel → List ℕ → ℕ
summarises k block = number_of (k.summary block)

-- what is shown of the rows
abbrev pub shows : Kernel → List ℕ → List Float → ℕ
shows k block out = number_of (k.shown block out).0

-- sealing
abbrev pub seals : Kernel → List ℕ → List ℕ → ℕ
seals k body out = number_of (k.seal body out).0

-- a removal
abbrev pub removes : Kernel → List ℕ → List ℕ → ℕ → ℕ → ℕ
removes k block out e f = number_of (k.remove block out e f).0

-- a flip
abbrev pub flips : Kernel → List ℕ → List ℕ → List ℕ → ℕ
flips k block out numbers = number_of (k.flip block out numbers).0

-- ---- what opening returns

-- the fields, read as a patch: as many points of the coordinates as they count, and rows of the table, which the version reads
abbrev pub as_patch : Fields → Patch
as_patch fields = record {
  points = points_in fields.coordinates fields.points;
  rows = map (stored_row fields.version fields.table) (numbers_from 0 fields.rows);
}
