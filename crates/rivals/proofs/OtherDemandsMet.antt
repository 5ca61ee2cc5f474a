-- The useless kernels are no straw men: each that has our numbers meets demand 1, the one that refuses all meets demand 2, and the one with
-- invented counts meets demand 3; so it is the demand named that shuts them out. The one that refuses all is shut out by demand 1 too, since
-- its numbers are not those of the table.
use Prim.Native.Nat.{ℕ, suc}
use mathlib.Core.List.{List}
use mathlib.Core.Path.{◌≡◌, ◌∙◌}
use native.Mathlib.Omega.{arith}
use Rattle.std.specs.Prelude.{Result}
use Rattle.rows.specs.Rows.{version}
use Rattle.answers.specs.declared.Refusal.{Refusal}
use Rattle.answers.specs.Answers.{number_of}
use Rattle.answers.proofs.Refusals.{number_of_lem}
use Rattle.layout.specs.Layout.{fields_of, bytes_of}
use Rattle.ring.specs.Ring.{site_of}
use Rattle.triangulation.specs.Triangulation.{Tri}
use Rattle.block.specs.Opening.{open_answer}
use Rattle.block.proofs.OpenedAndSealed.{open_list}
use Rattle.calls.specs.declared.Removed.{Removed}
use Rattle.calls.specs.Removing.{patch_after, remove_answer}
use Rattle.demands.specs.Demands.{Demand1, Demand2, Demand3}
use Rattle.accepted.proofs.CallsNumbered.{kept_out, remove_listed, remove_number, refusal_of}
use Rattle.demands.proofs.Demand1.{numbered, demand_1}
use Rattle.demands.proofs.Demand2.{demand_2}
use Rattle.demands.proofs.Demand3.{demand_3}
use Rattle.facts.specs.Facts.{blank, block_a}
use Rattle.rivals.specs.Useless.{with_remove, refusing, fixing, copying, inventing, fanning, given_by, patch_by}
use Rattle.rivals.specs.MarksLost.{patch_plain, dropping_marks, writing_version1}
use Rattle.rivals.proofs.RivalBlocks.{done_A}

-- ---- demand 1

module _ (remove : List ℕ → List ℕ → ℕ → ℕ → Result Removed Refusal × List ℕ) where
  abbrev number : List ℕ → List ℕ → ℕ → ℕ → ℕ
  number block out e f = number_of (remove block out e f).0

  -- ours with another removal meets it, if that removal has our numbers and writes with answer 0 alone
  remove_1 : ((block out : List ℕ) (e f : ℕ) → number block out e f ≡ remove_answer block out e f)
      → ((block out : List ℕ) (e f : ℕ) → (remove_answer block out e f ≡ 0 → ⊥) → (remove block out e f).1 ≡ out)
      → Demand1 (with_remove remove)
  remove_1 same keeps = record {
    numbers = record {
      open_number = numbered.open_number;
      summary_number_fact = numbered.summary_number_fact;
      shown_number = numbered.shown_number;
      seal_number = numbered.seal_number;
      remove_number = same;
      flip_number = numbered.flip_number;
    };
    open_listed = demand_1.open_listed;
    open_alone = demand_1.open_alone;
    summary_listed = demand_1.summary_listed;
    shown_listed = demand_1.shown_listed;
    shown_keeps = demand_1.shown_keeps;
    seal_listed = demand_1.seal_listed;
    seal_keeps = demand_1.seal_keeps;
    remove_listed = λ block out e f. rw (same block out e f) (remove_listed block out e f);
    remove_keeps = λ block out e f h. keeps block out e f (λ q. h (same block out e f ∙ q));
    remove_alone = λ block out e f h. refusal_of _ h;
    flip_listed = demand_1.flip_listed;
    flip_keeps = demand_1.flip_keeps;
  }

pub fixed_block_1 : (fixed : List ℕ) → Demand1 (fixing fixed)
fixed_block_1 fixed = remove_1 _ remove_number
    (λ block out e f h. kept_out (remove_answer block out e f) fixed out h)

pub copied_input_1 : Demand1 copying
copied_input_1 = remove_1 _ remove_number
    (λ block out e f h. kept_out (remove_answer block out e f) block out h)

pub marks_dropped_1 : Demand1 dropping_marks
marks_dropped_1 = remove_1 _ remove_number
    (λ block out e f h.
    kept_out (remove_answer block out e f) (bytes_of (version block) (patch_plain (site_of (fields_of block) e f))) out h)

pub version_lost_1 : Demand1 writing_version1
version_lost_1 = remove_1 _ remove_number
    (λ block out e f h. kept_out (remove_answer block out e f) (bytes_of 1 (patch_after (site_of (fields_of block) e f))) out h)

pub fanned_1 : (fan : ℕ → Tri) → Demand1 (fanning fan)
fanned_1 fan = remove_1 _
    (λ block out e f. number_of_lem (remove_answer block out e f) (given_by fan (fields_of block) (site_of (fields_of block) e f)))
    (λ block out e f h. kept_out (remove_answer block out e f) (bytes_of (version block) (patch_by fan (site_of (fields_of block) e f))) out h)

invented_number : (upright flat inverted : ℕ) (block : List ℕ)
    → number_of ((inventing upright flat inverted).summary block) ≡ open_answer block
invented_number upright flat inverted block = number_of_lem (open_answer block) _

pub invented_counts_1 : (upright flat inverted : ℕ) → Demand1 (inventing upright flat inverted)
invented_counts_1 upright flat inverted = record {
  numbers = record {
    open_number = numbered.open_number;
    summary_number_fact = invented_number upright flat inverted;
    shown_number = numbered.shown_number;
    seal_number = numbered.seal_number;
    remove_number = numbered.remove_number;
    flip_number = numbered.flip_number;
  };
  open_listed = demand_1.open_listed;
  open_alone = demand_1.open_alone;
  summary_listed = λ block. rw (invented_number upright flat inverted block) (open_list block);
  shown_listed = demand_1.shown_listed;
  shown_keeps = demand_1.shown_keeps;
  seal_listed = demand_1.seal_listed;
  seal_keeps = demand_1.seal_keeps;
  remove_listed = demand_1.remove_listed;
  remove_keeps = demand_1.remove_keeps;
  remove_alone = demand_1.remove_alone;
  flip_listed = demand_1.flip_listed;
  flip_keeps = demand_1.flip_keeps;
}

-- a kernel that refuses all, with whatever numbers, refuses where the table gives 0
pub refuses_all_1 : (number : List ℕ → List ℕ → ℕ → ℕ → ℕ) → Demand1 (refusing number) → ⊥
refuses_all_1 number meets =
    let never : suc (number (bytes_of 1 block_a) blank 0 1) ≡ 0 = meets.numbers.remove_number (bytes_of 1 block_a) blank 0 1 ∙ done_A in
    omega arith

-- ---- demand 2

pub refuses_all_2 : (number : List ℕ → List ℕ → ℕ → ℕ → ℕ) → Demand2 (refusing number)
refuses_all_2 number = record {
  read_fields = demand_2.read_fields;
  read_patch = demand_2.read_patch;
  read_right = demand_2.read_right;
  layout = demand_2.layout;
  layout_back = demand_2.layout_back;
  summary = demand_2.summary;
  summary_right = demand_2.summary_right;
  shown = demand_2.shown;
  shown_right = demand_2.shown_right;
  seal_right = demand_2.seal_right;
  seal = demand_2.seal;
  remove = λ block out e f h. absurd (never (number block out e f) h);
  flip = demand_2.flip;
}
  where
    never : (n : ℕ) → suc n ≡ 0 → ⊥
    never n h = omega arith

-- ---- demand 3

pub invented_counts_3 : (upright flat inverted : ℕ) → Demand3 (inventing upright flat inverted)
invented_counts_3 upright flat inverted block out e f closed vs given =
    let best = demand_3 block out e f closed vs given in
    record { none_better_fact = best.none_better_fact; otherwise = best.otherwise; carried_out = best.carried_out }
