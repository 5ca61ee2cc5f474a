-- The block is begun, and the rows afterwards are written in their place.
use Prim.Native.Nat.{ℕ}
use mathlib.Core.List.{List}
use mathlib.Core.Path.{subst}
use native.Mathlib.Omega.{arith}
use borrow.Author.Rules.{rules}
use Rattle.output.proofs.BlockAfterwards.{begun_version, begun_length}
use Rattle.outcome.specs.Steps.{Replaces}
use Rattle.removal.proofs.carry_through.Goals as goal

pub replace-requires : goal.replace-requires
replace-requires c =
    let block = c.args.block.now in
    let (opens, size) = c.requires.block_value in
    record {
      block_value = (opens, c.requires.replaceable);
      apexes_len = (
        search rules,
        omega (arith, begun_length block opens c.args.out.now _ size c.begin.ensures),
        begun_version block opens c.args.out.now _ size c.begin.ensures,
      );
    }

pub returns : goal.returns
returns c =
    let args = c.args in
    subst (λ (begun : List ℕ). Replaces args.block.now args.e args.f begun c.replace.new.rows c.replace.result) c.begin.ensures c.replace.ensures
