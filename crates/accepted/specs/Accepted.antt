-- Requirement §11.2: what an accepted call leaves.
use Rattle.std.specs.Prelude.{ℕ, Bool, not, ◌≡◌, length}
use mathlib.Core.List.{List, ◌++◌, Memᴰ}
use Rattle.lists.specs.Lists.{those}
use Rattle.rows.specs.declared.Row.{Row}
use Rattle.rows.specs.Rows.{version}
use Rattle.rows.specs.RowMeasure.{total_d}
use Rattle.rows.specs.Regions.{region_d}
use Rattle.mesh.specs.Mesh.{Face, MeshRule}
use Rattle.marking.specs.Marking.{marked_in}
use Rattle.layout.specs.Layout.{fields_of}
use Rattle.block.specs.Holding.{RightBlock}

-- What a removal or a flip that is done leaves: a right block of the input's version, with the input's points, the rows that stay first, in
-- order and unchanged, then the new rows; no directed face stands in two of them, and the total D is the input's. Each new row has the region
-- of each row that went, and the total D over the rows of any one region is the input's too. The marked faces are the input's; that both rows
-- at a face agree is part of a right block.
pub record Accepted (block output : List ℕ) (goes : Row → Bool) (new : List Row) : Type 0 where
  pub right : RightBlock output
  pub version : version output ≡ version block
  pub points : (fields_of output).points ≡ (fields_of block).points
  pub rows : (fields_of output).rows ≡ those (λ row. not (goes row)) (fields_of block).rows ++ new
  pub rule : MeshRule (length (fields_of output).points) (fields_of output).rows
  pub volume : total_d (fields_of output).points (fields_of output).rows ≡ total_d (fields_of block).points (fields_of block).rows
  pub region : (old its : Row) → Memᴰ old (those goes (fields_of block).rows) → Memᴰ its new → its.region ≡ old.region
  pub volumes : (g : ℕ) → region_d (fields_of output).points g (fields_of output).rows ≡ region_d (fields_of block).points g (fields_of block).rows
  pub marked : (f : Face) → marked_in (fields_of output).rows f ≡ marked_in (fields_of block).rows f
