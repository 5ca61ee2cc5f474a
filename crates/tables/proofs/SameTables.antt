-- Two patches of the same points and the same tetrahedra, in another order of rows and evenly rearranged.
use mathlib.Core.Path.{◌≡◌, sym}
use Rattle.rows.specs.Tetrahedra.{SameTetrahedra}
use Rattle.layout.specs.Layout.{Patch}
use Rattle.tables.specs.FlipRows.{KeepsRule}

-- Both tables keep the mesh rule.
pub record SameTables (patch other : Patch) : Type 0 where
  pub points : patch.points ≡ other.points
  pub rule : KeepsRule patch patch.rows
  pub other_rule : KeepsRule other other.rows
  pub tetrahedra : SameTetrahedra patch.rows other.rows

pub other_way : {patch other : Patch} → SameTables patch other → SameTables other patch
other_way same = record {
  points = sym same.points;
  rule = same.other_rule;
  other_rule = same.rule;
  tetrahedra = λ row. sym (same.tetrahedra row);
}
