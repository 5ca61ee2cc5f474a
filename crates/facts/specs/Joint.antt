-- Request [2], computed on the sample joint: two materials round one edge.
use Rattle.std.specs.Prelude.{ℕ, ◌&&◌, [], ◌∷◌, ◌++◌, T, eqb}
use Rattle.lists.specs.Lists.{same}
use Rattle.volume.specs.Volume.{same_z}
use Rattle.rows.specs.declared.Row.{Row}
use Rattle.rows.specs.RowMeasure.{total_d}
use Rattle.rows.specs.Regions.{region_d}
use Rattle.layout.specs.Layout.{Patch, fields_of, bytes_of}
use Rattle.calls.specs.Flipping.{flip_answer, flip_bytes}
use Rattle.lines.specs.Lines.{text}
use Rattle.printout.specs.Printout.{printout}
use Rattle.facts.specs.AllDefinitions.{definitions}
use Rattle.facts.specs.Facts.{at, blank, answer}
use Rattle.rows.specs.Labels.{no_marks}

-- the row (0,1,r,s) of a region
abbrev pub row_of : ℕ → ℕ → ℕ → Row
row_of region r s = record { p = 0; q = 1; r = r; s = s; region = region; marks = no_marks }

-- four rows round the edge 0, 1, two of one region and two of another; between both lie the faces 0, 1, 2 and 0, 1, 4
unfoldable pub joint_of : ℕ → ℕ → Patch
joint_of copper epoxy = record {
  points = at 6 6 24 ∷ at 6 6 0 ∷ at 12 6 12 ∷ at 6 12 12 ∷ at 0 6 12 ∷ at 6 0 12 ∷ [];
  rows = row_of copper 2 3 ∷ row_of copper 3 4 ∷ row_of epoxy 4 5 ∷ row_of epoxy 5 2 ∷ [];
}

-- copper is 1, epoxy 2
unfoldable pub joint : Patch
joint = joint_of 1 2

-- it is refused, in either order of the ends; in one material the edge is removed
pub joint_refused :
    T (same eqb (printout (bytes_of 1 joint ++ (0 ∷ 1 ∷ []))) (text "answer 20\n")
    && eqb (answer joint 1 0) 20 && eqb (answer (joint_of 1 1) 0 1) 0)
unfolding joint_of joint definitions
joint_refused = tt

-- a face between both is not flipped, a face inside either is
pub joint_flipped :
    T (eqb (flip_answer (bytes_of 1 joint) blank (0 ∷ 1 ∷ 2 ∷ [])) 20 && eqb (flip_answer (bytes_of 1 joint) blank (0 ∷ 1 ∷ 3 ∷ [])) 0
    && eqb (flip_answer (bytes_of 1 joint) blank (0 ∷ 1 ∷ 4 ∷ [])) 20 && eqb (flip_answer (bytes_of 1 joint) blank (0 ∷ 1 ∷ 5 ∷ [])) 0)
unfolding joint_of joint definitions
joint_flipped = tt

-- and there is then as much copper and as much epoxy as there was
pub joint_totals :
    T (let after = fields_of (flip_bytes (bytes_of 1 joint) blank (0 ∷ 1 ∷ 3 ∷ [])) in
    same_z (region_d after.points 1 after.rows) (region_d joint.points 1 joint.rows)
    && same_z (region_d after.points 2 after.rows) (region_d joint.points 2 joint.rows))
unfolding joint_of joint total_d definitions
joint_totals = tt
