use Prim.Native.Nat.{◌-◌}
use mathlib.Core.Path.{◌≡◌}
use lib.ListN.{length}
use Rattle.ring.specs.Ring.{Site, m as size_of}
use Rattle.cells.specs.Steps.{cell_at, cells, Whole}
use Rattle.kept_faces.specs.Steps.{SiteRim}
use Rattle.filling.proofs.CellFilled.{Upto}
use Rattle.filling.proofs.fill_cells.Given as goal

-- the pieces that end before j are filled
abbrev pub invariant-loop-j : goal.invariant-loop-j
invariant-loop-j l = record {
  whole : Whole l.table;
  all_used : length l.used ≡ cells;
  filled : (site : Site)
      → SiteRim site l.coordinates l.rim l.keys
      → l.m ≡ size_of site
      → Upto site l.table l.used (cell_at 0 (l.j - 1));
}

-- and so are those from (i,j) on that end at j
abbrev pub invariant-loop-i : goal.invariant-loop-i
invariant-loop-i l = record {
  whole : Whole l.table;
  all_used : length l.used ≡ cells;
  filled : (site : Site)
      → SiteRim site l.coordinates l.rim l.keys
      → l.m ≡ size_of site
      → Upto site l.table l.used (cell_at (l.i - 1) l.j);
}
