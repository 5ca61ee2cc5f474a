-- New rows are written with the region of the rows that go, and without marks.
use Prim.Native.Nat.{ℕ}
use mathlib.Core.List.Memᴰ
use mathlib.Core.List.{Memᴰ}
use mathlib.Core.Path.{refl}
use Rattle.lists.proofs.Images.{flat_map_e}
use Rattle.lists.proofs.Places.{in_cases}
use Rattle.rows.specs.declared.Row.{Row}
use Rattle.dressing.proofs.NewRowsDressed.{Plain}
use Rattle.ring.specs.Ring.{Site}
use Rattle.triangulation.specs.Triangulation.{Tri, triangles, two_rows, new_rows}

pub new_plain : (site : Site) (i : ℕ) (t : Tri) (row : Row) → Memᴰ row (new_rows site i t) → Plain site.removed row
unfolding new_rows two_rows
new_plain site i t row m =
    let (triangle, k, l) = flat_map_e (two_rows site) (triangles i t) m in
    in_cases l (λ e. rw e (record { own_region = refl; unmarked = refl })) λ l.
    in_cases l (λ e. rw e (record { own_region = refl; unmarked = refl })) λ l. absurd (Memᴰ.not-nil l)
