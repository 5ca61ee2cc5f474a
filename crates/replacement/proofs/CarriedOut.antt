-- The rows that stay, with the new rows of the chosen triangulation behind them and these dressed, are the rows afterwards.
use Prim.Native.Nat.{ℕ, zero, suc, ◌+◌, ◌-◌, ◌*◌, ◌≤◌, ◌<◌, min, max}
use mathlib.Core.Bool.{not}
use mathlib.Core.List.{List, [], ◌∷◌, ◌++◌, map}
use mathlib.Core.Path.{◌≡◌, sym, ap, ◌∙◌}
use native.Mathlib.Omega.{arith}
use lib.Dec.{T}
use lib.ListN.{length, get_or, replicate, length-append, length-map, get_or-append}
use Rattle.lists.specs.Lists.{every, those, numbers_from}
use Rattle.lists.proofs.Lists.{those_e}
use Rattle.rows.specs.declared.Row.{Row}
use Rattle.rows.specs.Rows.{version, rows_at, row_size, row_in, rows_in, with_rows, holds_edge, holds_face}
use Rattle.rows.proofs.RowsOfTables.{rows_room}
use Rattle.rows.proofs.PastedRows.{with_length, with_more}
use Rattle.marking.specs.Marking.{dress_by, new_mark, dressed}
use Rattle.dressing.proofs.NewRowsDressed.{room_plain, dressed_in_place}
use Rattle.layout.specs.Layout.{max_rows}
use Rattle.layout.proofs.CellsReadBack.{roomy}
use Rattle.ring.specs.declared.Ring.{Ring}
use Rattle.ring.specs.Ring.{Site, site_of, m, max_ring}
use Rattle.triangulation.specs.Triangulation.{span, v, new_rows, table_after}
use Rattle.triangulation.specs.Best.{chosen}
use Rattle.triangulation.proofs.WholeRing.{after_length}
use Rattle.cells.specs.Steps.{cells}
use Rattle.expansion.specs.Steps.{Between, SiteRows, tree_in}
use Rattle.output.specs.Output.{staying}
use Rattle.output.proofs.RowsThatStay.{edge_staying, edge_going, face_staying}
use Rattle.calls.specs.Removing.{rows_made, patch_after}
use Rattle.kept_marks.proofs.NewRowsPlain.{new_plain}
use Rattle.edge.specs.Steps.{RingedFact}
use Rattle.edge.specs.declared.RingedEdge.{RingedEdge}
use Rattle.edge.specs.Edges.{site_of_edge}
use Rattle.replacement.specs.Steps.{Carriable}

module _ (edge : RingedEdge) {region : ℕ} {apexes rows : List ℕ}
    (carriable : Carriable (site_of_edge edge) region apexes edge.table.now rows) where
  abbrev its : Site
  its = site_of_edge edge

  given : RingedFact edge.coordinates.now edge.count edge.table.now edge.n edge.a edge.b edge.closed edge.ring
  given = edge.ringed

  least : min edge.a edge.b ≡ edge.a
  least = omega (arith, given.ready.ordered)

  most : max edge.a edge.b ≡ edge.b
  most = omega (arith, given.ready.ordered)

  size_is : edge.ring.m ≡ m its
  size_is = ap (λ (r : Ring). r.m) given.ready.found

  -- the block holds the rows that are there now
  pub keep_room : (rows_at + row_size * edge.n ≤ length edge.table.now) × (rows_at + row_size * edge.n ≤ length rows)
  keep_room = (given.ready.rows, omega (arith, given.ready.few_rows, carriable.place))

  module _ (kept : ℕ) (kept-is : kept ≡ length (staying edge.a edge.b edge.b (rows_in edge.table.now edge.n))) (front : List ℕ)
      (front-is : front ≡ with_rows rows 0 (staying edge.a edge.b edge.b (rows_in edge.table.now edge.n))) where
    stays : staying edge.a edge.b edge.b (rows_in edge.table.now edge.n) ≡ its.kept
    unfolding site_of
    stays = edge_staying edge.a edge.b (rows_in edge.table.now edge.n) ∙ rw (least, most)

    kept_own : kept ≡ length its.kept
    kept_own = kept-is ∙ ap length stays

    front_own : front ≡ with_rows rows 0 its.kept
    front_own = front-is ∙ ap (with_rows rows 0) stays

    front_size : length front ≡ length rows
    front_size = ap length front_own ∙ with_length rows 0 its.kept (omega (arith, carriable.room, carriable.place))

    pub expand_ready : (length apexes ≡ cells) × Between apexes 1 edge.ring.m × (1 ≤ 1) × (1 < edge.ring.m) × (edge.ring.m ≤ max_ring)
    expand_ready = (
      carriable.whole,
      rw size_is carriable.stand.between,
      omega arith,
      omega (arith, size_is, given.ready.long),
      omega (arith, size_is, given.ready.short),
    )

    pub expand_room : rows_at + row_size * (kept + 2 * (edge.ring.m - 1 - 1)) ≤ length front
    expand_room = omega (arith, front_size, kept_own, size_is, given.ready.long, carriable.room, carriable.place)

    point : (l : ℕ) → 1 ≤ l → l ≤ m its → get_or edge.ring.v (l - 1) 0 ≡ v its l
    point zero s h = absurd (omega arith)
    point (suc l) s h =
        let back : suc l - 1 ≡ l = omega arith in
        ap (λ k. get_or edge.ring.v k 0) back
        ∙ ap (λ (r : Ring). get_or r.v l 0) given.ready.found
        ∙ get_or-append its.ring (replicate (max_ring - m its) 0) 0 l (omega arith)

    site_rows : SiteRows its (record { a = edge.a; b = edge.b; v = edge.ring.v }) region 1 edge.ring.m
    unfolding site_of
    site_rows = rw size_is (record { a = sym least; b = sym most; v = point; own_region = carriable.own_region })

    module _ (two : List ℕ) (end : ℕ)
        (expanded : (site : Site) → SiteRows site (record { a = edge.a; b = edge.b; v = edge.ring.v }) region 1 edge.ring.m
        → span (tree_in apexes 1 edge.ring.m) ≡ edge.ring.m - 1
        → (two ≡ with_rows front kept (new_rows site 1 (tree_in apexes 1 edge.ring.m)))
        × (end ≡ kept + length (new_rows site 1 (tree_in apexes 1 edge.ring.m)))) where
      abbrev new : List Row
      new = new_rows its 1 (chosen its)

      tree : tree_in apexes 1 edge.ring.m ≡ chosen its
      tree = rw size_is carriable.stand.tree

      own : (two ≡ with_rows front kept new) × (end ≡ kept + length new)
      own = rw tree at (expanded its site_rows (ap span tree ∙ carriable.stand.spans ∙ sym (ap (λ k. k - 1) size_is)))

      -- the new rows, written
      two_own : two ≡ with_rows rows 0 (its.kept ++ new)
      two_own =
          own.0
          ∙ ap (λ t. with_rows t kept new) front_own
          ∙ with_more rows 0 kept its.kept new (omega (arith, kept_own)) (omega (arith, carriable.place))

      few : end ≤ max_rows
      unfolding table_after
      few =
          let size = after_length its (chosen its) carriable.stand.spans in
          omega (arith, own.1, kept_own, length-append its.kept new, carriable.room)

      two_size : length two ≡ length rows
      two_size =
          ap length two_own
          ∙ with_length rows 0 (its.kept ++ new) (omega (arith, own.1, kept_own, length-append its.kept new, few, carriable.place))

      pub dress_room : (kept ≤ end) × (rows_at + row_size * end ≤ length two)
      dress_room = (omega (arith, own.1), omega (arith, few, carriable.place, two_size))

      goes : those (holds_face (edge.a ∷ edge.b ∷ edge.b ∷ [])) (rows_in edge.table.now edge.n) ≡ its.removed
      unfolding site_of
      goes = edge_going edge.a edge.b (rows_in edge.table.now edge.n) ∙ rw (least, most)

      remains : those (λ row. not (holds_face (edge.a ∷ edge.b ∷ edge.b ∷ []) row)) (rows_in edge.table.now edge.n) ≡ its.kept
      remains = sym (face_staying edge.a edge.b edge.b (rows_in edge.table.now edge.n)) ∙ stays

      site_room : T (every (roomy (version edge.table.now)) (its.kept ++ new))
      unfolding site_of
      site_room =
          room_plain (version edge.table.now) its.removed its.kept new
          (λ row m. rows_room edge.table.now edge.n row (those_e (holds_edge (min edge.a edge.b) (max edge.a edge.b)) (rows_in edge.table.now edge.n) m).0)
          (λ row m. rows_room edge.table.now edge.n row (those_e (λ row. not (holds_edge (min edge.a edge.b) (max edge.a edge.b) row)) (rows_in edge.table.now edge.n) m).0)
          (new_plain its 1 (chosen its))

      -- the rows that stay and the new ones, dressed
      pub carried_out : (three : List ℕ)
          → three ≡ with_rows two kept (dressed (those (holds_face (edge.a ∷ edge.b ∷ edge.b ∷ [])) (rows_in edge.table.now edge.n))
          (those (λ row. not (holds_face (edge.a ∷ edge.b ∷ edge.b ∷ []) row)) (rows_in edge.table.now edge.n)) (map (row_in two) (numbers_from kept (end - kept))))
          → (end ≡ length (patch_after its).rows) × (three ≡ with_rows rows 0 (patch_after its).rows)
      unfolding patch_after
      carried_out three is =
          let made = length-map new (dress_by (new_mark its.removed its.kept)) in (
            own.1 ∙ rw kept_own (sym (length-append its.kept (rows_made its) ∙ ap (λ k. length its.kept + k) made)),
            dressed_in_place rows its.kept new kept end kept_own own.1 (omega (arith, few, carriable.place))
                (rw carriable.same_version site_room) two two_own its.removed its.kept three (rw (goes, remains) at is),
          )
