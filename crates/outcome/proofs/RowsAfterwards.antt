-- The rows afterwards of an edge that can be replaced: they are few enough, they can be measured, and they are the patch afterwards.
use Prim.Native.Nat.{ℕ, ◌≤◌, min, max}
use mathlib.Core.Bool.{Bool, not}
use mathlib.Core.List.{List}
use mathlib.Core.Path.{◌≡◌, sym, ap, ap₂, ◌∙◌, subst}
use native.Mathlib.Omega.{arith}
use lib.Dec.{T}
use lib.ListN.{length, length-append, length-map}
use Rattle.lists.specs.Lists.{every}
use Rattle.lists.proofs.Lists.{those_e}
use Rattle.volume.proofs.PointsInBytes.{points_length}
use Rattle.page.specs.declared.PageRow.{PageRow}
use Rattle.page.specs.Page.{shown, page_row}
use Rattle.rows.specs.declared.Row.{Row}
use Rattle.rows.specs.Rows.{version, rows_in, with_rows, holds_edge}
use Rattle.rows.proofs.RowsOfTables.{rows_room}
use Rattle.rows.proofs.PastedRows.{with_length}
use Rattle.mesh.specs.Mesh.{numbers_fit, keeps_mesh_rule}
use Rattle.mesh.proofs.MeshRuleStated.{keeps_fits}
use Rattle.marking.specs.Marking.{dress_by, new_mark}
use Rattle.dressing.proofs.NewRowsDressed.{written_read, room_dressed}
use Rattle.layout.specs.Layout.{Patch, body_bytes, max_rows, point_count, row_count, coordinates_of, fields_of}
use Rattle.layout.proofs.CellsReadBack.{roomy}
use Rattle.tally.specs.Steps.{Measured}
use Rattle.tally.specs.Tally.{patch_in, worst_of_patch}
use Rattle.ring.specs.declared.Ring.{Ring}
use Rattle.ring.specs.Ring.{Site, site_of}
use Rattle.ring.proofs.RingInAnyOrder.{site_ordered}
use Rattle.triangulation.specs.Triangulation.{new_rows, table_after, rows_after}
use Rattle.triangulation.specs.Best.{chosen}
use Rattle.cells.specs.Steps.{cells}
use Rattle.calls.specs.Removing.{rows_made, patch_after}
use Rattle.calls.proofs.BestDecides.{chosen_keeps, chosen_rows}
use Rattle.kept_marks.proofs.DressedRows.{dress_keeps}
use Rattle.kept_marks.proofs.NewRowsPlain.{new_plain}
use Rattle.edge.specs.declared.RingedEdge.{RingedEdge}
use Rattle.edge.specs.Edges.{site_of_edge, IsEdgeOf}
use Rattle.edge.proofs.EdgeRinged.{in_block_site}
use Rattle.replacement.specs.Steps.{Carriable, edge_site, Replaceable}
use Rattle.outcome.specs.Steps.{rows_afterwards, Replaces}

module _ (block : List ℕ) (e f : ℕ) {closed : Bool} {ring : Ring} {region : ℕ} {apexes : List ℕ}
    (given : Replaceable block e f closed ring region apexes) where
  abbrev its : Site
  its = edge_site block e f

  abbrev after : List Row
  after = (patch_after its).rows

  abbrev new : List Row
  new = new_rows its 1 (chosen its)

  own_site : its ≡ site_of (fields_of block) e f
  unfolding fields_of
  own_site = site_ordered (fields_of block) e f

  own_rows : after ≡ rows_afterwards block e f
  own_rows = ap (λ (s : Site). (patch_after s).rows) own_site

  made_rows : length (table_after its (chosen its)) ≡ rows_after its
  made_rows = chosen_rows its given.ringed.sound given.ringed.ready.long given.way

  few : length after ≤ max_rows
  unfolding patch_after table_after
  few =
      let made = length-map new (dress_by (new_mark its.removed its.kept)) in
      omega (
        arith,
        made_rows,
        given.room,
        length-append its.kept (rows_made its),
        length-append its.kept new,
      )

  pub few_afterwards : length (rows_afterwards block e f) ≤ max_rows
  few_afterwards = subst (λ (rows : List Row). length rows ≤ max_rows) own_rows few

  pub carriable : {rows : List ℕ} {edge : RingedEdge} → IsEdgeOf block e f closed ring edge → length apexes ≡ cells → body_bytes ≤ length rows
      → version rows ≡ version block → Carriable (site_of_edge edge) region apexes edge.table.now rows
  carriable {rows} {edge} is whole place same =
      subst (λ (s : Site). Carriable s region apexes edge.table.now rows) (sym (in_block_site is))
      (record {
        room = given.room;
        own_region = given.own_region;
        whole = whole;
        stand = given.stand;
        place = place;
        same_version = same ∙ ap version (sym is.table);
      })

  -- there is room for them
  after_roomy : T (every (roomy (version block)) after)
  unfolding patch_after site_of
  after_roomy =
      let n = row_count block in
      let a = min (min e f) (max e f) in
      let b = max (min e f) (max e f) in
      room_dressed (version block) its.removed its.kept new
      (λ row m. rows_room block n row (those_e (holds_edge a b) (rows_in block n) m).0)
      (λ row m. rows_room block n row (those_e (λ row. not (holds_edge a b row)) (rows_in block n) m).0)
      (new_plain its 1 (chosen its))

  -- they keep the mesh rule
  after_keeps : T (keeps_mesh_rule (length its.points) after)
  unfolding patch_after table_after
  after_keeps =
      subst T (sym (dress_keeps (new_mark its.removed its.kept) (length its.points) its.kept new))
      (chosen_keeps its given.ringed.sound given.ringed.ready.long given.way)

  module _ (before : List ℕ) (place : body_bytes ≤ length before) (same : version before ≡ version block)
      {edge : RingedEdge} (is : IsEdgeOf block e f closed ring edge)
      (n : ℕ) (n_is : n ≡ length (patch_after (site_of_edge edge)).rows)
      (rows : List ℕ) (rows_is : rows ≡ with_rows before 0 (patch_after (site_of_edge edge)).rows) where
    own_number : n ≡ length after
    own_number = n_is ∙ ap (λ (s : Site). length (patch_after s).rows) (in_block_site is)

    own_table : rows ≡ with_rows before 0 after
    own_table = rows_is ∙ ap (λ (s : Site). with_rows before 0 (patch_after s).rows) (in_block_site is)

    read : rows_in rows n ≡ after
    read = ap₂ rows_in own_table own_number ∙ written_read before after (rw same after_roomy) (omega (arith, few))

    -- the rows afterwards can be measured
    pub measured : Measured edge.coordinates.now edge.count rows n
    unfolding site_of
    measured =
        let size : length rows ≡ length before = ap length own_table ∙ with_length before 0 after (omega (arith, few)) in
        let fit = keeps_fits (length its.points) after after_keeps in
        let own = subst (λ c. T (every (numbers_fit c) after)) (points_length (coordinates_of block) (point_count block)) fit in
        let now = given.ringed.measured in
        rw (is.coordinates, is.count) (record {
          points_held = now.points_held;
          rows_held = omega (arith, size, own_number, few);
          rows_most = omega (arith, own_number, few);
          proper = rw read own;
        })

    patch_is : patch_in (coordinates_of block) (point_count block) rows n ≡ patch_after (site_of (fields_of block) e f)
    unfolding patch_after site_of
    patch_is =
        let own : patch_in (coordinates_of block) (point_count block) rows n ≡ patch_after its = rw read in
        own ∙ ap patch_after own_site

    pub replaced : {first : Patch} → first ≡ fields_of block → {second : Patch} → second ≡ patch_in edge.coordinates.now edge.count rows n
        → (page : PageRow) → page ≡ page_row (shown (worst_of_patch first)) (shown (worst_of_patch second))
        → Replaces block e f before rows (record { n = n; page = page })
    replaced first_is second_is page page_is =
        let own = rw (is.coordinates, is.count) at second_is in
        record {
          number = own_number ∙ ap length own_rows;
          table = own_table ∙ ap (with_rows before 0) own_rows;
          page = page_is ∙ ap₂ (λ (x y : Patch). page_row (shown (worst_of_patch x)) (shown (worst_of_patch y))) first_is (own ∙ patch_is);
        }
