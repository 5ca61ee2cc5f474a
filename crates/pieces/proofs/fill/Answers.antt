-- `fill` fills every cell of the ring that it is given, and then judges the whole: what a kept row bars is stored as nothing.
use Prim.Native.Nat.{ℕ, ◌<◌}
use mathlib.Core.Path.{◌≡◌, sym, ◌∙◌}
use native.Mathlib.Omega.{arith}
use lib.ListN.{get_or}
use borrow.Author.Rules.{rules}
use Rattle.triangulation.specs.Admissible.{barred}
use Rattle.triangulation.specs.Steps.{site_in}
use Rattle.kept_faces.proofs.SiteOnRim.{size_is, ring_is_lem, rimmed, site_rim, barred_found}
use Rattle.pieces.proofs.TableFilled.{keeps_open, keeps_barred}
use Rattle.pieces.proofs.fill.Goals as goal

pub gather-requires : goal.gather-requires
gather-requires c =
    let fillable = c.requires in
    (fillable.rows, omega (arith, fillable.few_rows), omega (arith, size_is fillable, fillable.short))

pub fill_cells-requires : goal.fill_cells-requires
fill_cells-requires c =
    let fillable = c.requires in
    record {
      rimmed = rimmed fillable;
      whole = record { all_nums = search rules; all_dens = search rules; all_kinds = search rules; all_apexes = search rules };
      ring_size = (omega (arith, size_is fillable, fillable.long), omega (arith, size_is fillable, fillable.short));
    }

pub overflow_sub-m : goal.overflow_sub-m
overflow_sub-m c =
    let fillable = c.requires in
    omega (arith, size_is fillable, fillable.long)

pub bounds-v-m : goal.bounds-v-m
bounds-v-m c =
    let fillable = c.requires in
    omega (arith, size_is fillable, fillable.short)

pub cell_at-requires : goal.cell_at-requires
cell_at-requires c =
    let fillable = c.requires in
    (omega arith, omega (arith, size_is fillable, fillable.long), omega (arith, size_is fillable, fillable.short))

pub returns-then-uses_across : goal.returns-then-uses_across
returns-then-uses_across c =
    let fillable = c.requires in
    let a = c.args in
    let site = site_in a.coordinates.now a.count a.table.now a.n a.a a.b in
    let found = c.gather.ensures in
    let bytes : (j : ℕ) → get_or a.table.now j 0 < 256 = λ j. omega (arith, c.type_inv.table j) in
    let done = c.fill_cells.ensures.done site (site_rim fillable found bytes) (size_is fillable) in
    let bars : c.uses_across.result ≡ barred site = c.uses_across.ensures ∙ barred_found fillable found bytes in
    keeps_barred done (size_is fillable) (ring_is_lem fillable) (sym bars ∙ c.if-uses_across.true)
    fillable.long c.cell_at.ensures.0 c.store.ensures

pub returns-else-uses_across : goal.returns-else-uses_across
returns-else-uses_across c =
    let fillable = c.requires in
    let a = c.args in
    let site = site_in a.coordinates.now a.count a.table.now a.n a.a a.b in
    let found = c.gather.ensures in
    let bytes : (j : ℕ) → get_or a.table.now j 0 < 256 = λ j. omega (arith, c.type_inv.table j) in
    let done = c.fill_cells.ensures.done site (site_rim fillable found bytes) (size_is fillable) in
    let bars : c.uses_across.result ≡ barred site = c.uses_across.ensures ∙ barred_found fillable found bytes in
    keeps_open done (size_is fillable) (ring_is_lem fillable) (sym bars ∙ c.if-uses_across.false)
