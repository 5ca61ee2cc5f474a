-- What is said of every set of triangles that cuts the ring, and what is said of every tree, is one: such a set is the triangles of one
-- tree in another order, and neither the mesh rule nor the worst of the rows nor their total D knows an order.
use Prim.Native.Nat.{◌+◌, ◌-◌, ◌≤◌}
use mathlib.Core.Bool.{Bool, not}
use mathlib.Core.List.{List, [], ◌∷◌, map, flat_map, Memᴰ}
use mathlib.Core.Logic.{◌↔◌}
use mathlib.Core.Option.{some}
use mathlib.Core.Path.{◌≡◌, refl, sym, ap, ◌∙◌, subst}
use native.Mathlib.Omega.{arith}
use lib.Dec.{T}
use lib.IntN.{ℤ, ◌+ℤ◌, +ℤ_assoc}
use lib.ListN.{length}
use Rattle.lists.specs.Lists.{those, count}
use Rattle.lists.proofs.Counts.{count_cons}
use Rattle.lists.proofs.Images.{flat_map_i, flat_map_e}
use Rattle.lists.proofs.Sums.{Single, sum_over, sum_same}
use Rattle.quality.specs.Quality.{worse, as_good, worst}
use Rattle.quality.proofs.QualityOrder.{◌⊑◌, at_most_self, at_most_trans, as_good_lem}
use Rattle.rows.specs.declared.Row.{Row}
use Rattle.rows.specs.RowMeasure.{row_d, row_quality, total_d}
use Rattle.mesh.specs.Mesh.{keeps_mesh_rule}
use Rattle.rows.specs.Tetrahedra.{rearranged, SameTetrahedra}
use Rattle.rows.proofs.EvenMeasure.{total_append}
use Rattle.mesh.proofs.TablesAlike.{same_keeps, same_append}
use Rattle.ring.specs.Ring.{Site, m}
use Rattle.triangulation.specs.Triangulation.{Tri, span, Triangle, triangles, two_rows, new_rows, table_after}
use Rattle.triangulation.specs.Admissible.{admissible}
use Rattle.triangulation.specs.Best.{worst_of_way}
use Rattle.triangulation.proofs.Trees.{a_row, b_row}
use Rattle.triangulation.proofs.TotalOfPiece.{two_d}
use Rattle.triangulation.proofs.WholeRing.{RingWay}
use Rattle.triangulation.proofs.WorstOfWays.{Over, rows_over_lem, over_rows, way_fraction}
use Rattle.polygon.specs.Polygon.{cuts, Alike}
use Rattle.polygon.proofs.SameTriangles.{alike→, alike_length, alike_in}
use Rattle.polygon.proofs.Apart.{apart_single}
use Rattle.polygon.proofs.CutsAreTrees.{cuts_apart, tree_of, cuts_by}
use Rattle.polygon.proofs.OneTree.{same_tree_lem}
use Rattle.calls.specs.Removing.{worst_now}
use Rattle.demands.specs.TriangleSets.{rows_of, table_by, Way, worst_by, NoneBetter, AsGoodAsAny}

-- ---- the same, of trees

-- each way makes a tetrahedron no better than the worst one round the edge now
abbrev pub NoTreeBetter : Site → Type 0
NoTreeBetter site =
    (t : Tri) → RingWay site t
    → (row : Row) × Memᴰ row (new_rows site 1 t) × T (not (worse (worst_now site) (row_quality site.points row)))

-- none has a better worst than t
abbrev pub AsGoodAsTrees : Site → Tri → Type 0
AsGoodAsTrees site t = (u : Tri) → RingWay site u → T (not (worse (worst_of_way site 1 t) (worst_of_way site 1 u)))

module _ (site : Site) where
  -- ---- the order of the triangles does not matter

  abbrev a_row_fact : Triangle → Row
  a_row_fact x = a_row site x.0 x.1 x.2

  abbrev b_row_fact : Triangle → Row
  b_row_fact x = b_row site x.0 x.1 x.2

  -- of the rows as many pass as of the triangles' a-rows and of their b-rows
  rows_counted : (p : Row → Bool) (ts : List Triangle)
      → count p (rows_of site ts) ≡ count (λ x. p (a_row_fact x)) ts + count (λ x. p (b_row_fact x)) ts
  unfolding two_rows flat_map those
  rows_counted p [] = refl
  rows_counted p (x ∷ ts) =
      omega (
        arith,
        rows_counted p ts,
        count_cons p (a_row_fact x) (b_row_fact x ∷ rows_of site ts),
        count_cons p (b_row_fact x) (rows_of site ts),
        count_cons (λ x. p (a_row_fact x)) x ts,
        count_cons (λ x. p (b_row_fact x)) x ts,
      )

  module _ (ts us : List Triangle) (alike : Alike ts us) where
    rows_alike : SameTetrahedra (rows_of site ts) (rows_of site us)
    rows_alike row =
        let p = rearranged row in
        omega (
          arith,
          rows_counted p ts,
          rows_counted p us,
          alike→ ts us alike (λ x. p (a_row_fact x)),
          alike→ ts us alike (λ x. p (b_row_fact x)),
        )

    rule_alike : keeps_mesh_rule (length site.points) (table_by site ts) ≡ keeps_mesh_rule (length site.points) (table_by site us)
    rule_alike =
        same_keeps (length site.points) (table_by site ts) (table_by site us)
        (same_append site.kept site.kept (rows_of site ts) (rows_of site us) (λ row. refl) rows_alike)

    row_alike : {row : Row} → Memᴰ row (rows_of site ts) → Memᴰ row (rows_of site us)
    row_alike k =
        let (x, i, own) = flat_map_e (two_rows site) ts k in
        flat_map_i (two_rows site) us (alike_in ts us alike i) own

  -- a triangle has rows, so the stand-in is never used
  pub worst_some : (x : Triangle) (ts : List Triangle)
      → worst (map (row_quality site.points) (rows_of site (x ∷ ts))) ≡ some (worst_by site (x ∷ ts))
  unfolding worst two_rows flat_map
  worst_some x ts = refl

  -- where all rows of one list stand in the other too, the other has no better worst
  worst_low : (ts us : List Triangle) → length ts ≡ length us
      → ((row : Row) → Memᴰ row (rows_of site us) → Memᴰ row (rows_of site ts)) → worst_by site ts ⊑ worst_by site us
  worst_low [] [] e f = at_most_self (worst_by site [])
  worst_low [] (y ∷ us) e f = absurd (omega arith)
  worst_low (x ∷ ts) [] e f = absurd (omega arith)
  worst_low (x ∷ ts) (y ∷ us) e f =
      let q = worst_by site (x ∷ ts) in
      let low : Over site q (rows_of site (x ∷ ts)) = rows_over_lem site (rows_of site (x ∷ ts)) (worst_some x ts) q (at_most_self q) in
      over_rows site (rows_of site (y ∷ us)) (worst_some y us) q (λ row k. low row (f row k))

  alike_low : (ts us : List Triangle) → Alike ts us → worst_by site ts ⊑ worst_by site us
  alike_low ts us a = worst_low ts us (alike_length ts us a) (λ row. row_alike us ts (λ x. sym (a x)))

  -- the worsts are one fraction
  pub worst_alike : (ts us : List Triangle) → Alike ts us → T (as_good (worst_by site ts) (worst_by site us))
  worst_alike ts us a = as_good_lem (record { up = alike_low ts us a; down = alike_low us ts (λ x. sym (a x)) })

  -- ---- the total D

  -- D of a triangle's two rows
  abbrev both_d : Triangle → ℤ
  both_d x = two_d site x.0 x.1 x.2

  rows_total : (ts : List Triangle) → total_d site.points (rows_of site ts) ≡ sum_over both_d ts
  unfolding total_d two_rows flat_map row_d
  rows_total [] = refl
  rows_total (x ∷ ts) =
      let a = row_d site.points (a_row_fact x) in
      let b = row_d site.points (b_row_fact x) in
      ap (λ z. a +ℤ (b +ℤ z)) (rows_total ts) ∙ sym (+ℤ_assoc a b (sum_over both_d ts))

  -- triangles that stand once each make the total of the same triangles in another order
  total_alike : (ts us : List Triangle) → Single ts → Alike ts us
      → total_d site.points (table_by site ts) ≡ total_d site.points (table_by site us)
  total_alike ts us single alike =
      let kept = total_d site.points site.kept in
      let same = sum_same both_d us ts (omega (arith, alike_length ts us alike)) single (λ x. alike_in ts us alike) in
      total_append site.points site.kept (rows_of site ts)
      ∙ ap (λ z. kept +ℤ z) (rows_total ts ∙ sym same ∙ sym (rows_total us))
      ∙ sym (total_append site.points site.kept (rows_of site us))

  -- ---- a tree's triangles

  pub tree_rows : (t : Tri) → rows_of site (triangles 1 t) ≡ new_rows site 1 t
  unfolding new_rows
  tree_rows t = refl

  pub tree_table : (t : Tri) → table_by site (triangles 1 t) ≡ table_after site t
  unfolding table_after new_rows
  tree_table t = refl

  pub tree_worst : (t : Tri) → worst_by site (triangles 1 t) ≡ worst_of_way site 1 t
  unfolding worst_of_way new_rows
  tree_worst t = refl

  tree_rule : (t : Tri) → keeps_mesh_rule (length site.points) (table_by site (triangles 1 t)) ≡ admissible site t
  unfolding admissible table_after new_rows
  tree_rule t = refl

  -- ---- the ways are the trees' triangles, in any order

  module _ (two : 2 ≤ m site) where
    pub tree_way : (t : Tri) → RingWay site t → Way site (triangles 1 t)
    tree_way t w = (cuts_by (m site) (triangles 1 t) two t w.spans (λ x. refl), subst T (sym (tree_rule t)) w.keeps)

    -- whatever cuts the ring makes the total of a tree
    pub total_tree : (ts : List Triangle) → T (cuts (m site) ts)
        → (t : Tri) × (span t ≡ m site - 1) × (total_d site.points (table_by site ts) ≡ total_d site.points (table_after site t))
    total_tree ts h =
        let (t, spans, alike) = tree_of (m site) ts two h in
        let single = apart_single ts (cuts_apart (m site) ts h) in
        (t, spans, total_alike ts (triangles 1 t) single alike ∙ ap (total_d site.points) (tree_table t))

    -- of one tree, and of no other
    pub way_tree : (ts : List Triangle) → Way site ts
        → (t : Tri) × RingWay site t × Alike ts (triangles 1 t)
        × ((u : Tri) → span u ≡ m site - 1 → Alike ts (triangles 1 u) → t ≡ u)
    way_tree ts w =
        let (t, spans, alike) = tree_of (m site) ts two w.0 in
        let keeps : T (admissible site t) = subst T (rule_alike ts (triangles 1 t) alike ∙ tree_rule t) w.1 in
        (t, record { spans = spans; keeps = keeps }, alike, λ u e b. same_tree_lem (m site) ts t u spans e alike b)

    pub none_better_fact : NoneBetter site ↔ NoTreeBetter site
    none_better_fact = (
      λ h t w. let (row, k, low) = h (triangles 1 t) (tree_way t w) in (row, subst (Memᴰ row) (tree_rows t) k, low),
      λ h ts w. let (t, own, alike, one) = way_tree ts w in
          let (row, k, low) = h t own in
          (row, row_alike (triangles 1 t) ts (λ x. sym (alike x)) (subst (Memᴰ row) (sym (tree_rows t)) k), low),
    )

    pub best_of_lem : (t : Tri) → AsGoodAsAny site (triangles 1 t) ↔ AsGoodAsTrees site t
    best_of_lem t = (
      λ h u w. rw (tree_worst t, tree_worst u) at (h (triangles 1 u) (tree_way u w)),
      λ h us w. let (u, own, alike, one) = way_tree us w in
          let low : worst_by site us ⊑ worst_of_way site 1 u = rw (tree_worst u) at (alike_low us (triangles 1 u) alike) in
          let high : worst_of_way site 1 u ⊑ worst_of_way site 1 t = record { not_worse = h u own } in
          rw (tree_worst t) (at_most_trans (way_fraction site 1 u) low high).not_worse,
    )
