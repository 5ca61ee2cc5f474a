-- A 3-2 flip after a 2-3 flip brings back the same two tetrahedra with their marks, if the two rows have one region and no row held both
-- apexes. The three rows are a ring of three with one way to triangulate it, and its two rows are the two that went, evenly rearranged:
-- both flips keep the marked faces, so the two are dressed by what the first table marks, as the two that went are.
use Prim.Native.Nat.{ℕ, ◌≤◌, min, max}
use mathlib.Core.Bool.{Bool, true, false, not}
use mathlib.Core.List.Memᴰ
use mathlib.Core.List.{List, [], ◌∷◌, ◌++◌, map, Memᴰ}
use mathlib.Core.Logic.{◌⊎◌, inl, inr}
use mathlib.Core.Path.{◌≡◌, refl, sym, ap, ◌∙◌, subst}
use native.Mathlib.Omega.{arith}
use lib.Dec.{T, T_not, not_T}
use lib.ListN.{length}
use Rattle.lists.specs.Lists.{every, any, those}
use Rattle.lists.proofs.Tests.{and_i, or_l, or_r, no_is}
use Rattle.lists.proofs.Lists.{any_i, any_e, every_i, those_e}
use Rattle.lists.proofs.Counts.{count_append, count_split}
use Rattle.rows.specs.declared.Row.{Row}
use Rattle.rows.specs.Rows.{numbers, holds, holds_edge, holds_face}
use Rattle.rows.specs.Tetrahedra.{rearranged, SameTetrahedra}
use Rattle.mesh.specs.Mesh.{Face, uses, uses_either_way, reversed}
use Rattle.mesh.proofs.MeshRuleStated.{keeps_hits}
use Rattle.mesh.proofs.TablesAlike.{same_keeps, same_cons, same_append, same_swap}
use Rattle.rows.proofs.EvenMoves.{even_region}
use Rattle.layout.specs.Layout.{Patch}
use Rattle.answers.specs.Answers.{first_refusal}
use Rattle.ring.specs.Ring.{Site, site_of, m, or_chains, edge_tests}
use Rattle.ring.specs.SoundRing.{SoundRing}
use Rattle.ring.proofs.EdgeGoesRound.{OneRound, tests_passed, site_goes_round}
use Rattle.ring.proofs.RingIsSound.{sound_ring}
use Rattle.walk.proofs.TheSmallest.{smallest_le}
use Rattle.rows.specs.Regions.{region_of, OneRegion}
use Rattle.rows.proofs.RegionsOfRows.{region_is}
use Rattle.triangulation.specs.Triangulation.{side, cut, span, new_rows, table_after}
use Rattle.triangulation.specs.Admissible.{admissible}
use Rattle.triangulation.proofs.WholeRing.{RingWay}
use Rattle.marking.specs.Marking.{marks, marked_in, agree, marks_over, mark_goes, dress_by, new_mark, dressed}
use Rattle.kept_marks.specs.Replacing.{MarksKept}
use Rattle.dressing.proofs.NewMarks.{marks_uses}
use Rattle.kept_marks.proofs.NumbersOfFaces.{either_holds, all_in, over_e}
use Rattle.kept_marks.proofs.AgreementTested.{agree_stated}
use Rattle.kept_marks.proofs.DressedRows.{dress_uses, dress_mark, dress_even, dress_keeps}
use Rattle.kept_marks.proofs.MarksReplaced.{marked_e, marked_i, marked_turns, own_mark, new_turns}
use Rattle.kept_marks.proofs.FlipMarks.{flip_marks}
use Rattle.kept_marks.proofs.RingMarks.{removal_marks}
use Rattle.calls.specs.Removing.{mark_lost}
use Rattle.calls.specs.Flipping.{Pair, pair_of, three_rows, patch_after23}
use Rattle.tables.specs.FlipRows.{rows_across, rows_round, KeepsRule}
use Rattle.tables.proofs.FacingRows.{Facing, both_in, facing_go}
use Rattle.tables.proofs.RingOfThree.{three_kept, three_closed, ring_three, three_pass, three_one, three_new}
use Rattle.tables.proofs.OwnDressing.{dress_alike, dress_shape, table_own}

-- a table is what goes and what stays
same_parts : (p : Row → Bool) (rows : List Row) → SameTetrahedra (those (λ row. not (p row)) rows ++ those p rows) rows
same_parts p rows row =
    let parts = count_split (rearranged row) p rows in
    omega (arith, count_append (rearranged row) (those (λ row. not (p row)) rows) (those p rows))

-- two rows in either order
same_two : (x y : Row) → SameTetrahedra (x ∷ y ∷ []) (y ∷ x ∷ [])
same_two x y = same_swap (x ∷ []) (y ∷ [])

-- the two rows of the triangle, dressed by what the table marks, are the two that went
module _ (patch : Patch) (face : List ℕ) (f : Facing (length patch.points) (pair_of patch face) face)
    (rule : KeepsRule patch patch.rows) (agrees : T (agree patch.rows)) (one_region : OneRegion (pair_of patch face).removed) where
  abbrev gone : List Row
  gone = (pair_of patch face).removed

  abbrev first : Face → Bool
  first = marked_in patch.rows

  abbrev two : List Row
  two = rows_across (pair_of patch face).a (pair_of patch face).b f.t.q f.t.r f.t.s (region_of gone)

  -- a row with the numbers of one that went, dressed
  as_before : (row t x : Row) → Memᴰ row gone → T (rearranged t row) → numbers x ≡ numbers t → x.region ≡ region_of gone
      → T (rearranged (dress_by first x) row)
  unfolding pair_of
  as_before row t x k even same region =
      let its = (those_e (holds_face face) patch.rows k).0 in
      let regions = region ∙ region_is gone one_region k ∙ sym (even_region t row even) in
      rw (dress_shape first x t same regions)
      (subst (λ row. T (rearranged (dress_by first t) row)) (table_own (length patch.points) patch.rows rule agrees its)
      (dress_even first (marked_turns patch.rows) t row even))

  both : SameTetrahedra (map (dress_by first) two) (f.row_a ∷ f.row_b ∷ [])
  both =
      let (a_in, b-in) = both_in f in
      same_cons _ f.row_a _ (f.row_b ∷ []) (as_before f.row_a f.t _ a_in f.a_row_fact.even (rw f.at_a) refl)
      (same_cons _ f.row_b [] [] (as_before f.row_b f.o _ b-in f.b_row_fact (sym f.b_numbers) refl) (λ row. refl))

  same_pair : SameTetrahedra (map (dress_by first) two) gone
  same_pair = go f.order
    where
      go : (gone ≡ f.row_a ∷ f.row_b ∷ []) ⊎ (gone ≡ f.row_b ∷ f.row_a ∷ []) → SameTetrahedra (map (dress_by first) two) gone
      go (inl e) = subst (SameTetrahedra (map (dress_by first) two)) (sym e) both
      go (inr e) = subst (SameTetrahedra (map (dress_by first) two)) (sym e) (λ row. both row ∙ same_two f.row_a f.row_b row)

  -- with the rows that stay they are the first table
  first_table : SameTetrahedra ((pair_of patch face).kept ++ map (dress_by first) two) patch.rows
  unfolding pair_of
  first_table row =
      let kept = (pair_of patch face).kept in
      same_append kept kept (map (dress_by first) two) gone (λ row. refl) same_pair row ∙ same_parts (holds_face face) patch.rows row

-- ---- after the flip

module _ (patch : Patch) (face : List ℕ) (f : Facing (length patch.points) (pair_of patch face) face)
    (rule : KeepsRule patch patch.rows) (after-rule : KeepsRule patch (patch_after23 patch face).rows)
    (no_row : T (not (any (holds_edge (pair_of patch face).a (pair_of patch face).b) patch.rows))) where
  abbrev pair : Pair
  pair = pair_of patch face

  abbrev t : Row
  t = f.t

  abbrev region : ℕ
  region = region_of pair.removed

  -- its three rows are a ring round a, b
  abbrev marked : Face → Bool
  marked = new_mark pair.removed pair.kept

  abbrev round : List Row
  round = map (dress_by marked) (rows_round pair.a pair.b t.q t.r t.s region)

  abbrev middle : Patch
  middle = record { points = patch.points; rows = pair.kept ++ round }

  after_is : patch_after23 patch face ≡ middle
  unfolding patch_after23 three_rows
  after_is = rw f.t_is

  round_rule : KeepsRule patch (pair.kept ++ round)
  round_rule = subst (λ (after : Patch). KeepsRule patch after.rows) after_is after-rule

  least : (n : ℕ) → Memᴰ n (t.q ∷ t.r ∷ t.s ∷ []) → t.q ≤ n
  least n k = rw f.a_row_fact.at_u (smallest_le face (f.a_row_fact.outside k))

  none_kept : T (every (λ row. not (holds_edge pair.a pair.b row)) pair.kept)
  unfolding pair_of
  none_kept = every_i (λ row. not (holds_edge pair.a pair.b row)) pair.kept (λ row k.
      let (i, h) = those_e (λ row. not (holds_face face row)) patch.rows k in
      let held = holds_edge pair.a pair.b in
      not_T (held row) (λ both. T_not (any held patch.rows) no_row (any_i held patch.rows i both)))

  low_r : t.q ≤ t.r
  low_r = least t.r (Memᴰ.tail (Memᴰ.head refl))

  low_s : t.q ≤ t.s
  low_s = least t.s (Memᴰ.tail (Memᴰ.tail (Memᴰ.head refl)))

  abbrev site : Site
  site = site_of (patch_after23 patch face) pair.a pair.b

  site_is : site ≡ site_of middle pair.a pair.b
  site_is = ap (λ patch. site_of patch pair.a pair.b) after_is

  -- no answer from 9 to 12
  pub back_passes : first_refusal (edge_tests or_chains site pair.a pair.b) ≡ 0
  back_passes =
      rw site_is
      (three_pass patch.points pair.kept marked pair.a pair.b t.q t.r t.s region f.less low_r low_s round_rule
      none_kept or_chains)

  pub back_closed : site.closed ≡ true
  back_closed =
      ap (λ (s : Site). s.closed) site_is
      ∙ three_closed patch.points pair.kept marked pair.a pair.b t.q t.r t.s region f.less low_r low_s round_rule
      none_kept

  pub back_three : m site ≡ 3
  back_three =
      ap (λ (s : Site). m s) site_is
      ∙ ap length (ring_three patch.points pair.kept marked pair.a pair.b t.q t.r t.s region f.less low_r low_s
      round_rule none_kept)

  -- of one region
  pub back_one : OneRegion site.removed
  back_one =
      rw site_is
      (three_one patch.points pair.kept marked pair.a pair.b t.q t.r t.s region f.less low_r low_s round_rule
      none_kept)

  -- its one triangle
  back_new : new_rows site 1 (cut side side) ≡ rows_across pair.a pair.b t.q t.r t.s region
  back_new =
      ap (λ s. new_rows s 1 (cut side side)) site_is
      ∙ three_new patch.points pair.kept marked pair.a pair.b t.q t.r t.s region f.less low_r low_s round_rule
      none_kept

  back_kept : site.kept ≡ pair.kept
  back_kept =
      ap (λ (s : Site). s.kept) site_is
      ∙ three_kept patch.points pair.kept marked pair.a pair.b t.q t.r t.s region f.less low_r low_s round_rule
      none_kept

  -- ---- its marks

  module _ (agrees : T (agree patch.rows)) (clear : mark_goes face (pair_of patch face).removed ≡ false) where
    abbrev its : List Row
    its = (patch_after23 patch face).rows

    once : MarksKept patch.rows its
    once = flip_marks (length patch.points) patch face rule (facing_go f) agrees after-rule clear

    -- a face with both apexes is in no row of the first table, so it is unmarked
    held_before : (g : Face) → Memᴰ pair.a (g.0 ∷ g.1 ∷ g.2 ∷ []) → Memᴰ pair.b (g.0 ∷ g.1 ∷ g.2 ∷ [])
        → T (marked_in patch.rows g) → ⊥
    held_before g a_in b-in h = go (marked_e patch.rows g h)
      where
        used : (row : Row) → Memᴰ row patch.rows → T (uses_either_way g row) → ⊥
        used row k u =
            let held = holds_edge pair.a pair.b in
            T_not (any held patch.rows) no_row
            (any_i held patch.rows k
            (and_i (holds row pair.a) (holds row pair.b) (either_holds g row u a_in) (either_holds g row u b-in)))

        go : T (any (marks g) patch.rows) ⊎ T (any (marks (reversed g)) patch.rows) → ⊥
        go (inl h) =
            let (row, k, marked) = any_e (marks g) patch.rows h in
            used row k (or_l (uses g row) (uses (reversed g) row) (marks_uses g row marked))
        go (inr h) =
            let (row, k, marked) = any_e (marks (reversed g)) patch.rows h in
            used row k (or_r (uses g row) (uses (reversed g) row) (marks_uses (reversed g) row marked))

    ends_are : site.a ∷ site.b ∷ [] ≡ pair.a ∷ pair.b ∷ []
    unfolding site_of
    ends_are =
        let low : min pair.a pair.b ≡ pair.a = omega (arith, f.less) in
        let high : max pair.a pair.b ≡ pair.b = omega (arith, f.less) in
        rw (low, high)

    -- no answer 23
    pub back_unmarked : mark_lost site ≡ false
    unfolding site_of
    back_unmarked =
        let ends : List ℕ = site.a ∷ site.b ∷ [] in
        no_is (mark_lost site) (not_T (mark_lost site) λ lost.
        let (row, k, over) = any_e (marks_over ends) site.removed lost in
        let (g, all, marked) = over_e ends row over in
        let there = marked_i its g (those_e (holds_edge site.a site.b) its k).0 marked in
        let apex : (n : ℕ) → Memᴰ n (pair.a ∷ pair.b ∷ []) → Memᴰ n (g.0 ∷ g.1 ∷ g.2 ∷ []) =
        λ n i. all_in ends g all (subst (Memᴰ n) (sym ends_are) i) in
        held_before g (apex pair.a (Memᴰ.head refl)) (apex pair.b (Memᴰ.tail (Memᴰ.head refl)))
        (subst T (once.marked g) there))

    -- ---- and back

    module _ (one_region : OneRegion (pair_of patch face).removed) where
      abbrev plain : List Row
      plain = two patch face f rule agrees one_region

      table_is : table_after site (cut side side) ≡ pair.kept ++ plain
      unfolding table_after
      table_is = rw (back_new, back_kept)

      plain_rule : KeepsRule patch (pair.kept ++ plain)
      plain_rule =
          let count = length patch.points in
          let same = same_keeps count _ patch.rows (first_table patch face f rule agrees one_region) in
          rw (← dress_keeps (marked_in patch.rows) count pair.kept plain, same) rule

      -- the triangle keeps the mesh rule
      pub back_way : RingWay site (cut side side)
      unfolding span admissible site_of patch_after23
      back_way = record { spans = rw back_three refl; keeps = rw table_is plain_rule }

      -- so both flips keep the marks
      round_one : OneRound site
      round_one = (tests_passed site pair.a pair.b back_passes).1

      ends_apart : pair.a ≡ pair.b → ⊥
      ends_apart e = omega (arith, f.less)

      sound : SoundRing site
      unfolding patch_after23
      sound = sound_ring (patch_after23 patch face) pair.a pair.b ends_apart after-rule round_one

      abbrev last : List Row
      last = site.kept ++ dressed site.removed site.kept (new_rows site 1 (cut side side))

      twice : MarksKept its last
      unfolding site_of
      twice =
          removal_marks site sound
          (site_goes_round (length patch.points) (patch_after23 patch face) pair.a pair.b ends_apart after-rule round_one)
          (omega (arith, back_three)) (cut side side) back_way.spans its refl refl once.agrees back_way.keeps back_unmarked

      abbrev back : Face → Bool
      back = new_mark site.removed site.kept

      last_rule : KeepsRule patch last
      unfolding admissible table_after site_of patch_after23
      last_rule = rw (dress_keeps back (length patch.points) site.kept (new_rows site 1 (cut side side))) back_way.keeps

      -- each new row marks what the first table marks
      back_mark : (x : Row) → Memᴰ x (new_rows site 1 (cut side side)) → (g : Face) → T (uses g x) → back g ≡ marked_in patch.rows g
      back_mark x k g used =
          sym (dress_mark back (new_turns site.removed site.kept) g x used)
          ∙ own_mark last (keeps_hits (length patch.points) last last_rule) (agree_stated last twice.agrees) g (dress_by back x)
          (Memᴰ.append_right site.kept (Memᴰ.map (dress_by back) k)) (rw (dress_uses back g x) used)
          ∙ twice.marked g ∙ once.marked g

      -- the table has the tetrahedra of the first
      pub back_table : SameTetrahedra (site.kept ++ dressed site.removed site.kept (new_rows site 1 (cut side side))) patch.rows
      back_table =
          let alike = dress_alike back (marked_in patch.rows) (new_rows site 1 (cut side side)) back_mark in
          rw (alike, back_new, back_kept) (first_table patch face f rule agrees one_region)
