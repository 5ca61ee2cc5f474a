-- Two sites with the same points, ends and ring or chain, whose kept rows are the same tetrahedra and whose removed rows have the same
-- region: the same ways are admissible, with the same worst, and the same one is chosen; so the new rows are the same.
use Prim.Native.Nat.{ℕ, zero, suc, ◌-◌}
use mathlib.Core.Bool.{Bool, not, ◌&&◌}
use mathlib.Core.List.{List, map, flat_map}
use mathlib.Core.Option.{Option, none, some, get_or}
use mathlib.Core.Path.{◌≡◌, refl, ap, ◌∙◌, fun_ext}
use Rattle.lists.specs.Lists.{any, those, first, numbers_from}
use Rattle.lists.proofs.Images.{flat_map_same}
use Rattle.quality.specs.declared.Quality.{Quality}
use Rattle.quality.specs.Quality.{worst, best, as_good, zero_quality}
use Rattle.rows.specs.declared.Row.{Row}
use Rattle.mesh.specs.Mesh.{Face, uses, uses_either_way, reversed}
use Rattle.rows.specs.Regions.{region_of}
use Rattle.rows.specs.RowMeasure.{row_quality}
use Rattle.rows.specs.Tetrahedra.{SameTetrahedra}
use Rattle.mesh.proofs.EvenFaces.{even_uses}
use Rattle.ring.specs.Ring.{Site, m}
use Rattle.links.specs.Links.{Link}
use Rattle.triangulation.specs.Triangulation.{Tri, side, cut, Triangle, triangles, diagonals, ways, v, two_rows, new_rows}
use Rattle.triangulation.specs.Admissible.{kept_uses, triangle_face, diagonal_faces, piece_admissible, end_faces, barred}
use Rattle.triangulation.specs.Best.{worst_of_way, piece_ways, best_worst, has_apex, reaches, apex, chosen_within, chosen}
use Rattle.triangulation.proofs.AcrossTables.{any_across}

module _ (site : Site) (removed kept : List Row) (links : List Link) (same : SameTetrahedra site.kept kept)
    (region : region_of site.removed ≡ region_of removed) where
  -- the site with other rows
  abbrev pub kin : Site
  kin =
      record {
        points = site.points;
        a = site.a;
        b = site.b;
        removed = removed;
        kept = kept;
        links = links;
        closed = site.closed;
        ring = site.ring;
      }

  -- ---- admissible

  uses_same : (f : Face) → kept_uses site f ≡ kept_uses kin f
  uses_same f =
      any_across (uses_either_way f)
      (λ t u even. rw (even_uses t u even f, even_uses t u even (reversed f)))
      site.kept kept same

  v_same : (i : ℕ) → v site i ≡ v kin i
  v_same zero = refl
  v_same (suc i) = refl

  abbrev face_free : (Face → Bool) → (Triangle → Face) → (ℕ × ℕ → List Face) → ℕ → Tri → Bool
  face_free used face sides i t =
      not (any used (map face (triangles i t)))
      && not (any used (flat_map sides (diagonals i t)))

  pub piece_same : (i : ℕ) (t : Tri) → piece_admissible site i t ≡ piece_admissible kin i t
  unfolding piece_admissible
  piece_same i t =
      let face : (t : Triangle) → triangle_face site t ≡ triangle_face kin t = λ t. rw (v_same t.0, v_same t.1, v_same t.2) in
      let sides : (d : ℕ × ℕ) → diagonal_faces site d ≡ diagonal_faces kin d = λ d. rw (v_same d.0, v_same d.1) in
      ap (λ used. face_free used (triangle_face site) (diagonal_faces site) i t) (fun_ext uses_same)
      ∙ ap (λ face. face_free (kept_uses kin) face (diagonal_faces site) i t) (fun_ext face)
      ∙ ap (λ sides. face_free (kept_uses kin) (triangle_face kin) sides i t) (fun_ext sides)

  -- the same chains are barred
  pub barred_same : barred site ≡ barred kin
  unfolding barred end_faces
  barred_same =
      ap (λ (used : Face → Bool). any used (end_faces site))
      (fun_ext (λ f. any_across (uses f) (λ t u even. even_uses t u even f) site.kept kept same))
      ∙ ap (any (λ f. any (uses f) kept)) (faces (v_same (m site)))
    where
      faces : v site (m site) ≡ v kin (m site) → end_faces site ≡ end_faces kin
      faces e = rw e

  -- ---- the new rows

  new_same : (i : ℕ) (t : Tri) → new_rows site i t ≡ new_rows kin i t
  unfolding new_rows two_rows
  new_same i t =
      flat_map_same (two_rows site) (two_rows kin) (triangles i t) (λ t k. rw (v_same t.0, v_same t.1, v_same t.2, region))

  pub worst_same : (i : ℕ) (t : Tri) → worst_of_way site i t ≡ worst_of_way kin i t
  unfolding worst_of_way
  worst_same i t = ap (λ rows. get_or (worst (map (row_quality site.points) rows)) zero_quality) (new_same i t)

  -- ---- the chosen way

  ways_same : (i j : ℕ) → piece_ways site i j ≡ piece_ways kin i j
  unfolding piece_ways
  ways_same i j = ap (λ p. those p (ways (j - i))) (fun_ext (piece_same i))

  best_same : (i j : ℕ) → best_worst site i j ≡ best_worst kin i j
  unfolding best_worst
  best_same i j =
      ap (λ f. best (map f (piece_ways site i j))) (fun_ext (worst_same i))
      ∙ ap (λ ts. best (map (worst_of_way kin i) ts)) (ways_same i j)

  reaches_same : (i j : ℕ) (o : Option Quality) (k : ℕ) → reaches site i j o k ≡ reaches kin i j o k
  unfolding reaches
  reaches_same i j none k = refl
  reaches_same i j (some q) k =
      ap (λ (f : Tri → Quality). any (λ t. has_apex i k t && as_good (f t) q) (piece_ways site i j)) (fun_ext (worst_same i))
      ∙ ap (any (λ t. has_apex i k t && as_good (worst_of_way kin i t) q)) (ways_same i j)

  apex_same : (i j : ℕ) → apex site i j ≡ apex kin i j
  unfolding apex
  apex_same i j =
      ap (λ o. first (reaches site i j o) (numbers_from (suc i) (j - i - 1))) (best_same i j)
      ∙ ap (λ p. first p (numbers_from (suc i) (j - i - 1))) (fun_ext (reaches_same i j (best_worst kin i j)))

  within_same : (depth i j : ℕ) → chosen_within depth site i j ≡ chosen_within depth kin i j
  unfolding chosen_within
  within_same zero i j = refl
  within_same (suc depth) i j = ap (follow (chosen_within depth site)) (apex_same i j) ∙ go (apex kin i j) (within_same depth)
    where
      follow : (ℕ → ℕ → Tri) → Option ℕ → Tri
      follow rest o = elim o [ none ↦ side | some k ↦ cut (rest i k) (rest k j) ]

      go : (o : Option ℕ) → ((i j : ℕ) → chosen_within depth site i j ≡ chosen_within depth kin i j)
          → follow (chosen_within depth site) o ≡ follow (chosen_within depth kin) o
      go none below = refl
      go (some k) below = rw (below i k, below k j)

  chosen_same : chosen site ≡ chosen kin
  chosen_same = within_same (m site - 1) 1 (m site)

  pub rows_same : new_rows site 1 (chosen site) ≡ new_rows kin 1 (chosen kin)
  rows_same = ap (new_rows site 1) chosen_same ∙ new_same 1 (chosen kin)
