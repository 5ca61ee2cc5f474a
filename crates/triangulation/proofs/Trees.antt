-- A triangulation of a piece, taken apart: the triangle of the whole piece, and what its two smaller pieces have.
use Prim.Native.Nat.{ℕ, suc, ◌+◌, ◌<◌}
use mathlib.Core.Bool.{Bool, true, not, ◌&&◌}
use mathlib.Core.List.{List, [], ◌∷◌, ◌++◌, map, map-append, flat_map}
use mathlib.Core.Path.{◌≡◌, refl}
use native.Mathlib.Omega.{arith}
use Rattle.lists.specs.Lists.{any}
use Rattle.lists.proofs.Tests.{and_l, and_r, and_i, same_test, not_or}
use Rattle.lists.proofs.Lists.{any_append}
use Rattle.lists.proofs.Images.{flat_map_append, flat_map_e}
use Rattle.rows.specs.declared.Row.{Row}
use Rattle.mesh.specs.Mesh.{Face}
use Rattle.ring.specs.Ring.{Site}
use Rattle.rows.specs.Regions.{region_of}
use Rattle.rows.proofs.RegionsOfRows.{AllIn, all_none, all_cons}
use Rattle.triangulation.specs.Triangulation.{Tri, side, cut, span, Triangle, triangles, closing_sides, diagonals, v, two_rows, new_rows}
use Rattle.triangulation.specs.Admissible.{kept_uses, triangle_face, diagonal_faces, piece_admissible}
use Rattle.rows.specs.Labels.{no_marks}

-- ---- where a piece ends

-- j of the piece (i,j)
abbrev pub end_of : ℕ → Tri → ℕ
end_of i side = suc i
end_of i (cut l r) = end_of (end_of i l) r

pub end_span : (i : ℕ) (t : Tri) → end_of i t ≡ i + span t
unfolding span
end_span i side = omega arith
end_span i (cut l r) = omega (arith, end_span i l, end_span (end_of i l) r)

pub end_more : (i : ℕ) (t : Tri) → i < end_of i t
end_more i side = omega arith
end_more i (cut l r) = omega (arith, end_more i l, end_more (end_of i l) r)

-- ---- its triangles and rows

pub triangles_cut : (i : ℕ) (l r : Tri)
    → triangles i (cut l r) ≡ (i, end_of i l, end_of (end_of i l) r) ∷ (triangles i l ++ triangles (end_of i l) r)
unfolding triangles
triangles_cut i l r = rw (end_span (end_of i l) r, end_span i l)

-- the a-row and the b-row of a triangle
abbrev pub a_row : Site → ℕ → ℕ → ℕ → Row
a_row site i k j = record { p = site.a; q = v site i; r = v site k; s = v site j; region = region_of site.removed; marks = no_marks }

abbrev pub b_row : Site → ℕ → ℕ → ℕ → Row
b_row site i k j = record { p = v site i; q = v site k; r = v site j; s = site.b; region = region_of site.removed; marks = no_marks }

-- those of the triangle of the whole piece
abbrev pub a_top : Site → ℕ → Tri → Tri → Row
a_top site i l r = a_row site i (end_of i l) (end_of (end_of i l) r)

abbrev pub b_top : Site → ℕ → Tri → Tri → Row
b_top site i l r = b_row site i (end_of i l) (end_of (end_of i l) r)

-- they have the region of the removed rows
pub rows_region : (site : Site) (ts : List Triangle) → AllIn (region_of site.removed) (flat_map (two_rows site) ts)
unfolding two_rows
rows_region site ts row k =
    let (t, i, own) = flat_map_e (two_rows site) ts k in
    all_cons refl (all_cons refl (all_none (region_of site.removed))) row own

pub rows_side : (site : Site) (i : ℕ) → new_rows site i side ≡ []
unfolding new_rows triangles flat_map
rows_side site i = refl

pub rows_cut : (site : Site) (i : ℕ) (l r : Tri)
    → new_rows site i (cut l r) ≡ a_top site i l r ∷ b_top site i l r ∷ (new_rows site i l ++ new_rows site (end_of i l) r)
unfolding new_rows two_rows flat_map
rows_cut site i l r = rw (triangles_cut i l r, flat_map_append (two_rows site) (triangles i l) (triangles (end_of i l) r))

-- ---- its faces

-- the face of a, or of b, with two points of the ring
abbrev pub a_face : Site → ℕ → ℕ → Face
a_face site i j = (site.a, v site i, v site j)

abbrev pub b_face : Site → ℕ → ℕ → Face
b_face site i j = (site.b, v site i, v site j)

-- the face of three
abbrev pub ring_face : Site → ℕ → ℕ → ℕ → Face
ring_face site i k j = (v site i, v site k, v site j)

-- ---- when it is admissible

module _ (site : Site) where
  -- no kept row uses one of the faces, either way round
  abbrev clear : List Face → Bool
  clear fs = not (any (kept_uses site) fs)

  clear_append : (fs gs : List Face) → clear (fs ++ gs) ≡ clear fs && clear gs
  clear_append fs gs = rw (any_append (kept_uses site) fs gs) (not_or (any (kept_uses site) fs) (any (kept_uses site) gs))

  abbrev triangle_faces : ℕ → Tri → List Face
  triangle_faces i t = map (triangle_face site) (triangles i t)

  triangles_clear : (i : ℕ) (l r : Tri) → clear (triangle_faces i (cut l r))
      ≡ not (kept_uses site (ring_face site i (end_of i l) (end_of (end_of i l) r)))
      && (clear (triangle_faces i l) && clear (triangle_faces (end_of i l) r))
  unfolding any
  triangles_clear i l r =
      let k = end_of i l in
      let joined = map-append (triangle_face site) (triangles i l) (triangles k r) in
      rw (triangles_cut i l r, joined, ← (clear_append (triangle_faces i l) (triangle_faces k r)))
      (not_or (kept_uses site (ring_face site i k (end_of k r))) _)

  -- the closing side of a smaller piece is a diagonal; two neighbouring points make no piece
  unfoldable pub closing_free : ℕ → Tri → Bool
  closing_free i side = true
  closing_free i (cut l r) = clear (diagonal_faces site (i, end_of i (cut l r)))

  abbrev faces_with : List (ℕ × ℕ) → List Face
  faces_with ds = flat_map (diagonal_faces site) ds

  closing_clear : (i : ℕ) (t : Tri) → clear (faces_with (closing_sides i t)) ≡ closing_free i t && clear (faces_with (diagonals i t))
  unfolding closing_free closing_sides diagonals flat_map any
  closing_clear i side = refl
  closing_clear i (cut l r) =
      rw (end_span (end_of i l) r, end_span i l)
      (clear_append (diagonal_faces site (i, i + span l + span r)) (faces_with (diagonals i (cut l r))))

  diagonals_clear : (i : ℕ) (l r : Tri) → clear (faces_with (diagonals i (cut l r)))
      ≡ (closing_free i l && clear (faces_with (diagonals i l))) && (closing_free (end_of i l) r && clear (faces_with (diagonals (end_of i l) r)))
  unfolding diagonals
  diagonals_clear i l r =
      let left = closing_sides i l in
      let right = closing_sides (end_of i l) r in
      rw (← (end_span i l), flat_map_append (diagonal_faces site) left right, clear_append (faces_with left) (faces_with right))
      (rw (closing_clear i l, closing_clear (end_of i l) r))

  pub piece_side : (i : ℕ) → piece_admissible site i side ≡ true
  unfolding piece_admissible triangles diagonals flat_map any
  piece_side i = refl

  -- a triangulation is admissible if its triangle, the diagonals that close its two smaller pieces, and both of these are
  pub piece_cut : (i : ℕ) (l r : Tri) → piece_admissible site i (cut l r)
      ≡ not (kept_uses site (ring_face site i (end_of i l) (end_of (end_of i l) r)))
      && closing_free i l && closing_free (end_of i l) r && piece_admissible site i l && piece_admissible site (end_of i l) r
  unfolding piece_admissible
  piece_cut i l r =
      rw (triangles_clear i l r, diagonals_clear i l r)
      (same_test _ _ (λ h. search (and_i, and_l, and_r)) (λ h. search (and_i, and_l, and_r)))
