-- A triangulation of a piece is admissible if its triangle is free, each of the triangle's two other sides is one of the ring's
-- or a free diagonal, and the triangulations of the two smaller pieces are admissible.
use Prim.Native.Nat.{ℕ, ◌+◌, ◌-◌, ◌≤◌}
use mathlib.Core.Bool.{Bool, false, not, ◌&&◌, ◌||◌}
use mathlib.Core.List.{map, flat_map, map-append}
use mathlib.Core.Path.{◌≡◌, sym, ap, ◌∙◌, subst}
use native.Mathlib.Omega.{arith}
use lib.Dec.{T, leb, leb→le, le→leb, not_T}
use Rattle.lists.specs.Lists.{any}
use Rattle.lists.proofs.Tests.{and_l, and_r, and_i, yes_is, no_is, neither_l, neither_r, neither_i}
use Rattle.lists.proofs.Lists.{any_append}
use Rattle.lists.proofs.Images.{flat_map_append}
use Rattle.ring.specs.Ring.{Site}
use Rattle.triangulation.specs.Triangulation.{Tri, side, cut, span, triangles, closing_sides, diagonals}
use Rattle.triangulation.specs.Admissible.{kept_uses, triangle_face, diagonal_faces, piece_admissible}
use Rattle.triangulation.proofs.AllWays.{span_over}

-- (i,j) is a diagonal, and a kept row uses a face of a or b with it
abbrev pub side_used : Site → ℕ → ℕ → Bool
side_used site i j = not (leb (j - i) 1) && any (kept_uses site) (diagonal_faces site (i, j))

-- l from i on ends at k, and r from k on at j
pub record Cuts (i k j : ℕ) (l r : Tri) : Type 0 where
  pub at_k : i + span l ≡ k
  pub at_j : k + span r ≡ j

-- what makes a triangle (i,k,j) with triangulations of (i,k) and (k,j) admissible
pub record Fits (site : Site) (i k j : ℕ) (l r : Tri) : Type 0 where
  pub triangle : T (not (kept_uses site (triangle_face site (i, k, j))))
  pub left_side : T (not (side_used site i k))
  pub left : T (piece_admissible site i l)
  pub right_side : T (not (side_used site k j))
  pub right : T (piece_admissible site k r)

module _ (site : Site) where
  -- ---- sides

  pub diagonal_used : (i j : ℕ) → 2 ≤ j - i → side_used site i j ≡ any (kept_uses site) (diagonal_faces site (i, j))
  diagonal_used i j h =
      ap (λ b. not b && any (kept_uses site) (diagonal_faces site (i, j)))
      (no_is (leb (j - i) 1) (not_T (leb (j - i) 1) (λ t. omega (arith, leb→le (j - i) 1 t))))

  -- two neighbours make no diagonal
  pub neighbours_free : (i j : ℕ) → j - i ≤ 1 → side_used site i j ≡ false
  neighbours_free i j h =
      ap (λ b. not b && any (kept_uses site) (diagonal_faces site (i, j))) (yes_is (leb (j - i) 1) (le→leb (j - i) 1 h))

  -- ---- what a kept row uses: a triangle, a face with a diagonal inside, a face with a closing side, the piece's own included

  abbrev triangle_used : ℕ → Tri → Bool
  triangle_used i t = any (kept_uses site) (map (triangle_face site) (triangles i t))

  abbrev inside_used : ℕ → Tri → Bool
  inside_used i t = any (kept_uses site) (flat_map (diagonal_faces site) (diagonals i t))

  abbrev closing_used : ℕ → Tri → Bool
  closing_used i t = any (kept_uses site) (flat_map (diagonal_faces site) (closing_sides i t))

  triangles_cut : (i : ℕ) (l r : Tri)
      → triangle_used i (cut l r)
      ≡ kept_uses site (triangle_face site (i, i + span l, i + span l + span r)) || (triangle_used i l || triangle_used (i + span l) r)
  unfolding triangles any
  triangles_cut i l r =
      ap (λ b. kept_uses site (triangle_face site (i, i + span l, i + span l + span r)) || b)
      (ap (any (kept_uses site)) (map-append (triangle_face site) (triangles i l) (triangles (i + span l) r))
      ∙ any_append (kept_uses site) (map (triangle_face site) (triangles i l)) (map (triangle_face site) (triangles (i + span l) r)))

  inside_cut : (i : ℕ) (l r : Tri) → inside_used i (cut l r) ≡ closing_used i l || closing_used (i + span l) r
  unfolding diagonals
  inside_cut i l r =
      let left = closing_sides i l in
      let right = closing_sides (i + span l) r in
      ap (any (kept_uses site)) (flat_map_append (diagonal_faces site) left right)
      ∙ any_append (kept_uses site) (flat_map (diagonal_faces site) left) (flat_map (diagonal_faces site) right)

  -- a piece's closing sides are its own, if it is a diagonal, and the diagonals inside
  closing_own : (i : ℕ) (t : Tri) → closing_used i t ≡ side_used site i (i + span t) || inside_used i t
  unfolding closing_sides diagonals flat_map any span
  closing_own i side =
      let near : i + 1 - i ≤ 1 = omega arith in
      sym (ap (λ b. b || false) (neighbours_free i (i + 1) near))
  closing_own i (cut l r) =
      let j = i + span l + span r in
      let same : j ≡ i + (span l + span r) = omega arith in
      let far : 2 ≤ j - i = omega (arith, span_over l, span_over r) in
      any_append (kept_uses site) (diagonal_faces site (i, j)) (flat_map (diagonal_faces site) (diagonals i (cut l r)))
      ∙ ap (λ b. b || inside_used i (cut l r)) (sym (diagonal_used i j far) ∙ ap (side_used site i) same)

  -- ---- admissible, taken apart and put together

  triangles_free : (i : ℕ) (t : Tri) → T (piece_admissible site i t) → T (not (triangle_used i t))
  unfolding piece_admissible
  triangles_free i t = and_l (not (triangle_used i t)) (not (inside_used i t))

  inside_free : (i : ℕ) (t : Tri) → T (piece_admissible site i t) → T (not (inside_used i t))
  unfolding piece_admissible
  inside_free i t = and_r (not (triangle_used i t)) (not (inside_used i t))

  all_free : (i : ℕ) (t : Tri) → T (not (triangle_used i t)) → T (not (inside_used i t)) → T (piece_admissible site i t)
  unfolding piece_admissible
  all_free i t = and_i (not (triangle_used i t)) (not (inside_used i t))

  apart : (i : ℕ) (l r : Tri) → T (piece_admissible site i (cut l r)) → Fits site i (i + span l) (i + span l + span r) l r
  apart i l r h =
      let k = i + span l in
      let j = k + span r in
      let used = kept_uses site (triangle_face site (i, k, j)) in
      let triangles = subst (λ b. T (not b)) (triangles_cut i l r) (triangles_free i (cut l r) h) in
      let below = neither_r used (triangle_used i l || triangle_used k r) triangles in
      let inside = subst (λ b. T (not b)) (inside_cut i l r) (inside_free i (cut l r) h) in
      let at_left = subst (λ b. T (not b)) (closing_own i l) (neither_l (closing_used i l) (closing_used k r) inside) in
      let at_right = subst (λ b. T (not b)) (closing_own k r) (neither_r (closing_used i l) (closing_used k r) inside) in
      let left = neither_l (triangle_used i l) (triangle_used k r) below in
      let right = neither_r (triangle_used i l) (triangle_used k r) below in
      record {
        triangle = neither_l used (triangle_used i l || triangle_used k r) triangles;
        left_side = neither_l (side_used site i k) (inside_used i l) at_left;
        left = all_free i l left (neither_r (side_used site i k) (inside_used i l) at_left);
        right_side = neither_l (side_used site k j) (inside_used k r) at_right;
        right = all_free k r right (neither_r (side_used site k j) (inside_used k r) at_right);
      }

  closing_free_lem : (i : ℕ) (t : Tri) → T (not (side_used site i (i + span t))) → T (piece_admissible site i t) → T (not (closing_used i t))
  closing_free_lem i t s a =
      subst (λ b. T (not b)) (sym (closing_own i t)) (neither_i (side_used site i (i + span t)) (inside_used i t) s (inside_free i t a))

  together : (i : ℕ) (l r : Tri) → Fits site i (i + span l) (i + span l + span r) l r → T (piece_admissible site i (cut l r))
  together i l r f =
      let k = i + span l in
      let used = kept_uses site (triangle_face site (i, k, k + span r)) in
      let below = neither_i (triangle_used i l) (triangle_used k r) (triangles_free i l f.left) (triangles_free k r f.right) in
      let triangles = neither_i used (triangle_used i l || triangle_used k r) f.triangle below in
      let left = closing_free_lem i l f.left_side f.left in
      let right = closing_free_lem k r f.right_side f.right in
      all_free i (cut l r)
      (subst (λ b. T (not b)) (sym (triangles_cut i l r)) triangles)
      (subst (λ b. T (not b)) (sym (inside_cut i l r)) (neither_i (closing_used i l) (closing_used k r) left right))

  -- ---- the laws

  pub cut_fits : {i k j : ℕ} {l r : Tri} → Cuts i k j l r → T (piece_admissible site i (cut l r)) → Fits site i k j l r
  cut_fits {i} {l = l} {r = r} at h = rw (at.at_k, at.at_j) at (apart i l r h)

  pub fits_cut : {i k j : ℕ} {l r : Tri} → Cuts i k j l r → Fits site i k j l r → T (piece_admissible site i (cut l r))
  fits_cut {i} {l = l} {r = r} at f = together i l r (rw (at.at_k, at.at_j) f)

  -- two neighbours have nothing to judge
  pub side_admissible : (i : ℕ) → T (piece_admissible site i side)
  unfolding piece_admissible triangles diagonals flat_map any
  side_admissible i = tt
