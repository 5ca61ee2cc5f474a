-- The total D of a triangulation's new rows. For a piece it is the sum over the piece's links less the D of its closing
-- side, by the five-point identity at each triangle; so it is the same for every triangulation of the piece.
use Prim.Native.Nat.{ℕ, ◌+◌}
use mathlib.Core.List.{List, [], ◌∷◌, ◌++◌, flat_map}
use mathlib.Core.Path.{◌≡◌, refl, sym, ap, ◌∙◌}
use native.Mathlib.Nat.{add_assoc}
use lib.IntN.{ℤ, pos, neg_ℤ, ◌+ℤ◌, +ℤ_idl, +ℤ_assoc, +ℤ_invr}
use Rattle.lists.proofs.Images.{flat_map_append}
use Rattle.algebra.proofs.Normal.{var, con, ◌:+◌, norm, same, ◌⊹◌, ring_from}
use Rattle.volume.specs.declared.Point.{Point}
use Rattle.volume.specs.Volume.{D}
use Rattle.volume.proofs.VolumeIdentities.{D_even, D_exchanged, pqsr, five_points}
use Rattle.rows.specs.declared.Row.{Row}
use Rattle.rows.specs.RowMeasure.{place, row_d, total_d}
use Rattle.rows.proofs.EvenMeasure.{total_append}
use Rattle.ring.specs.Ring.{Site}
use Rattle.rows.specs.Regions.{region_of}
use Rattle.triangulation.specs.Triangulation.{Tri, side, cut, span, triangles, v, two_rows, new_rows}
use Rattle.rows.specs.Labels.{no_marks}

-- two rows, then the totals of two tables
two_and : (points : List Point) (t u : Row) (rows others : List Row)
    → total_d points (t ∷ u ∷ (rows ++ others))
    ≡ (row_d points t +ℤ row_d points u) +ℤ (total_d points rows +ℤ total_d points others)
unfolding total_d
two_and points t u rows others =
    ap (λ z. row_d points t +ℤ (row_d points u +ℤ z)) (total_append points rows others)
    ∙ sym (+ℤ_assoc (row_d points t) (row_d points u) (total_d points rows +ℤ total_d points others))

-- D of the row (a,b,x,y), and of the same the other way round
pub turned_over : (a b x y : Point) → D a b x y +ℤ D a b y x ≡ pos 0
turned_over a b x y = ap (λ t. D a b x y +ℤ t) (pqsr D_even neg_ℤ D_exchanged a b x y) ∙ +ℤ_invr (D a b x y)

module _ (site : Site) where
  -- D of the row (a,b,x,y)
  abbrev pub link_d : ℕ → ℕ → ℤ
  link_d x y = let at = place site.points in D (at site.a) (at site.b) (at x) (at y)

  -- the sum over the links vi to v(i+1), and so on to the end of the piece
  unfoldable pub chain_d : ℕ → Tri → ℤ
  chain_d i side = link_d (v site i) (v site (i + 1))
  chain_d i (cut l r) = chain_d i l +ℤ chain_d (i + span l) r

  -- D of the two rows of a triangle
  abbrev pub two_d : ℕ → ℕ → ℕ → ℤ
  two_d i k j =
      let at : ℕ → Point = λ x. place site.points (v site x) in
      let a = place site.points site.a in
      let b = place site.points site.b in
      D a (at i) (at k) (at j) +ℤ D (at i) (at k) (at j) b

  -- the total of a cut: of its two rows, and of the two pieces
  total_cut : (i : ℕ) (l r : Tri)
      → total_d site.points (new_rows site i (cut l r))
      ≡ two_d i (i + span l) (i + span l + span r)
      +ℤ (total_d site.points (new_rows site i l) +ℤ total_d site.points (new_rows site (i + span l) r))
  unfolding new_rows triangles two_rows flat_map row_d
  total_cut i l r =
      let t : Row =
      record { p = site.a; q = v site i; r = v site (i + span l); s = v site (i + span l + span r); region = region_of site.removed; marks = no_marks } in
      let u : Row =
      record { p = v site i; q = v site (i + span l); r = v site (i + span l + span r); s = site.b; region = region_of site.removed; marks = no_marks } in
      ap (λ (rows : List Row). total_d site.points (t ∷ u ∷ rows))
      (flat_map_append (two_rows site) (triangles i l) (triangles (i + span l) r))
      ∙ two_and site.points t u (new_rows site i l) (new_rows site (i + span l) r)

  -- the sides of one triangle, and what the two pieces leave of theirs
  step : (new l r chainl chainr ik kj ij two : ℤ)
      → two +ℤ ij ≡ ik +ℤ kj
      → new ≡ two +ℤ (l +ℤ r)
      → l +ℤ ik ≡ chainl
      → r +ℤ kj ≡ chainr
      → new +ℤ ij ≡ chainl +ℤ chainr
  unfolding norm
  step new l r chainl chainr ik kj ij two e f g h =
      ring_from (new ∷ l ∷ r ∷ chainl ∷ chainr ∷ ik ∷ kj ∷ ij ∷ two ∷ [])
      (var 0 :+ var 7) (var 3 :+ var 4)
      (same (var 0) (var 8 :+ (var 1 :+ var 2)) f ⊹ same (var 8 :+ var 7) (var 5 :+ var 6) e
      ⊹ same (var 1 :+ var 5) (var 3) g ⊹ same (var 2 :+ var 6) (var 4) h)
      refl

  -- the five-point identity, the closing side on the left
  triangle : (i k j : ℕ) → two_d i k j +ℤ link_d (v site i) (v site j) ≡ link_d (v site i) (v site k) +ℤ link_d (v site k) (v site j)
  unfolding norm
  triangle i k j =
      let at : ℕ → Point = λ x. place site.points (v site x) in
      let a = place site.points site.a in
      let b = place site.points site.b in
      ring_from
      (D a b (at i) (at k) ∷ D a b (at k) (at j) ∷ D a b (at j) (at i) ∷ D a b (at i) (at j) ∷ D a (at i) (at k) (at j)
      ∷ D (at i) (at k) (at j) b ∷ [])
      (var 4 :+ var 5 :+ var 3) (var 0 :+ var 1)
      (same (var 4 :+ var 5) (var 0 :+ var 1 :+ var 2) (sym (five_points a b (at i) (at k) (at j)))
      ⊹ same (var 2 :+ var 3) (con (pos 0)) (turned_over a b (at j) (at i)))
      refl

  pub total_piece : (i : ℕ) (t : Tri)
      → total_d site.points (new_rows site i t) +ℤ link_d (v site i) (v site (i + span t)) ≡ chain_d i t
  unfolding chain_d span new_rows triangles flat_map total_d
  total_piece i side = +ℤ_idl (link_d (v site i) (v site (i + 1)))
  total_piece i (cut l r) =
      ap (λ (j : ℕ). total_d site.points (new_rows site i (cut l r)) +ℤ link_d (v site i) (v site j)) (sym (add_assoc i (span l) (span r)))
      ∙ step (total_d site.points (new_rows site i (cut l r))) (total_d site.points (new_rows site i l))
      (total_d site.points (new_rows site (i + span l) r))
      (chain_d i l) (chain_d (i + span l) r)
      (link_d (v site i) (v site (i + span l))) (link_d (v site (i + span l)) (v site (i + span l + span r)))
      (link_d (v site i) (v site (i + span l + span r)))
      (two_d i (i + span l) (i + span l + span r))
      (triangle i (i + span l) (i + span l + span r)) (total_cut i l r) (total_piece i l) (total_piece (i + span l) r)
