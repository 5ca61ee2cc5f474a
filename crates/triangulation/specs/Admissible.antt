-- Requirement §7.3 and §7.4: when a triangulation is admissible, of the ring and of a piece; and the
-- end faces of a chain.
use Rattle.std.specs.Prelude.{ℕ, Bool, cond, not, ◌&&◌, length}
use mathlib.Core.List.{List, [], ◌∷◌, map, flat_map}
use Rattle.lists.specs.Lists.{any}
use Rattle.mesh.specs.Mesh.{Face, uses, uses_either_way, keeps_mesh_rule}
use Rattle.ring.specs.Ring.{Site, m}
use Rattle.triangulation.specs.Triangulation.{Tri, Triangle, triangles, diagonals, v, table_after}

-- a triangulation of the ring, or of the chain, is admissible if the whole table afterwards keeps the mesh rule
unfoldable pub admissible : Site → Tri → Bool
admissible site t = keeps_mesh_rule (length site.points) (table_after site t)

-- a kept row uses the face, either way round
abbrev pub kept_uses : Site → Face → Bool
kept_uses site f = any (uses_either_way f) site.kept

-- a new triangle
abbrev pub triangle_face : Site → Triangle → Face
triangle_face site t = (v site t.0, v site t.1, v site t.2)

-- the faces of a and b with a diagonal
abbrev pub diagonal_faces : Site → ℕ × ℕ → List Face
diagonal_faces site d =
    let vi = v site d.0 in
    let vj = v site d.1 in
    (site.a, vi, vj) ∷ (site.b, vi, vj) ∷ []

-- a triangulation of a piece from vi on is admissible if no kept row uses one of its triangles,
-- or a face of a or b with a diagonal inside the piece
unfoldable pub piece_admissible : Site → ℕ → Tri → Bool
piece_admissible site i t =
    not (any (kept_uses site) (map (triangle_face site) (triangles i t)))
    && not (any (kept_uses site) (flat_map (diagonal_faces site) (diagonals i t)))

-- the outer faces with which new rows close a chain; the side v1 vm of a closed ring is never judged
unfoldable pub end_faces : Site → List Face
end_faces site =
    let v1 = v site 1 in
    let vm = v site (m site) in
    cond site.closed [] ((site.a, v1, vm) ∷ (site.b, vm, v1) ∷ [])

-- a kept row uses one of them, in the direction in which a new row would: then no triangulation of the chain is admissible
unfoldable pub barred : Site → Bool
barred site = any (λ f. any (uses f) site.kept) (end_faces site)
