-- Under the mesh rule a face stands in at most two rows; and with two, a and b are their apexes, so nothing stands in for them.
-- A proper row that holds three numbers, arranged to begin with two of them, has the third in one of two places:
-- it uses the face one way or the other.
use Prim.Native.Nat.{ℕ, ◌+◌, ◌≤◌, min, max}
use mathlib.Core.Bool.{Bool, true, false}
use mathlib.Core.List.{List, [], ◌∷◌, Memᴰ}
use mathlib.Core.Path.{◌≡◌, refl, sym, ◌∙◌, subst}
use native.Mathlib.Omega.{arith}
use lib.Dec.{T}
use Rattle.lists.specs.Lists.{those, count}
use Rattle.lists.proofs.Tests.{or_l, or_r}
use Rattle.lists.proofs.Lists.{every_at}
use Rattle.lists.proofs.Counts.{ind, count_cons}
use Rattle.rows.specs.declared.Row.{Row}
use Rattle.mesh.specs.Mesh.{Face, faces, uses, uses_either_way, keeps_mesh_rule}
use Rattle.rows.specs.Rows.{holds, holds_face}
use Rattle.rows.specs.Tetrahedra.{arranged_from}
use Rattle.mesh.proofs.TurnedFaces.{as_is, uses_i}
use Rattle.mesh.proofs.MeshRuleStated.{two_rows_lem}
use Rattle.mesh.proofs.EvenFaces.{even_uses}
use Rattle.rows.proofs.EvenMoves.{even_holds, holds_cases}
use Rattle.rows.proofs.EvenGroup.{arranged_from_lem}
use Rattle.layout.specs.Layout.{Patch}
use Rattle.walk.specs.Walk.{smallest}
use Rattle.ring.specs.Ring.{numbers_wrong}
use Rattle.calls.specs.Flipping.{apex_over, pair_of}
use Rattle.tables.proofs.ThreeNumbers.{ThreeApart, three_apart}
use Rattle.tables.proofs.FacingRows.{face_apart}

module _ (x y z : ℕ) (apart : ThreeApart x y z) (row : Row) where
  abbrev face : List ℕ
  face = x ∷ y ∷ z ∷ []

  -- the row that begins with x, y
  abbrev t : Row
  t = arranged_from x y row

  -- three numbers of a row are one of its faces, one way or the other
  face_used : T (holds_face face row) → T (uses_either_way (x, y, z) row)
  unfolding faces
  face_used h =
      let held : (n : ℕ) → Memᴰ n face → T (holds row n) = λ n m. every_at (holds row) face h m in
      let (e, p, q) = arranged_from_lem x y row (held x (Memᴰ.head refl)) (held y (Memᴰ.tail (Memᴰ.head refl))) apart.xy in
      let there = subst T (sym (even_holds t row e z)) (held z (Memᴰ.tail (Memᴰ.tail (Memᴰ.head refl)))) in
      let own : (f : Face) → T (uses f t) → T (uses f row) = λ f u. subst T (even_uses t row e f) u in
      holds_cases t z there (λ i. absurd (apart.xz (sym (i ∙ p)))) (λ i. absurd (apart.yz (sym (i ∙ q))))
      (λ i. or_r (uses (x, y, z) row) (uses (x, z, y) row) (own (x, z, y)
      (uses_i (x, z, y) (t.p, t.r, t.q) t (Memᴰ.tail (Memᴰ.tail (Memᴰ.tail (Memᴰ.head refl))))
      (as_is (sym p) i (sym q)))))
      (λ i. or_l (uses (x, y, z) row) (uses (x, z, y) row) (own (x, y, z)
      (uses_i (x, y, z) (t.p, t.q, t.s) t (Memᴰ.tail (Memᴰ.tail (Memᴰ.head refl))) (as_is (sym p) (sym q) i))))

-- more pass a weaker test
pub count_weaker : {A : Type 0} (p q : A → Bool) → ((x : A) → T (p x) → T (q x)) → (xs : List A) → count p xs ≤ count q xs
unfolding those
count_weaker p q f [] = omega arith
count_weaker p q f (x ∷ xs) = rw (count_cons p x xs, count_cons q x xs) (go (p x) (q x) (f x) (count_weaker p q f xs))
  where
    go : (a b : Bool) → (T a → T b) → count p xs ≤ count q xs → ind a + count p xs ≤ ind b + count q xs
    go true true g h = omega arith
    go true false g h = absurd (g tt)
    go false b g h = omega arith

-- at most two rows hold the numbers of a face
pub at_most_two : (points x y z : ℕ) (rows : List Row) → T (keeps_mesh_rule points rows) → numbers_wrong points (x ∷ y ∷ z ∷ []) ≡ false
    → count (holds_face (x ∷ y ∷ z ∷ [])) rows ≤ 2
at_most_two points x y z rows rule right =
    let face : List ℕ = x ∷ y ∷ z ∷ [] in
    let apart = three_apart x y z (face_apart points face right) in
    omega (
      arith,
      count_weaker (holds_face face) (uses_either_way (x, y, z)) (face_used x y z apart) rows,
      two_rows_lem points rows rule (x, y, z),
    )

-- with two rows, a is the smaller of their apexes and b the other
pub apexes_of_two : (patch : Patch) (face : List ℕ) (r s : Row) → (pair_of patch face).removed ≡ r ∷ s ∷ []
    → ((pair_of patch face).a ≡ min (apex_over face r) (apex_over face s)) × ((pair_of patch face).b ≡ max (apex_over face r) (apex_over face s))
unfolding pair_of smallest
apexes_of_two patch face r s e = rw e (omega arith)
