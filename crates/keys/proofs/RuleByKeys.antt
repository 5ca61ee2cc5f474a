-- A table keeps the mesh rule exactly when its rows are proper and no key of a face stands twice: the keys of a proper row differ.
use Prim.Native.Nat.{ℕ, ◌≤◌}
use mathlib.Core.Bool.{not, ◌&&◌}
use mathlib.Core.List.Memᴰ
use mathlib.Core.List.{List, [], ◌∷◌, flat_map, Memᴰ}
use mathlib.Core.Logic.{◌⊎◌, inl, inr}
use mathlib.Core.Path.{◌≡◌, refl, sym, ap, ◌∙◌}
use native.Mathlib.Omega.{arith}
use lib.Dec.{T, eqb, not_T, eqb→eq}
use Rattle.lists.specs.Lists.{every, count, different}
use Rattle.lists.proofs.Tests.{either, no_is, yes_is}
use Rattle.lists.proofs.Lists.{every_at, every_cons}
use Rattle.lists.proofs.Numbers.{different_cons, different_append}
use Rattle.rows.specs.declared.Row.{Row}
use Rattle.rows.proofs.RowsOfTables.{Bytes}
use Rattle.rows.proofs.EvenGroup.{in_order}
use Rattle.mesh.specs.Mesh.{Face, faces, same_face, numbers_fit, faces_apart, keeps_mesh_rule, Proper}
use Rattle.mesh.proofs.TurnedFaces.{same_turned, turned_same}
use Rattle.mesh.proofs.MeshRuleStated.{fit_proper}
use Rattle.mesh.proofs.OneWay.{face_at, of_four, places_turned}
use Rattle.keys.specs.Steps.{face_key, row_keys, table_keys}
use Rattle.keys.proofs.FaceKeys.{key_same, keys_apart, faces_small}

-- the keys of a row's faces are four different numbers
keys_differ : (count : ℕ) (row : Row) → Proper count row → Bytes row → T (different (row_keys row))
unfolding faces same_face every different
keys_differ count row pr small =
    let a : Face = (1, 2, 3) in
    let b : Face = (0, 3, 2) in
    let c : Face = (0, 1, 3) in
    let d : Face = (0, 2, 1) in
    let in_a = Memᴰ.head refl in
    let in_b = Memᴰ.tail (Memᴰ.head refl) in
    let in_c = Memᴰ.tail (Memᴰ.tail (Memᴰ.head refl)) in
    let in_d = Memᴰ.tail (Memᴰ.tail (Memᴰ.tail (Memᴰ.head refl))) in
    let ka = key a in
    let kb = key b in
    let kc = key c in
    let kd = key d in
    different_cons ka (kb ∷ kc ∷ kd ∷ [])
    (far a b (kc ∷ kd ∷ []) in_a in_b (λ h. h) (far a c (kd ∷ []) in_a in_c (λ h. h) (far a d [] in_a in_d (λ h. h) tt)))
    (different_cons kb (kc ∷ kd ∷ []) (far b c (kd ∷ []) in_b in_c (λ h. h) (far b d [] in_b in_d (λ h. h) tt))
    (different_cons kc (kd ∷ []) (far c d [] in_c in_d (λ h. h) tt) (different_cons kd [] tt tt)))
  where
    key : Face → ℕ
    key g = face_key (face_at row g)

    far : (g h : Face) (ks : List ℕ) → Memᴰ g (faces in_order) → Memᴰ h (faces in_order) → (T (same_face g h) → ⊥)
        → T (every (λ k. not (eqb (face_key (face_at row g)) k)) ks)
        → T (every (λ k. not (eqb (face_key (face_at row g)) k)) (face_key (face_at row h) ∷ ks))
    far g h ks m n ne rest =
        every_cons (λ k. not (eqb (face_key (face_at row g)) k)) (face_key (face_at row h)) ks
        (not_T (eqb (face_key (face_at row g)) (face_key (face_at row h)))
        (λ e. ne (turned_same g h (places_turned count row pr g h (of_four g m) (of_four h n)
        (same_turned (face_at row g) (face_at row h)
        (key_same (face_at row g) (face_at row h)
        (faces_small row small (face_at row g) (Memᴰ.map (face_at row) m)) (faces_small row small (face_at row h) (Memᴰ.map (face_at row) n))
        (eqb→eq (face_key (face_at row g)) (face_key (face_at row h)) e))))))) rest

bytes : (count : ℕ) → count ≤ 256 → (row : Row) → Proper count row → Bytes row
bytes count h row pr = record {
  byte_p = omega (arith, pr.below_p);
  byte_q = omega (arith, pr.below_q);
  byte_r = omega (arith, pr.below_r);
  byte_s = omega (arith, pr.below_s);
}

apart_keys : (count : ℕ) (rows : List Row) → count ≤ 256 → ((row : Row) → Memᴰ row rows → Proper count row)
    → faces_apart rows ≡ different (table_keys rows)
unfolding faces_apart flat_map different
apart_keys count [] h pr = refl
apart_keys count (row ∷ rows) h pr =
    let own = pr row (Memᴰ.head refl) in
    let rest : (row : Row) → Memᴰ row rows → Proper count row = λ row m. pr row (Memᴰ.tail m) in
    let small = bytes count h row own in
    sym (different_append (row_keys row) (table_keys rows)
    ∙ rw (
      yes_is (different (row_keys row)) (keys_differ count row own small),
      keys_apart row rows small (λ row m. bytes count h row (rest row m)),
      sym (apart_keys count rows h rest),
    ))

-- a table keeps the mesh rule exactly when every row is proper and no key of a face stands twice
pub keeps_keys : (count : ℕ) (rows : List Row) → count ≤ 256
    → keeps_mesh_rule count rows ≡ every (numbers_fit count) rows && different (table_keys rows)
unfolding keeps_mesh_rule
keeps_keys count rows h = go (either (every (numbers_fit count) rows))
  where
    go : T (every (numbers_fit count) rows) ⊎ T (not (every (numbers_fit count) rows))
        → every (numbers_fit count) rows && faces_apart rows ≡ every (numbers_fit count) rows && different (table_keys rows)
    go (inl k) =
        ap (λ b. every (numbers_fit count) rows && b)
        (apart_keys count rows h (λ row m. fit_proper count row (every_at (numbers_fit count) rows k m)))
    go (inr k) = rw (no_is (every (numbers_fit count) rows) k)
