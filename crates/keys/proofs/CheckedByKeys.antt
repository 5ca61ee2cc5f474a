-- What a check by keys says of the rows of a table: the keys of all rows, stored in order, are the keys of the rows before row i,
-- then those of row i, then the rest.
use Prim.Native.Nat.{ℕ, suc, ◌+◌, ◌*◌, ◌-◌, ◌≤◌, ◌<◌}
use mathlib.Core.Bool.{Bool, false, not, ◌&&◌}
use mathlib.Core.List.{List, [], ◌∷◌, ◌++◌, map, flat_map}
use mathlib.Core.Logic.{◌⊎◌, inl, inr}
use mathlib.Core.Path.{◌≡◌, refl, sym, ap, ◌∙◌, subst}
use native.Mathlib.Omega.{arith}
use lib.Dec.{T}
use lib.ListN.{length, get_or, take, drop}
use lib.Seq.{take_at, drop_at, take-add}
use Rattle.lists.specs.Lists.{every, has, numbers_from}
use Rattle.lists.proofs.Tests.{either, no_is}
use Rattle.lists.proofs.Images.{flat_map_append, flat_map_snoc}
use Rattle.rows.specs.declared.Row.{Row}
use Rattle.rows.specs.Rows.{row_in, rows_in}
use Rattle.rows.proofs.RowsOfTables.{rows_length, rows_append, rows_more, row_bytes_lem, rows_bytes}
use Rattle.mesh.specs.Mesh.{faces, faces_apart}
use Rattle.mesh.proofs.FacesCounted.{apart_front, apart_more}
use Rattle.keys.specs.Steps.{row_faces, row_keys, table_keys}
use Rattle.keys.proofs.FaceKeys.{keys_apart}

pub keys_length : (rows : List Row) → length (table_keys rows) ≡ row_faces * length rows
unfolding flat_map faces
keys_length [] = refl
keys_length (row ∷ rows) = omega (arith, keys_length rows)

-- the keys of one row more
pub keys_more : (table : List ℕ) (i : ℕ) → table_keys (rows_in table (suc i)) ≡ table_keys (rows_in table i) ++ row_keys (row_in table i)
keys_more table i = ap table_keys (rows_more table i) ∙ flat_map_snoc row_keys (rows_in table i) (row_in table i)

module _ (table keys : List ℕ) (n : ℕ) (stored : keys ≡ table_keys (rows_in table n)) where
  keys_before : (i : ℕ) → i ≤ n → take (row_faces * i) keys ≡ table_keys (rows_in table i)
  keys_before i h =
      ap (take (row_faces * i)) (stored ∙ ap table_keys (ap (rows_in table) (omega arith) ∙ rows_append table i (n - i))
      ∙ flat_map_append row_keys (rows_in table i) (map (row_in table) (numbers_from i (n - i))))
      ∙ take_at (table_keys (rows_in table i)) (table_keys (map (row_in table) (numbers_from i (n - i)))) (row_faces * i)
      (omega (arith, keys_length (rows_in table i), rows_length table i))

  keys_at : (i : ℕ) → i < n → take row_faces (drop (row_faces * i) keys) ≡ row_keys (row_in table i)
  keys_at i h = sym (cut (take row_faces (drop (row_faces * i) keys))) ∙ ap (drop (row_faces * i)) both ∙ cut (row_keys (row_in table i))
    where
      cut : (xs : List ℕ) → drop (row_faces * i) (table_keys (rows_in table i) ++ xs) ≡ xs
      cut xs = drop_at (table_keys (rows_in table i)) xs (row_faces * i) (omega (arith, keys_length (rows_in table i), rows_length table i))

      both : table_keys (rows_in table i) ++ take row_faces (drop (row_faces * i) keys) ≡ table_keys (rows_in table i) ++ row_keys (row_in table i)
      both =
          let more : row_faces * i + row_faces ≡ row_faces * suc i = omega arith in
          ap (λ xs. xs ++ take row_faces (drop (row_faces * i) keys)) (sym (keys_before i (omega arith)))
          ∙ sym (take-add (row_faces * i) row_faces keys)
          ∙ ap (λ k. take k keys) more
          ∙ keys_before (suc i) h
          ∙ keys_more table i

  -- a row that is found apart from those before it adds itself to the rows that are apart
  pub row_checked : ((j : ℕ) → get_or table j 0 < 256) → (i : ℕ) → i < n → (answer : Bool)
      → answer ≡ every (λ k. not (has (take (row_faces * i) keys) k)) (take row_faces (drop (row_faces * i) keys))
      → faces_apart (rows_in table (suc i)) ≡ answer && faces_apart (rows_in table i)
  row_checked bytes i h answer e =
      ap faces_apart (rows_more table i)
      ∙ apart_more (rows_in table i) (row_in table i)
      ∙ ap (λ b. b && faces_apart (rows_in table i))
      (sym (keys_apart (row_in table i) (rows_in table i) (row_bytes_lem table bytes i) (rows_bytes table bytes i)) ∙ sym found)
    where
      found : answer ≡ every (λ k. not (has (table_keys (rows_in table i)) k)) (row_keys (row_in table i))
      found = rw (keys_before i (omega arith), keys_at i h) at e

-- rows that are not apart stay so with more rows
pub apart_longer : (table : List ℕ) (m n : ℕ) → m ≤ n → faces_apart (rows_in table m) ≡ false → faces_apart (rows_in table n) ≡ false
apart_longer table m n h e = go (either (faces_apart (rows_in table n)))
  where
    go : T (faces_apart (rows_in table n)) ⊎ T (not (faces_apart (rows_in table n))) → faces_apart (rows_in table n) ≡ false
    go (inl k) =
        let l = subst (λ rows. T (faces_apart rows)) (ap (rows_in table) (omega arith) ∙ rows_append table m (n - m)) k in
        absurd (rw e at (apart_front (rows_in table m) (map (row_in table) (numbers_from m (n - m))) l))
    go (inr k) = no_is (faces_apart (rows_in table n)) k
