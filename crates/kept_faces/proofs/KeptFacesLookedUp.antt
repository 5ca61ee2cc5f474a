-- Looking up the keys of the gathered faces is looking at every kept row, for a face whose numbers are all met:
-- a face of a kept row that is the same face has the same numbers, so it was gathered.
use Prim.Native.Nat.{ℕ, ◌+◌, ◌%◌, ◌<◌}
use mathlib.Core.Bool.{Bool, true, false, cond, not, ◌&&◌}
use mathlib.Core.List.Memᴰ
use mathlib.Core.List.{List, [], ◌∷◌, ◌++◌, map, flat_map, append-nil, append_assoc, Memᴰ, map-append}
use mathlib.Core.Path.{◌≡◌, refl, sym, ap, ◌∙◌, subst}
use lib.Dec.{T}
use native.Mathlib.Decide.{ℕ_discrete, dec_lt}
use native.Mathlib.Numerals.{add-one}
use native.Mathlib.Omega.{arith}
use lib.ListN.{length, get_or, set}
use lib.Seq.{get_or-set_same, get_or-set_other}
use Rattle.lists.specs.Lists.{any, those, has}
use Rattle.lists.proofs.Tests.{same_test, and_l, and_r, and_i}
use Rattle.lists.proofs.Lists.{any_i, any_e, those_e, those_i, those_append}
use Rattle.lists.proofs.Numbers.{has_i, has_e}
use Rattle.lists.proofs.Images.{flat_map_i, flat_map_e, flat_map_append}
use Rattle.rows.specs.declared.Row.{Row}
use Rattle.rows.specs.Rows.{row_in, rows_in, holds_edge}
use Rattle.mesh.specs.Mesh.{Face, faces, uses}
use Rattle.keys.specs.Steps.{face_key}
use Rattle.mesh.proofs.TurnedFaces.{Turned, as_is, once, twice, same_turned, turned_same, uses_e, uses_i}
use Rattle.keys.proofs.FaceKeys.{Small, key_same, same_key, faces_small}
use Rattle.rows.proofs.RowsOfTables.{Bytes, rows_more}
use Rattle.kept_faces.specs.Steps.{places, met_at, all_met, keyed, kept_of, kept_keys}

-- gathering goes by parts
pub keyed_append : (met : List Bool) (fs gs : List Face) → keyed met (fs ++ gs) ≡ keyed met fs ++ keyed met gs
unfolding keyed
keyed_append met fs gs =
    ap (map face_key) (those_append (all_met met) fs gs) ∙ map-append face_key (those (all_met met) fs) (those (all_met met) gs)

-- a face whose numbers are all met is gathered, and another is not
keyed_one : (met : List Bool) (f : Face) → keyed met (f ∷ []) ≡ cond (all_met met f) (face_key f ∷ []) []
unfolding keyed those
keyed_one met f = go (all_met met f)
  where
    go : (b : Bool) → map face_key (cond b (f ∷ []) []) ≡ cond b (face_key f ∷ []) []
    go true = refl
    go false = refl

-- four faces, one after the other
pub four : (before : List ℕ) (met : List Bool) (f g h k : Face)
    → before ++ cond (all_met met f) (face_key f ∷ []) [] ++ cond (all_met met g) (face_key g ∷ []) []
    ++ cond (all_met met h) (face_key h ∷ []) [] ++ cond (all_met met k) (face_key k ∷ []) []
    ≡ before ++ keyed met (f ∷ g ∷ h ∷ k ∷ [])
four before met f g h k =
    rw (← keyed_one met f, ← keyed_one met g, ← keyed_one met h, ← keyed_one met k)
    (simp append_assoc
    (sym (ap (λ ks. before ++ ks)
    (keyed_append met (f ∷ []) (g ∷ h ∷ k ∷ [])
    ∙ ap (λ ks. keyed met (f ∷ []) ++ ks)
    (keyed_append met (g ∷ []) (h ∷ k ∷ []) ∙ ap (λ ks. keyed met (g ∷ []) ++ ks) (keyed_append met (h ∷ []) (k ∷ [])))))))

-- the keys of one row, which may hold both ends

module _ (met : List Bool) (a b : ℕ) (row : Row) where
  pub row_gone : holds_edge a b row ≡ true → kept_keys met (kept_of a b (row ∷ [])) ≡ []
  unfolding those keyed flat_map
  row_gone e = rw e

  pub row_kept : holds_edge a b row ≡ false → kept_keys met (kept_of a b (row ∷ [])) ≡ keyed met (faces row)
  unfolding those flat_map
  row_kept e = rw e (ap (keyed met) (append-nil (faces row)))

-- one row more
pub kept_more : (table : List ℕ) (met : List Bool) (a b i : ℕ)
    → kept_keys met (kept_of a b (rows_in table (i + 1))) ≡ kept_keys met (kept_of a b (rows_in table i))
    ++ kept_keys met (kept_of a b (row_in table i ∷ []))
kept_more table met a b i =
    let rows = rows_in table i in
    let kept = kept_of a b rows in
    let one = kept_of a b (row_in table i ∷ []) in
    rw (add-one, rows_more table i)
    (ap (kept_keys met) (those_append (λ row. not (holds_edge a b row)) rows (row_in table i ∷ []))
    ∙ ap (keyed met) (flat_map_append faces kept one)
    ∙ keyed_append met (flat_map faces kept) (flat_map faces one))

-- a point is met once its place is set
pub just_met : (met : List Bool) (n at : ℕ) → at ≡ n % places → at < length met → met_at (set met at true) n ≡ true
just_met met n at is h = rw (← is) (get_or-set_same met at true false h)

-- a point more leaves those that are met
pub still_met : (met : List Bool) (x n : ℕ) → x < length met → met_at met n ≡ true → met_at (set met x true) n ≡ true
still_met met x n h e = go (ℕ_discrete (n % places) x)
  where
    go : Dec (n % places ≡ x) → met_at (set met x true) n ≡ true
    go (yes s) = just_met met n x (sym s) h
    go (no s) = get_or-set_other met x (n % places) true false s ∙ e

-- one point more is met
pub one_more : (met : List Bool) (ns : List ℕ) (i at : ℕ) → at ≡ get_or ns i 0 % places → at < length met
    → ((l : ℕ) → l < i → met_at met (get_or ns l 0) ≡ true)
    → (l : ℕ) → l < i + 1 → met_at (set met at true) (get_or ns l 0) ≡ true
one_more met ns i at is h all l k = go (dec_lt l i)
  where
    go : Dec (l < i) → met_at (set met at true) (get_or ns l 0) ≡ true
    go (yes c) = still_met met at (get_or ns l 0) h (all l c)
    go (no c) =
        let e : l ≡ i = omega arith in
        rw e (just_met met (get_or ns i 0) at is h)

-- the same face has the same numbers
met_turned : (met : List Bool) (f g : Face) → Turned f g → T (all_met met f) → T (all_met met g)
met_turned met f g turned h = go turned
  where
    one : T (met_at met f.0)
    one = and_l (met_at met f.0) (met_at met f.1) (and_l (met_at met f.0 && met_at met f.1) (met_at met f.2) h)

    two : T (met_at met f.1)
    two = and_r (met_at met f.0) (met_at met f.1) (and_l (met_at met f.0 && met_at met f.1) (met_at met f.2) h)

    three : T (met_at met f.2)
    three = and_r (met_at met f.0 && met_at met f.1) (met_at met f.2) h

    all : T (met_at met g.0) → T (met_at met g.1) → T (met_at met g.2) → T (all_met met g)
    all a b c = and_i (met_at met g.0 && met_at met g.1) (met_at met g.2) (and_i (met_at met g.0) (met_at met g.1) a b) c

    go : Turned f g → T (all_met met g)
    go (as_is a b c) = all (rw a at one) (rw b at two) (rw c at three)
    go (once a b c) = all (rw c at three) (rw a at one) (rw b at two)
    go (twice a b c) = all (rw b at two) (rw c at three) (rw a at one)

module _ (met : List Bool) (rows : List Row) (bytes : (row : Row) → Memᴰ row rows → Bytes row) where
  pub key_kept : (f : Face) → Small f → T (all_met met f) → has (kept_keys met rows) (face_key f) ≡ any (uses f) rows
  unfolding keyed
  key_kept f small h = same_test (has (kept_keys met rows) (face_key f)) (any (uses f) rows) there back
    where
      there : T (has (kept_keys met rows) (face_key f)) → T (any (uses f) rows)
      there t =
          let in-keys = Memᴰ.of_map face_key (those (all_met met) (flat_map faces rows)) (has_e (kept_keys met rows) (face_key f) t) in
          let g = in-keys.0 in
          let at = flat_map_e faces rows (those_e (all_met met) (flat_map faces rows) in-keys.1).0 in
          let row = at.0 in
          let small-g = faces_small row (bytes row at.1) g at.2 in
          any_i (uses f) rows at.1 (uses_i f g row at.2 (same_turned f g (key_same f g small small-g (sym in-keys.2))))

      back : T (any (uses f) rows) → T (has (kept_keys met rows) (face_key f))
      back t =
          let at = any_e (uses f) rows t in
          let used = uses_e f at.0 at.2 in
          let g = used.0 in
          let all_met_lem = met_turned met f g used.2 h in
          let in-those = those_i (all_met met) (flat_map faces rows) (flat_map_i faces rows at.1 used.1) all_met_lem in
          has_i (kept_keys met rows)
          (subst (λ k. Memᴰ k (kept_keys met rows)) (sym (same_key f g (turned_same f g used.2))) (Memᴰ.map face_key in-those))
