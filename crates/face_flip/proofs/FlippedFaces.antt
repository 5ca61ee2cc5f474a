-- The answers of a 2-3 flip, one by one, and the block that is written with answer 0: the rows kept, then the three with their marks.
use Prim.Native.Nat.{ℕ, ◌+◌, ◌-◌, ◌≤◌, ◌<◌}
use mathlib.Core.Bool.{Bool, true, false, not}
use mathlib.Core.List.Memᴰ
use mathlib.Core.List.{List, [], ◌∷◌, ◌++◌, map, append-nil, Memᴰ}
use mathlib.Core.Path.{◌≡◌, refl, sym, ap, ◌∙◌, subst}
use native.Mathlib.Omega.{arith}
use borrow.Author.Tests.{eq-eqb, ne_eqb, lt-ltb, le-ltb}
use lib.Dec.{T, eqb, ltb}
use lib.ListN.{length, take, drop, set, replicate, length-append, length-map, length-replicate, drop_of_length-le}
use Rattle.std.specs.Prelude.{Some, None}
use Rattle.lists.specs.Lists.{every, any, those, numbers_from}
use Rattle.lists.proofs.Tests.{and_l, and_r}
use Rattle.lists.proofs.Lists.{those_split, those_e}
use Rattle.lists.proofs.Places.{in_cases}
use Rattle.rows.specs.declared.Row.{Row}
use Rattle.rows.specs.Rows.{version, row_in, rows_in, with_rows, holds, holds_face}
use Rattle.rows.specs.Regions.{region_of, mixed}
use Rattle.rows.specs.Steps.{regions_of}
use Rattle.rows.specs.declared.Regions.TheVariants.{One, Several}
use Rattle.rows.proofs.RegionsRowByRow.{told_several, told_one}
use Rattle.rows.proofs.EvenGroup.{arranged_from_lem}
use Rattle.rows.proofs.RowsOfTables.{rows_length, rows_room}
use Rattle.rows.proofs.PastedRows.{with_length, with_more}
use Rattle.mesh.specs.Mesh.{keeps_mesh_rule}
use Rattle.marking.specs.Marking.{marks_over, mark_goes, dress_by, new_mark, dressed}
use Rattle.dressing.proofs.MarksThatGo.{goes_among}
use Rattle.dressing.proofs.NewRowsDressed.{Plain, room_plain, room_dressed, written_read, dressed_in_place}
use Rattle.std.specs.Prelude.{Ok, Err}
use Rattle.layout.specs.Layout.{Patch, block_bytes, body_bytes, max_rows, point_count, row_count, fields_of, sealed, bytes_of}
use Rattle.layout.specs.Within.{is_byte}
use Rattle.answers.specs.Answers.{first_refusal}
use Rattle.block.specs.Opening.{open_answer}
use Rattle.layout.proofs.CellsReadBack.{roomy}
use Rattle.layout.proofs.PatchWritten.{points_counted, bytes_length}
use Rattle.tally.proofs.OpensMeasured.{few_points, few_rows, rule_kept}
use Rattle.output.specs.Output.{stays, staying, patch_with}
use Rattle.output.specs.Steps.{begun}
use Rattle.output.proofs.RowsThatStay.{face_staying}
use Rattle.output.proofs.BlockAfterwards.{begun_version, begun_length, block_finished}
use Rattle.links.specs.Links.{link}
use Rattle.walk.specs.Walk.{smallest}
use Rattle.links.specs.Steps.{LinkedRow}
use Rattle.face.specs.declared.Sharing.{Sharing}
use Rattle.calls.specs.Flipping.{Pair, pair_of, three_rows, patch_after23, flip23_tests, patch_flipped, flip_answer}
use Rattle.face.specs.Steps.{sharing, sharing_in, three_of}
use Rattle.face_flip.specs.Steps.{RightFace}
use Rattle.calls.proofs.CallTests.{flip23_left}
use Rattle.calls.proofs.FlipTold.{Told, flip_refused, flip_done}
use Rattle.face.proofs.FaceShared.{none_shares, some_share, row_linked}

-- the scratch block, as it comes
abbrev blank : List ℕ
blank = replicate block_bytes 0

blank_size : length blank ≡ block_bytes
blank_size = length-replicate {A = ℕ} block_bytes 0

-- begun, it is as long
pub begun_long : (block : List ℕ) → open_answer block ≡ 0 → (one : List ℕ) → one ≡ begun block blank → length one ≡ block_bytes
begun_long block opens one is = begun_length block opens blank one blank_size is

-- the three rows, as they are written
three_rows_lem : (count : ℕ) (rows : List Row) (x y z : ℕ) → T (keeps_mesh_rule count rows)
    → let face : List ℕ = x ∷ y ∷ z ∷ [] in
    let pair = pair_of (record { points = []; rows = rows }) face in
    (length pair.removed ≡ 0 → ⊥)
    → three_rows pair face ≡ three_of (sharing pair) (region_of pair.removed) (smallest face) (link pair.a (smallest face) pair.row_of_a).0
    (link pair.a (smallest face) pair.row_of_a).1
unfolding three_rows link
three_rows_lem count rows x y z rule some_row =
    let face : List ℕ = x ∷ y ∷ z ∷ [] in
    let pair = pair_of (record { points = []; rows = rows }) face in
    let row = pair.row_of_a in
    let it = row_linked count rows x y z rule some_row in
    let u = (arranged_from_lem pair.a (smallest face) row (and_l (holds row pair.a) (holds row (smallest face)) it.held)
    (and_r (holds row pair.a) (holds row (smallest face)) it.held) it.apart).2 in
    rw u

-- no more rows are kept than there are
pub few_kept : (block : List ℕ) (x y z : ℕ) → open_answer block ≡ 0
    → length (staying x y z (rows_in block (row_count block))) ≤ max_rows
few_kept block x y z opens =
    let rows = rows_in block (row_count block) in
    omega (arith, those_split (stays x y z) rows, rows_length block (row_count block), few_rows block opens)

module _ (block out : List ℕ) (x y z : ℕ) (given : RightFace block out x y z) where
  abbrev face : List ℕ
  face = x ∷ y ∷ z ∷ []

  abbrev patch : Patch
  patch = fields_of block

  abbrev pair : Pair
  pair = pair_of patch face

  abbrev rows : List Row
  rows = rows_in block (row_count block)

  answer : flip_answer block out face ≡ first_refusal (flip23_tests patch face)
  answer = flip23_left block out x y z given.opens given.output

  -- 10: no row holds the face
  pub is_10 : None ≡ sharing_in rows face → Told block out face (Err (record { number = 10 })) out
  unfolding flip23_tests first_refusal pair_of fields_of
  is_10 a = flip_refused block out face 9 (answer ∙ rw (given.numbers, eq-eqb (length pair.removed) 0 (none_shares rows face a)))

  module _ (found : Sharing) (found-is : Some found ≡ sharing_in rows face) where
    some_row : length pair.removed ≡ 0 → ⊥
    unfolding pair_of fields_of
    some_row = (some_share rows face found found-is).0

    pair_is : found ≡ sharing pair
    unfolding pair_of fields_of
    pair_is = (some_share rows face found found-is).1

    n_is : found.n ≡ length pair.removed
    n_is = ap (λ s. s.n) pair_is

    none_10 : eqb (length pair.removed) 0 ≡ false
    none_10 = ne_eqb (length pair.removed) 0 some_row

    -- 11: only one row
    pub is_11 : found.n ≡ 1 → Told block out face (Err (record { number = 11 })) out
    unfolding flip23_tests first_refusal
    is_11 a = flip_refused block out face 10 (answer ∙ rw (given.numbers, none_10, eq-eqb (length pair.removed) 1 (sym n_is ∙ a)))

    module _ (a11 : found.n ≡ 1 → ⊥) where
      none_11 : eqb (length pair.removed) 1 ≡ false
      none_11 = ne_eqb (length pair.removed) 1 (λ e. a11 (n_is ∙ e))

      -- 18: both apexes are one point
      pub is_18 : found.a ≡ found.b → Told block out face (Err (record { number = 18 })) out
      unfolding flip23_tests first_refusal
      is_18 a = flip_refused block out face 17 (answer
          ∙ rw (given.numbers, none_10, none_11, eq-eqb pair.a pair.b (sym (ap (λ s. s.a) pair_is) ∙ (a ∙ ap (λ s. s.b) pair_is))))

      module _ (a18 : found.a ≡ found.b → ⊥) where
        none_18 : eqb pair.a pair.b ≡ false
        none_18 = ne_eqb pair.a pair.b (λ e. a18 (ap (λ s. s.a) pair_is ∙ (e ∙ sym (ap (λ s. s.b) pair_is))))

        own_regions : found.regions ≡ regions_of pair.removed
        own_regions = ap (λ s. s.regions) pair_is

        -- 20: the two rows have different regions
        pub is_20 : found.regions ≡ Several → Told block out face (Err (record { number = 20 })) out
        unfolding flip23_tests first_refusal
        is_20 several = flip_refused block out face 19 (answer
            ∙ rw (given.numbers, none_10, none_11, none_18, told_several pair.removed (sym own_regions ∙ several)))

        module _ (region : ℕ) (is_one : found.regions ≡ One region) where
          none_20 : mixed pair.removed ≡ false
          none_20 = (told_one pair.removed (sym own_regions ∙ is_one)).0

          own_region : region ≡ region_of pair.removed
          own_region = (told_one pair.removed (sym own_regions ∙ is_one)).1

          module _ (told : Bool) (told_is : told ≡ any (marks_over face) rows) where
            lost_is : mark_goes face pair.removed ≡ told
            unfolding pair_of fields_of
            lost_is = sym (told_is ∙ goes_among face rows)

            -- 23: the face is marked
            pub is_23 : told ≡ true → Told block out face (Err (record { number = 23 })) out
            unfolding flip23_tests first_refusal
            is_23 a = flip_refused block out face 22 (answer ∙ rw (given.numbers, none_10, none_11, none_18, none_20, lost_is ∙ a))

            module _ (a23 : told ≡ false) (one : List ℕ) (one-is : one ≡ begun block blank) (k : ℕ) (kept : List ℕ)
                (k-is : k ≡ length (staying x y z rows)) (kept-is : kept ≡ with_rows one 0 (staying x y z rows)) where
              none_23 : mark_goes face pair.removed ≡ false
              none_23 = lost_is ∙ a23

              abbrev u : ℕ
              u = smallest face

              abbrev three_from : ℕ → List Row
              three_from v = three_of found region v (link found.a v found.row).0 (link found.a v found.row).1

              abbrev three : List Row
              three = three_from u

              abbrev made : List Row
              made = dressed pair.removed pair.kept three

              abbrev after : List Row
              after = staying x y z rows ++ made

              -- a's row may be rearranged
              pub found_linked : (v : ℕ) → v ≡ u → LinkedRow found.a v found.row
              unfolding pair_of fields_of
              found_linked v e =
                  rw e (subst (λ (s : Sharing). LinkedRow s.a u s.row) (sym pair_is)
                  (row_linked (point_count block) rows x y z (rule_kept block given.opens) some_row))

              removed_are : those (holds_face face) rows ≡ pair.removed
              unfolding pair_of fields_of
              removed_are = refl

              kept_are : staying x y z rows ≡ pair.kept
              unfolding pair_of fields_of
              kept_are = face_staying x y z rows

              -- the rows kept, then the three
              rows_after_lem : (patch_after23 patch face).rows ≡ after
              unfolding patch_after23 pair_of fields_of
              rows_after_lem =
                  let new = three_rows_lem (point_count block) rows x y z (rule_kept block given.opens) some_row in
                  rw (face_staying x y z rows, pair_is, own_region, new)

              patch_whole : patch_with patch.points (patch_after23 patch face).rows ≡ patch_after23 patch face
              unfolding patch_after23
              patch_whole = refl

              size_after : k + 3 ≡ length after
              size_after = omega (arith, k-is, length-append (staying x y z rows) made, length-map three (dress_by (new_mark pair.removed pair.kept)))

              -- 14: rows afterwards would be over 60
              pub is_14 : max_rows < k + 3 → Told block out face (Err (record { number = 14 })) out
              unfolding flip23_tests first_refusal
              is_14 a =
                  let over = lt-ltb max_rows (length after) (omega (arith, size_after)) in
                  flip_refused block out face 13 (answer ∙ rw (given.numbers, none_10, none_11, none_18, none_20, none_23, rows_after_lem, over))

              one_version : version one ≡ version block
              one_version = begun_version block given.opens blank one blank_size one-is

              one_size : length one ≡ block_bytes
              one_size = begun_length block given.opens blank one blank_size one-is

              -- there is room for what is kept, for the three and for these with their marks
              in_table : (row : Row) → Memᴰ row pair.removed → T (roomy (version block) row)
              unfolding pair_of fields_of
              in_table row m = rows_room block (row_count block) row (those_e (holds_face face) rows m).0

              kept_roomy : (row : Row) → Memᴰ row pair.kept → T (roomy (version block) row)
              unfolding pair_of fields_of
              kept_roomy row m = rows_room block (row_count block) row (those_e (λ row. not (holds_face face row)) rows m).0

              three_plain : (row : Row) → Memᴰ row three → Plain pair.removed row
              three_plain row m =
                  in_cases m (λ e. rw e (record { own_region = own_region; unmarked = refl })) λ m.
                  in_cases m (λ e. rw e (record { own_region = own_region; unmarked = refl })) λ m.
                  in_cases m (λ e. rw e (record { own_region = own_region; unmarked = refl })) λ m. absurd (Memᴰ.not-nil m)

              plain_room : T (every (roomy (version one)) (staying x y z rows ++ three))
              plain_room = rw (one_version, kept_are) (room_plain (version block) pair.removed pair.kept three in_table kept_roomy three_plain)

              made_room : T (every (roomy (version one)) after)
              made_room = rw (one_version, kept_are) (room_dressed (version block) pair.removed pair.kept three in_table kept_roomy three_plain)

              pub keep_size : length kept ≡ block_bytes
              keep_size = ap length kept-is ∙ with_length one 0 (staying x y z rows) (omega (arith, one_size, few_kept block x y z given.opens)) ∙ one_size

              module _ (a14 : k + 3 ≤ max_rows) (v : ℕ) (v_is : v ≡ u) (two : List ℕ) (two_is : two ≡ with_rows kept k (three_from v)) where
                two_after : two ≡ with_rows one 0 (staying x y z rows ++ three)
                two_after =
                    two_is
                    ∙ ap (λ v. with_rows kept k (three_from v)) v_is
                    ∙ ap (λ l. with_rows l k three) kept-is
                    ∙ with_more one 0 k (staying x y z rows) three (omega (arith, k-is)) (omega (arith, one_size))

                pub two_size : length two ≡ block_bytes
                two_size =
                    ap length two_after
                    ∙ with_length one 0 (staying x y z rows ++ three) (omega (arith, one_size, k-is, length-append (staying x y z rows) three))
                    ∙ one_size

                module _ (table : List ℕ) (table_is : table ≡ with_rows two k (dressed (those (holds_face face) rows)
                    (those (λ row. not (holds_face face row)) rows) (map (row_in two) (numbers_from k (k + 3 - k))))) where
                  table_after_lem : table ≡ with_rows one 0 after
                  table_after_lem =
                      dressed_in_place one (staying x y z rows) three k (k + 3) k-is refl (omega (arith, one_size)) plain_room two two_after
                      pair.removed pair.kept table (rw (removed_are, sym (face_staying x y z rows) ∙ kept_are) at table_is)

                  pub table_size : length table ≡ block_bytes
                  table_size = ap length table_after_lem ∙ with_length one 0 after (omega (arith, one_size, size_after)) ∙ one_size

                  read_after : rows_in table (k + 3) ≡ after
                  read_after =
                      ap (λ l. rows_in l (k + 3)) table_after_lem
                      ∙ (ap (λ n. rows_in (with_rows one 0 after) n) size_after ∙ written_read one after made_room (omega (arith, one_size, size_after)))

                  -- and finished
                  own_bytes : T (every is_byte block) → (done : List ℕ) → done ≡ sealed (take body_bytes (set table 2 (k + 3)))
                      → done ≡ bytes_of (version block) (patch_with patch.points after)
                  own_bytes are done d =
                      block_finished block are given.opens blank one blank_size one-is after (omega (arith, size_after)) table table_after_lem (k + 3) size_after
                      done d

                  pub done_size : T (every is_byte block) → (done : List ℕ) → done ≡ sealed (take body_bytes (set table 2 (k + 3)))
                      → length done ≡ block_bytes
                  done_size are done d =
                      ap length (own_bytes are done d)
                      ∙ bytes_length (version block) (patch_with patch.points after) (omega (arith, points_counted block, few_points block given.opens))
                      (omega (arith, size_after))

                  module _ (test : Bool) (test-is : test ≡ keeps_mesh_rule (point_count block) (rows_in table (k + 3))) where
                    test_after : keeps_mesh_rule (length patch.points) after ≡ test
                    test_after = rw points_counted (ap (keeps_mesh_rule (point_count block)) (sym read_after) ∙ sym test-is)

                    few : ltb max_rows (length after) ≡ false
                    few = le-ltb max_rows (length after) (omega (arith, size_after))

                    -- 15: the table afterwards would break the mesh rule
                    pub is_15 : test ≡ false → Told block out face (Err (record { number = 15 })) out
                    unfolding flip23_tests first_refusal
                    is_15 a = flip_refused block out face 14 (answer
                        ∙ rw (given.numbers, none_10, none_11, none_18, none_20, none_23, rows_after_lem, few, test_after ∙ a))

                    -- done
                    pub is_0 : test ≡ true → T (every is_byte block) → (done : List ℕ) → done ≡ sealed (take body_bytes (set table 2 (k + 3)))
                        → (written : List ℕ) → written ≡ done ++ drop (length done) out
                        → Told block out face (Ok tt) written
                    unfolding flip23_tests patch_flipped first_refusal
                    is_0 a are done d written w =
                        let zero_is : flip_answer block out face ≡ 0 = answer
                        ∙ rw (given.numbers, none_10, none_11, none_18, none_20, none_23, rows_after_lem, few, test_after ∙ a) in
                        let own = own_bytes are done d in
                        let size = done_size are done d in
                        let whole : written ≡ done = w ∙ ap (λ rest. done ++ rest) (drop_of_length-le out {i = length done} (omega (arith, given.output))) ∙ append-nil done in
                        flip_done block out face written zero_is (whole ∙ own
                        ∙ (ap (λ l. bytes_of (version block) (patch_with patch.points l)) (sym rows_after_lem) ∙ ap (bytes_of (version block)) patch_whole))
