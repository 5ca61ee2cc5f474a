-- The refusals of a flip with three numbers are given exactly when their words are true of the block. At most two rows hold a face, and the apexes that the
-- flip finds are those of the words.
use Prim.Native.Nat.{ℕ, ◌+◌, ◌≤◌, ◌<◌}
use mathlib.Core.Bool.{Bool, false, not, ◌&&◌}
use mathlib.Core.List.{List, [], ◌∷◌, ◌++◌, Memᴰ}
use mathlib.Core.Logic.{◌↔◌}
use mathlib.Core.Path.{◌≡◌, refl, sym, ap, ◌∙◌}
use native.Mathlib.Omega.{arith}
use borrow.Author.Tests.{eqb-true, eqb-false, eq-eqb, ne_eqb, lt-ltb, le-ltb, ltb-true, not-false}
use lib.Dec.{T, ltb, ltb→lt}
use lib.ListN.{length}
use Rattle.lists.specs.Lists.{every, those, different}
use Rattle.lists.proofs.Tests.{and_l, is_yes, yes_is}
use Rattle.lists.proofs.Lists.{every_at, any_e}
use Rattle.lists.proofs.Numbers.{has_e}
use Rattle.rows.specs.declared.Row.{Row}
use Rattle.rows.specs.Rows.{numbers, holds, holds_face}
use Rattle.rows.specs.Regions.{mixed}
use Rattle.rows.proofs.RegionsOfRows.{one_region, not_mixed}
use Rattle.mesh.specs.Mesh.{numbers_fit, keeps_mesh_rule}
use Rattle.mesh.proofs.MeshRuleStated.{keeps_fits}
use Rattle.marking.specs.Marking.{mark_goes}
use Rattle.layout.specs.Layout.{Patch, block_bytes, max_rows, fields_of}
use Rattle.block.specs.Holding.{RightBlock}
use Rattle.answers.specs.Answers.{Tests, first_refusal}
use Rattle.block.proofs.RightBlocks.{opens}
use Rattle.answers.proofs.ByNumber.{test_of, before, passes, stops}
use Rattle.ring.specs.Ring.{numbers_wrong}
use Rattle.calls.specs.Flipping.{Pair, pair_of, patch_after23, flip23_tests, flip_answer}
use Rattle.calls.proofs.CallTests.{flip23_left}
use Rattle.tables.specs.FlipRows.{facing, OneApex, after23}
use Rattle.tables.proofs.FacingRows.{face_apart}
use Rattle.tables.proofs.ApexesByWords.{the_rows, one_words, words_one, TwoApexes, face_different, two_apexes, one_more}
use Rattle.tables.proofs.ThreeRowsByWords.{new_is}
use Rattle.demands.specs.Kernels.{ours}
use Rattle.demands.specs.FlipWords.{ThreePoints, Faced, OneMaterialAt, Unmarked, Roomy, Tells23}
use Rattle.answers.proofs.ToldByNumber.{past, once, told, exactly, unless, goes_past}
use Rattle.demands.proofs.MarksByWords.{face_stated, face_tested}
use Rattle.demands.proofs.FrontTests.{rule_15, rule_0, returned}

module _ (block out : List ℕ) (x y z : ℕ) (right : RightBlock block) (size : length out ≡ block_bytes) where
  abbrev patch : Patch
  patch = fields_of block

  abbrev points : ℕ
  points = length patch.points

  abbrev face : List ℕ
  face = x ∷ y ∷ z ∷ []

  abbrev pair : Pair
  pair = pair_of patch face

  abbrev rows_over_lem : ℕ
  rows_over_lem = facing patch.rows x y z

  abbrev tests : Tests
  tests = flip23_tests patch face

  is : flip_answer block out (x ∷ y ∷ z ∷ []) ≡ first_refusal tests
  is = flip23_left block out x y z (opens block right) size

  points_fit : ThreePoints block x y z → numbers_wrong points face ≡ false
  unfolding numbers_wrong every
  points_fit three =
      rw (
        lt-ltb x points three.below_x,
        lt-ltb y points three.below_y,
        lt-ltb z points three.below_z,
        yes_is (different face) three.apart,
      )

  fit_points : numbers_wrong points face ≡ false → ThreePoints block x y z
  unfolding numbers_wrong
  fit_points h =
      let low = every (λ n. ltb n points) face in
      let all = and_l low (different face) (is_yes (low && different face) (not-false (low && different face) h)) in
      record {
        below_x = ltb→lt x points (every_at (λ n. ltb n points) face all (Memᴰ.head refl));
        below_y = ltb→lt y points (every_at (λ n. ltb n points) face all (Memᴰ.tail (Memᴰ.head refl)));
        below_z = ltb→lt z points (every_at (λ n. ltb n points) face all (Memᴰ.tail (Memᴰ.tail (Memᴰ.head refl))));
        apart = face_apart points face h;
      }

  tells_9 : (flip_answer block out (x ∷ y ∷ z ∷ []) ≡ 9) ↔ (ThreePoints block x y z → ⊥)
  unfolding flip23_tests once before test_of first_refusal every
  tells_9 = unless (numbers_wrong points face) (exactly 9 tests tt tt tt is refl) points_fit fit_points

  module _ (three : ThreePoints block x y z) where
    -- what is in front is passed, where so many rows hold the face

    front_11 : (rows_over_lem ≡ 0 → ⊥) → first_refusal (before 11 tests) ≡ 0
    unfolding flip23_tests pair_of before first_refusal
    front_11 some = rw (points_fit three, ne_eqb rows_over_lem 0 some)

    front_18 : rows_over_lem ≡ 2 → first_refusal (before 18 tests) ≡ 0
    unfolding flip23_tests pair_of before first_refusal
    front_18 two = rw (points_fit three, ne_eqb rows_over_lem 0 (λ none. omega arith), ne_eqb rows_over_lem 1 (λ one. omega arith))

    tells_10 : (flip_answer block out (x ∷ y ∷ z ∷ []) ≡ 10) ↔ (rows_over_lem ≡ 0)
    unfolding flip23_tests pair_of once before test_of first_refusal every
    tells_10 =
        let (to, from) = exactly 10 tests tt tt tt is (rw (points_fit three)) in
        (λ h. eqb-true rows_over_lem 0 (to h), λ none. from (eq-eqb rows_over_lem 0 none))

    tells_11 : (flip_answer block out (x ∷ y ∷ z ∷ []) ≡ 11) ↔ (rows_over_lem ≡ 1)
    unfolding flip23_tests pair_of once test_of every
    tells_11 = (
      λ h. eqb-true rows_over_lem 1 (told 11 tests tt tt (sym is ∙ h)).1,
      λ one. is ∙ stops 11 tests tt (front_11 (λ none. omega arith)) (eq-eqb rows_over_lem 1 one),
    )

    tells_18 : (flip_answer block out (x ∷ y ∷ z ∷ []) ≡ 18) ↔ ((a : ℕ) × OneApex patch.rows x y z a)
    unfolding flip23_tests pair_of once before test_of every
    tells_18 = (
      λ h.
          let (front, same) = told 18 tests tt tt (sym is ∙ h) in
          let none = eqb-false _ _ (passes 10 (before 18 tests) tt front) in
          let one = eqb-false _ _ (passes 11 (before 18 tests) tt front) in
          let (r, o, e) = the_rows patch x y z right.body.rule three.apart none one in
          one_words patch x y z right.body.rule three.apart r o e (eqb-true pair.a pair.b same),
      λ (a, one).
          is ∙ stops 18 tests tt (front_18 one.two)
          (eq-eqb pair.a pair.b (words_one patch x y z right.body.rule three.apart a one)),
    )

-- ---- two rows with different apexes

module _ (block out : List ℕ) (x y z a b : ℕ) (given : Faced block out x y z a b) where
  abbrev its : Patch
  its = fields_of block

  abbrev list : List ℕ
  list = x ∷ y ∷ z ∷ []

  abbrev table : List Row
  table = (patch_after23 its list).rows

  abbrev theirs : Tests
  theirs = flip23_tests its list

  two : TwoApexes its list a b
  two = two_apexes its x y z a b given.right.body.rule given.apexes

  -- a row's numbers are below the count
  its_points : ThreePoints block x y z
  unfolding numbers_fit
  its_points =
      let count = length its.points in
      let (row, k, h) = any_e (holds_face (a ∷ list)) its.rows given.apexes.over_a in
      let fit = every_at (numbers_fit count) its.rows (keeps_fits count its.rows given.right.body.rule) k in
      let low = and_l (every (λ n. ltb n count) (numbers row)) (different (numbers row)) fit in
      let below : (n : ℕ) → Memᴰ n (a ∷ list) → n < count = λ n i.
      ltb→lt n count (every_at (λ n. ltb n count) (numbers row) low (has_e (numbers row) n (every_at (holds row) (a ∷ list) h i))) in
      record {
        below_x = below x (Memᴰ.tail (Memᴰ.head refl));
        below_y = below y (Memᴰ.tail (Memᴰ.tail (Memᴰ.head refl)));
        below_z = below z (Memᴰ.tail (Memᴰ.tail (Memᴰ.tail (Memᴰ.head refl))));
        apart = face_different its x y z a b given.right.body.rule given.apexes;
      }

  answer_is : flip_answer block out (x ∷ y ∷ z ∷ []) ≡ first_refusal theirs
  answer_is = is block out x y z given.right given.right_length

  -- 9 to 11 and 18 are passed
  front_20 : first_refusal (before 20 theirs) ≡ 0
  unfolding flip23_tests before first_refusal
  front_20 =
      let pair = pair_of its list in
      rw (
        points_fit block out x y z given.right given.right_length its_points,
        two.two,
        ne_eqb pair.a pair.b (λ e. two.apart (omega (arith, two.low, two.high))),
      )

  tells_20 : (flip_answer block out (x ∷ y ∷ z ∷ []) ≡ 20) ↔ (OneMaterialAt its x y z → ⊥)
  unfolding flip23_tests pair_of once test_of every
  tells_20 =
      let gone = those (holds_face list) its.rows in
      unless (mixed gone) (exactly 20 theirs tt tt tt answer_is front_20) (not_mixed gone) (one_region gone)

  module _ (one : OneMaterialAt its x y z) where
    left_23 : first_refusal theirs ≡ first_refusal (past 20 theirs)
    unfolding flip23_tests pair_of test_of every
    left_23 = goes_past 20 theirs tt front_20 (not_mixed (those (holds_face list) its.rows) one)

    flip_tells_23 : (flip_answer block out (x ∷ y ∷ z ∷ []) ≡ 23) ↔ (Unmarked its x y z → ⊥)
    unfolding flip23_tests past once before test_of first_refusal every
    flip_tells_23 =
        unless (mark_goes list (pair_of its list).removed) (exactly 23 (past 20 theirs) tt tt tt (answer_is ∙ left_23) refl)
        (face_tested its list) (face_stated its list)

  module _ (one : OneMaterialAt its x y z) (unmarked : Unmarked its x y z) where
    left_14 : first_refusal theirs ≡ first_refusal (past 23 (past 20 theirs))
    unfolding flip23_tests past before test_of first_refusal every
    left_14 = left_23 one ∙ goes_past 23 (past 20 theirs) tt refl (face_tested its list unmarked)

    tells_14 : (flip_answer block out (x ∷ y ∷ z ∷ []) ≡ 14) ↔ (max_rows < length its.rows + 1)
    unfolding flip23_tests past once before test_of first_refusal every
    tells_14 =
        let (to, from) = exactly 14 (past 23 (past 20 theirs)) tt tt tt (answer_is ∙ left_14) refl in (
          λ h. omega (arith, one_more its list two, ltb-true max_rows (length table) (to h)),
          λ h. from (lt-ltb max_rows (length table) (omega (arith, one_more its list two))),
        )

    left_15 : length its.rows + 1 ≤ max_rows
        → flip_answer block out (x ∷ y ∷ z ∷ []) ≡ first_refusal ((15, not (keeps_mesh_rule (length its.points) table)) ∷ [])
    unfolding flip23_tests past before test_of first_refusal every
    left_15 room =
        answer_is
        ∙ left_14
        ∙ goes_past 14 (past 23 (past 20 theirs)) tt refl (le-ltb max_rows (length table) (omega (arith, one_more its list two)))

module _ (block out : List ℕ) (x y z a b u v w : ℕ) (given : Roomy block out x y z a b u v w) where
  abbrev rule_kept : Bool
  rule_kept = keeps_mesh_rule (length (fields_of block).points) (after23 (fields_of block).rows (x ∷ y ∷ z ∷ []) a b u v w)

  left_rule : flip_answer block out (x ∷ y ∷ z ∷ []) ≡ first_refusal ((15, not rule_kept) ∷ [])
  unfolding patch_after23 pair_of
  left_rule =
      left_15 block out x y z a b given.faced given.one_region given.unmarked given.room
      ∙ ap (λ new.
      let table = those (λ row. not (holds_face (x ∷ y ∷ z ∷ []) row)) (fields_of block).rows ++ new in
      first_refusal ((15, not (keeps_mesh_rule (length (fields_of block).points) table)) ∷ []))
      (new_is (fields_of block) x y z a b given.faced.right.body.rule given.faced.apexes given.smaller u v w given.read)

  tells_15 : (flip_answer block out (x ∷ y ∷ z ∷ []) ≡ 15) ↔ (T rule_kept → ⊥)
  tells_15 = rule_15 (flip_answer block out (x ∷ y ∷ z ∷ [])) rule_kept left_rule

  tells_0 : (flip_answer block out (x ∷ y ∷ z ∷ []) ≡ 0) ↔ T rule_kept
  tells_0 = rule_0 (flip_answer block out (x ∷ y ∷ z ∷ [])) rule_kept left_rule

pub tells_23 : Tells23 ours
unfolding ours
tells_23 = record {
  nine = λ block out x y z right size. returned (tells_9 block out x y z right size);
  ten = λ block out x y z right size three. returned (tells_10 block out x y z right size three);
  eleven = λ block out x y z right size three. returned (tells_11 block out x y z right size three);
  eighteen = λ block out x y z right size three. returned (tells_18 block out x y z right size three);
  twenty = λ block out x y z a b given. returned (tells_20 block out x y z a b given);
  twenty_three = λ block out x y z a b given one. returned (flip_tells_23 block out x y z a b given one);
  fourteen = λ block out x y z a b given one unmarked. returned (tells_14 block out x y z a b given one unmarked);
  fifteen = λ block out x y z a b u v w given. returned (tells_15 block out x y z a b u v w given);
  done = λ block out x y z a b u v w given. returned (tells_0 block out x y z a b u v w given);
}
