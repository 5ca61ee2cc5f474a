-- Answers 3 to 8 and 22 one by one: what decides each, given what the tests above it found.
use Prim.Native.Nat.{ℕ, ◌≤◌, ◌<◌}
use mathlib.Core.Bool.{true, false}
use mathlib.Core.List.{List, [], ◌∷◌}
use mathlib.Core.Path.{◌≡◌}
use borrow.Author.Tests.{lt-ltb, le-ltb}
use Rattle.std.specs.Prelude.{Result, Ok, Err}
use Rattle.answers.specs.declared.Refusal.{Refusal}
use Rattle.answers.specs.Answers.{first_refusal, answer_of}
use Rattle.rows.specs.Rows.{version}
use Rattle.layout.specs.Layout.{is_version, max_points, max_rows, point_count, row_count, fields_of}
use Rattle.body.specs.Body.{body_tests, zero_missing, number_wrong, face_twice, marks_disagree}

-- the answer to a body
abbrev pub answer_to : List ℕ → Result (Unit {0}) Refusal
answer_to block = answer_of (first_refusal (body_tests block))

pub refused_3 : (block : List ℕ) → is_version (version block) ≡ false → Err (record { number = 3 }) ≡ answer_to block
unfolding body_tests first_refusal
refused_3 block a = rw a

module _ (block : List ℕ) (a3 : is_version (version block) ≡ true) where
  pub refused_4_points : max_points < point_count block → Err (record { number = 4 }) ≡ answer_to block
  unfolding body_tests first_refusal
  refused_4_points a = rw (a3, lt-ltb max_points (point_count block) a)

  module _ (a4 : point_count block ≤ max_points) where
    pub refused_4_rows : max_rows < row_count block → Err (record { number = 4 }) ≡ answer_to block
    unfolding body_tests first_refusal
    refused_4_rows a = rw (a3, le-ltb max_points (point_count block) a4, lt-ltb max_rows (row_count block) a)

    module _ (b4 : row_count block ≤ max_rows) where
      passed_4 : first_refusal (body_tests block) ≡ first_refusal (
          (5, zero_missing block) ∷ (7, number_wrong (fields_of block)) ∷ (8, face_twice (fields_of block))
          ∷ (22, marks_disagree (fields_of block)) ∷ []
          )
      unfolding body_tests first_refusal
      passed_4 = rw (a3, le-ltb max_points (point_count block) a4, le-ltb max_rows (row_count block) b4)

      pub refused_5 : zero_missing block ≡ true → Err (record { number = 5 }) ≡ answer_to block
      unfolding first_refusal
      refused_5 a = rw (passed_4, a)

      module _ (a5 : zero_missing block ≡ false) where
        pub refused_7 : number_wrong (fields_of block) ≡ true → Err (record { number = 7 }) ≡ answer_to block
        unfolding first_refusal
        refused_7 a = rw (passed_4, a5, a)

        pub refused_8 : number_wrong (fields_of block) ≡ false → face_twice (fields_of block) ≡ true → Err (record { number = 8 }) ≡ answer_to block
        unfolding first_refusal
        refused_8 a7 a = rw (passed_4, a5, a7, a)

        pub refused_22 : number_wrong (fields_of block) ≡ false → face_twice (fields_of block) ≡ false → marks_disagree (fields_of block) ≡ true
            → Err (record { number = 22 }) ≡ answer_to block
        unfolding first_refusal
        refused_22 a7 a8 a = rw (passed_4, a5, a7, a8, a)

        pub all_right : number_wrong (fields_of block) ≡ false → face_twice (fields_of block) ≡ false → marks_disagree (fields_of block) ≡ false
            → Ok tt ≡ answer_to block
        unfolding first_refusal
        all_right a7 a8 a = rw (passed_4, a5, a7, a8, a)
