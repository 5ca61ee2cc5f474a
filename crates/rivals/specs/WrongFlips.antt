-- Four wrong kernels, each ours but for its flip: two that test 21 in the wrong place, and two that take one count for another.
use Rattle.std.specs.Prelude.{ℕ, List, [], ◌∷◌, ◌++◌, length, take, Err}
use Rattle.rows.specs.Rows.{version}
use Rattle.layout.specs.Layout.{fields_of, bytes_of}
use Rattle.answers.specs.Answers.{first_refusal, answer_of, written}
use Rattle.ring.specs.Ring.{numbers_wrong}
use Rattle.calls.specs.Removing.{block_tests}
use Rattle.calls.specs.Flipping.{by_count, flip_tests, patch_flipped}
use Rattle.demands.specs.Kernels.{Answer, Kernel, ours}

-- ours, with another flip
abbrev pub with_flip : (List ℕ → List ℕ → List ℕ → Answer × List ℕ) → Kernel
with_flip flip = record {
  read = ours.read;
  summary = ours.summary;
  shown = ours.shown;
  seal = ours.seal;
  remove = ours.remove;
  flip = flip;
}

-- one that tests 21 before the block
abbrev pub counting_first : Kernel
counting_first = with_flip (λ block out numbers.
    let its = ours.flip block out numbers in
    by_count (λ e f. its) (λ x y z. its) (Err (record { number = 21 }), out) numbers)

-- one that tests 9 before 21
abbrev pub numbering_first : Kernel
numbering_first = with_flip (λ block out numbers.
    let patch = fields_of block in
    let bad = numbers_wrong (length patch.points) numbers in
    let answer = first_refusal (block_tests block out ++ (9, bad) ∷ flip_tests patch numbers) in
    (answer_of answer, written answer (bytes_of (version block) (patch_flipped patch numbers)) out))

-- one that takes four numbers, or more, for three
abbrev pub taking_four : Kernel
taking_four = with_flip (λ block out numbers. ours.flip block out (take 3 numbers))

-- one that reads two numbers as a face, with 0 for the third
abbrev pub facing_two : Kernel
facing_two = with_flip (λ block out numbers.
    let its = ours.flip block out numbers in
    by_count (λ e f. ours.flip block out (e ∷ f ∷ 0 ∷ [])) (λ x y z. its) its numbers)
