-- The numbers that come: what a call returns has the number of its definition, those of a removal and of a flip are on their lists, and a
-- refusal leaves the output as it came and returns nothing else.
use Prim.Native.Nat.{ℕ, suc}
use mathlib.Core.Bool.{true}
use mathlib.Core.List.{List, [], ◌∷◌, ◌++◌}
use mathlib.Core.Path.{◌≡◌, refl}
use native.Mathlib.Omega.{arith}
use borrow.Author.Tests.{ne_eqb}
use lib.Dec.{T}
use lib.ListN.{length}
use Rattle.std.specs.Prelude.{Result, Ok, Err}
use Rattle.lists.specs.Lists.{any, has}
use Rattle.page.specs.Page.{shown, page_row}
use Rattle.layout.specs.Layout.{fields_of, open_fields}
use Rattle.body.specs.Body.{body_tests}
use Rattle.answers.specs.declared.Refusal.{Refusal}
use Rattle.answers.specs.Answers.{written, number_of}
use Rattle.block.specs.Opening.{open_answer, open_gives}
use Rattle.answers.proofs.Refusals.{on_list, number_of_lem}
use Rattle.tally.specs.Tally.{worst_of_patch}
use Rattle.summary.specs.Summary.{summary_of}
use Rattle.ring.specs.Ring.{site_of, edge_tests, ring_with}
use Rattle.calls.specs.Summarising.{summary_gives}
use Rattle.calls.specs.Removing.{block_tests, patch_after, removal_tests, remove_answer, remove_gives}
use Rattle.calls.specs.Flipping.{flip32_tests, flip23_tests, flip_tests, flip_answer}
use Rattle.calls.proofs.CallTests.{miscounted, never_done}
use Rattle.accepted.specs.CallNumbers.{remove_numbers, flip_numbers}

-- any number but 0 leaves the output as it came
pub kept_out : (answer : ℕ) (bytes out : List ℕ) → (answer ≡ 0 → ⊥) → written answer bytes out ≡ out
kept_out answer bytes out h = rw (ne_eqb answer 0 h)

-- any number but 0 is that of a refusal
pub refusal_of : {A : Type 0} (given : Result A Refusal) → (number_of given ≡ 0 → ⊥) → (refusal : Refusal) × (given ≡ Err refusal)
refusal_of (Ok x) h = absurd (h refl)
refusal_of (Err refusal) h = (refusal, refl)

pub open_number : (block : List ℕ) → number_of (open_gives block) ≡ open_answer block
unfolding open_gives
open_number block = number_of_lem (open_answer block) (open_fields block)

pub summary_number_fact : (block : List ℕ) → number_of (summary_gives block) ≡ open_answer block
unfolding summary_gives
summary_number_fact block = number_of_lem (open_answer block) (summary_of (fields_of block))

pub remove_listed : (block out : List ℕ) (e f : ℕ) → T (has remove_numbers (remove_answer block out e f))
unfolding remove_answer block_tests body_tests edge_tests removal_tests
remove_listed block out e f = on_list _

-- with answer 0 a removal gives the page row and the ring
pub gives_done : (block out : List ℕ) (e f : ℕ) → remove_answer block out e f ≡ 0
    → let patch = fields_of block in
    let site = site_of patch e f in
    remove_gives block out e f
    ≡ Ok (record { page = page_row (shown (worst_of_patch patch)) (shown (worst_of_patch (patch_after site))); ring = ring_with site.ring })
unfolding remove_gives
gives_done block out e f h = rw (h, remove_gives)

-- a refusal returns its number and nothing else
pub gives_refused : (block out : List ℕ) (e f n : ℕ) → remove_answer block out e f ≡ suc n
    → remove_gives block out e f ≡ Err (record { number = suc n })
unfolding remove_gives
gives_refused block out e f n h = rw (h, remove_gives)

pub remove_number : (block out : List ℕ) (e f : ℕ) → number_of (remove_gives block out e f) ≡ remove_answer block out e f
unfolding remove_gives
remove_number block out e f = number_of_lem (remove_answer block out e f) _

-- ---- the flip

-- a number that is not 0 is on the list without it
without_0 : (numbers : List ℕ) (n : ℕ) → T (has (0 ∷ numbers) n) → (n ≡ 0 → ⊥) → T (has numbers n)
unfolding any
without_0 numbers n h other = rw (ne_eqb n 0 other) at h

other_listed : (block out numbers : List ℕ) → (length numbers ≡ 2 → ⊥) → (length numbers ≡ 3 → ⊥)
    → T (has (flip_numbers []) (flip_answer block out numbers))
unfolding flip_answer block_tests body_tests
other_listed block out numbers two three =
    without_0 _ _ (rw (miscounted (fields_of block) numbers two three) (on_list (block_tests block out ++ (21, true) ∷ [])))
    (never_done block out numbers two three)

pub flip_listed : (block out numbers : List ℕ) → T (has (flip_numbers numbers) (flip_answer block out numbers))
unfolding flip_answer flip_tests block_tests body_tests edge_tests flip32_tests flip23_tests
flip_listed block out (e ∷ f ∷ []) = on_list _
flip_listed block out (x ∷ y ∷ z ∷ []) = on_list _
flip_listed block out [] = other_listed block out [] (λ e. omega arith) (λ e. omega arith)
flip_listed block out (x ∷ []) = other_listed block out (x ∷ []) (λ e. omega arith) (λ e. omega arith)
flip_listed block out (x ∷ y ∷ z ∷ w ∷ more) =
    other_listed block out (x ∷ y ∷ z ∷ w ∷ more) (λ e. omega arith) (λ e. omega arith)
