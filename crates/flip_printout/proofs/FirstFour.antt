-- Four numbers are too many already: what stands behind the fourth changes nothing.
use Prim.Native.Nat.{ℕ, zero, suc, ◌+◌}
use mathlib.Core.List.{List, [], ◌∷◌}
use mathlib.Core.Path.{◌≡◌, refl, sym, ap, ap₂, ◌∙◌}
use native.Mathlib.Omega.{arith}
use lib.ListN.{take, drop}
use lib.Seq.{take-nil, take-take}
use Rattle.layout.specs.Layout.{block_bytes}
use Rattle.calls.specs.Flipping.{flip_tests, rows_flipped, patch_flipped, flip_answer, flip_bytes}
use Rattle.input.specs.Steps.{most_numbers}
use Rattle.flip_printout.specs.FlipPrintout.{flip_printed, flip_printout}

pub four_tell : (block numbers : List ℕ) → flip_printed block (take most_numbers numbers) ≡ flip_printed block numbers
unfolding flip_printed flip_answer flip_bytes flip_tests rows_flipped patch_flipped
four_tell block [] = refl
four_tell block (x ∷ []) = refl
four_tell block (x ∷ y ∷ []) = refl
four_tell block (x ∷ y ∷ z ∷ []) = refl
four_tell block (x ∷ y ∷ z ∷ w ∷ more) = refl

-- the first n behind the first k
behind_front : (k n : ℕ) (xs : List ℕ) → drop k (take (k + n) xs) ≡ take n (drop k xs)
behind_front zero n xs = let e : 0 + n ≡ n = omega arith in ap (λ i. take i xs) e
behind_front (suc k) n [] = ap (drop (suc k)) (take-nil (suc k + n)) ∙ sym (take-nil n)
behind_front (suc k) n (x ∷ xs) =
    let e : suc k + n ≡ suc (k + n) = omega arith in
    ap (λ i. drop (suc k) (take i (x ∷ xs))) e ∙ behind_front k n xs

-- so no more than 516 bytes of an input are needed
pub first_bytes_tell : (input : List ℕ) → flip_printout (take (block_bytes + most_numbers) input) ≡ flip_printout input
first_bytes_tell input =
    ap₂ flip_printed (take-take block_bytes (block_bytes + most_numbers) input (omega arith)) (behind_front block_bytes most_numbers input)
    ∙ four_tell (take block_bytes input) (drop block_bytes input)
