-- A number of each cell summed over the first cells, one cell more.
use Rattle.std.proofs.Common.{◌≡◌, ℕ, zero, suc, ◌+◌, ◌%◌, ◌^◌, List, [], ◌∷◌, get_or, map, take, sym, refl, ap, ◌∙◌, add-one, arith}
use Rattle.std.proofs.Math.ListN.{get_or-map}
use native.Mathlib.Nat.{mod-add-mod}
use Rattle.lists.specs.Lists.{sum}
use Rattle.counts.specs.declared.Cases.{Cases}
use Rattle.counts.specs.CaseCounts.{no_case}

sum_more : (ns : List ℕ) (i : ℕ) → sum (take (suc i) ns) ≡ sum (take i ns) + get_or ns i 0
sum_more [] zero = refl
sum_more [] (suc i) = refl
sum_more (x ∷ xs) zero = omega arith
sum_more (x ∷ xs) (suc i) = let rest = sum_more xs i in omega arith

-- in 64 bits
pub total_more : (f : Cases → ℕ) → f no_case ≡ 0 → (cells : List Cases) (i total : ℕ)
    → total ≡ sum (take i (map f cells)) % 2 ^ 64
    → (total + f (get_or cells i no_case)) % 2 ^ 64 ≡ sum (take (i + 1) (map f cells)) % 2 ^ 64
total_more f none cells i total t =
    let here : f (get_or cells i no_case) ≡ get_or (map f cells) i 0 = sym (get_or-map f cells i no_case) ∙ ap (get_or (map f cells) i) none in
    rw (here, t, mod-add-mod (sum (take i (map f cells))) (2 ^ 64) (get_or (map f cells) i 0), ← sum_more (map f cells) i, add-one i)
