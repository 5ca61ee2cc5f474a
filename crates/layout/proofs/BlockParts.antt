-- The parts of a block: where each stands, and that they make the block up.
use Rattle.std.proofs.Common.{◌≡◌, ℕ, ◌+◌, ◌-◌, ◌≤◌, List, ◌++◌, length, take, drop, replicate, sym, ap, ◌∙◌, append_assoc, arith, length-append, length-drop, length-take, take-take, drop-drop, take-add, drop_at}
use lib.ListN.{length-replicate}
use lib.Seq.{take-append_seam}
use Rattle.layout.specs.Layout.{part, filled}

-- bytes, then zeros up to n bytes, are n bytes
pub filled_length : (n : ℕ) (bytes : List ℕ) → length bytes ≤ n → length (filled n bytes) ≡ n
filled_length n bytes h = simp (length-append, length-replicate) (omega arith)

pub part_length : (i j : ℕ) (block : List ℕ) → j ≤ length block → length (part i j block) ≡ j - i
part_length i j block h = simp (length-take, length-drop) (omega arith)

-- a part is cut in two at any place
pub part_cut : (i j k : ℕ) (block : List ℕ) → i ≤ j → j ≤ k → part i k block ≡ part i j block ++ part j k block
part_cut i j k block h l =
    let e : k - i ≡ (j - i) + (k - j) = omega arith in
    let p : i + (j - i) ≡ j = omega arith in
    rw (e, take-add (j - i) (k - j) (drop i block), drop-drop (j - i) i block, p)

-- what stands in the middle of a list
pub part_at : (front middle rest : List ℕ) (i j : ℕ) → length front ≡ i → i + length middle ≡ j
    → part i j (front ++ middle ++ rest) ≡ middle
part_at front middle rest i j h l =
    let e : j - i ≡ length middle = omega arith in
    rw (append_assoc front middle rest, drop_at front (middle ++ rest) i h, e, take-append_seam middle rest)

-- a part that is n bytes, filled with zeros, is zero behind them
pub zero_behind : (i k n : ℕ) (block bytes : List ℕ) → k ≤ length block → i + n ≤ k → length bytes ≡ n
    → part i k block ≡ filled (k - i) bytes
    → part (i + n) k block ≡ replicate (k - (i + n)) 0
zero_behind i k n block bytes h l m e =
    let a : i + n - i ≡ n = omega arith in
    let b : k - i - length bytes ≡ k - (i + n) = omega arith in
    let front = part_length i (i + n) block (omega arith) ∙ a in
    let cut = part_cut i (i + n) k block (omega arith) l in
    sym (drop_at (part i (i + n) block) (part (i + n) k block) n front)
    ∙ (ap (drop n) (sym cut ∙ e) ∙ (drop_at bytes (replicate (k - i - length bytes) 0) n m ∙ ap (λ z. replicate z 0) b))

-- a part that is zero behind n bytes is these bytes, filled with zeros
pub filled_behind : (i k n : ℕ) (block : List ℕ) → k ≤ length block → i + n ≤ k → part (i + n) k block ≡ replicate (k - (i + n)) 0
    → filled (k - i) (take n (part i k block)) ≡ part i k block
filled_behind i k n block h l e =
    let a : i + n - i ≡ n = omega arith in
    let b : k - i - n ≡ k - (i + n) = omega arith in
    let front : take n (part i k block) ≡ part i (i + n) block = take-take n (k - i) (drop i block) (omega arith) ∙ rw a in
    let size = part_length i (i + n) block (omega arith) ∙ a in
    rw (front, size, b, ← e) (sym (part_cut i (i + n) k block (omega arith) l))
