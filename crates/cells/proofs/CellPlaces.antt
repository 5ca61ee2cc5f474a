-- The places of the cells. j - 2 pieces end at j, and they take the places behind those of all that end before: every law here
-- follows from that one sum.
use Prim.Native.Nat.{ℕ, zero, suc, ◌+◌, ◌-◌, ◌*◌, ◌/◌, ◌≤◌, ◌<◌}
use mathlib.Core.Path.{◌≡◌, refl, ap}
use native.Mathlib.Decide.{dec_lt}
use native.Mathlib.Omega.{arith}
use Rattle.ring.specs.Ring.{max_ring}
use Rattle.cells.specs.Steps.{cell_at, cells}

-- ---- how many pieces end at a place or before

unfoldable pub ended_by : ℕ → ℕ
ended_by j = (j - 1) * (j - 2) / 2

ended : (j : ℕ) → ended_by (suc (suc j)) ≡ suc j * j / 2
unfolding ended_by
ended j =
    let one : suc (suc j) - 1 ≡ suc j = omega arith in
    let two : suc (suc j) - 2 ≡ j = omega arith in
    rw (one, two)

one_more : (j : ℕ) → ended_by (suc (suc j)) ≡ ended_by (suc j) + j
unfolding ended_by
one_more zero = refl
one_more (suc j) = omega (arith, ended (suc j), ended j)

-- the e - 2 that end at e come on top of all that end before
past : (j e : ℕ) → 1 ≤ j → j < e → ended_by j + (e - 2) ≤ ended_by e
past j zero s h = absurd (omega arith)
past j (suc zero) s h = absurd (omega arith)
past j (suc (suc e)) s h = go (dec_lt j (suc e)) (past j (suc e) s)
  where
    go : Dec (j < suc e) → (j < suc e → ended_by j + (suc e - 2) ≤ ended_by (suc e)) → ended_by j + (suc (suc e) - 2) ≤ ended_by (suc (suc e))
    go (yes c) below = omega (arith, below c, one_more e)
    go (no c) below = let same : j ≡ suc e = omega arith in omega (arith, ap ended_by same, one_more e)

-- ---- the place of a piece

-- what is taken off is there
pub cell_room : (i j : ℕ) → i + 2 ≤ j → i ≤ ended_by j
cell_room i j h = omega (arith, past (j - 1) j (omega arith) (omega arith))

counted : (i j : ℕ) → i + 2 ≤ j → cell_at i j + i ≡ ended_by j
unfolding cell_at ended_by
counted i j h = let room = cell_room i j h in omega arith

-- a piece stands behind those that end before it, and behind the shorter that end with it
pub cell_order : (i j l e : ℕ) → 1 ≤ i → i + 2 ≤ j → l + 2 ≤ e → j ≤ e → (j ≡ e → l < i) → cell_at i j < cell_at l e
cell_order i j l e s h k c d = go (dec_lt j e)
  where
    go : Dec (j < e) → cell_at i j < cell_at l e
    go (yes b) = omega (arith, counted i j h, counted l e k, past j e (omega arith) b)
    go (no b) =
        let same : j ≡ e = omega arith in
        omega (arith, d same, counted i j h, counted l e k, ap ended_by same)

-- the place of the whole is the last,
pub cell_last : (l e m : ℕ) → 1 ≤ l → l + 2 ≤ e → e ≤ m → cell_at l e ≤ cell_at 1 m
cell_last l e m s h c = go (dec_lt e m)
  where
    go : Dec (e < m) → cell_at l e ≤ cell_at 1 m
    go (yes b) = omega (arith, cell_order l e 1 m s h (omega arith) c (λ same. omega arith))
    go (no b) =
        let same : e ≡ m = omega arith in
        omega (arith, counted l e h, counted 1 m (omega arith), ap ended_by same)

-- in range,
pub cell_in : (i j : ℕ) → 1 ≤ i → i + 2 ≤ j → j ≤ max_ring → cell_at i j < cells
unfolding cell_at
cell_in i j s h c = omega (arith, cell_last i j max_ring s h c)

-- and never the same for two pieces
pub cell_apart : (i j l e : ℕ) → 1 ≤ i → i + 2 ≤ j → 1 ≤ l → l + 2 ≤ e → cell_at i j ≡ cell_at l e → (i ≡ l) × (j ≡ e)
cell_apart i j l e s h t k q = go (dec_lt j e) (dec_lt e j)
  where
    go : Dec (j < e) → Dec (e < j) → (i ≡ l) × (j ≡ e)
    go (yes b) d = absurd (omega (arith, cell_order i j l e s h k (omega arith) (λ same. omega arith)))
    go (no b) (yes d) = absurd (omega (arith, cell_order l e i j t k h (omega arith) (λ same. omega arith)))
    go (no b) (no d) = let same : j ≡ e = omega arith in (omega (arith, counted i j h, counted l e k, ap ended_by same), same)

-- ---- one place more

-- behind (i,j) stands (i - 1,j), and behind (1,j) what stands first of those that end at j + 1: the place of "(0,j)" is that one's
pub cell_next : (i j : ℕ) → 1 ≤ i → i + 2 ≤ j → cell_at (i - 1) j ≡ cell_at i j + 1
cell_next i j s h = omega (arith, counted i j h, counted (i - 1) j (omega arith))

-- the first that ends at j stands behind all that end before
pub cell_turn : (j : ℕ) → 3 ≤ j → cell_at (j - 1 - 1) j ≡ cell_at 0 (j - 1)
cell_turn zero h = absurd (omega arith)
cell_turn (suc zero) h = absurd (omega arith)
cell_turn (suc (suc j)) h =
    let back : suc (suc j) - 1 ≡ suc j = omega arith in
    let twice : suc (suc j) - 1 - 1 ≡ j = omega arith in
    rw (twice, back) (omega (arith, counted j (suc (suc j)) (omega arith), counted 0 (suc j) (omega arith), one_more j))
