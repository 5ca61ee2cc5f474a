-- `score::octave_of` is `octave_of`: `half` is the total halved once more than `exponent` says, and n of it are left exactly
-- where the next exponent is reached.
use Prim.Native.Nat.{ℕ, suc, ◌+◌, ◌*◌, ◌/◌, ◌^◌, ◌≤◌, ◌<◌}
use mathlib.Core.Path.{◌≡◌}
use native.Mathlib.Nat.{pow-suc, one-le-pow, le_antisymm, div-div-eq-div-mul, div-lt_iff_lt-mul, le-div_iff_mul-le}
use native.Mathlib.Numerals.{add-one}
use native.Mathlib.Omega.{arith}
use Rattle.score.proofs.OctaveLargest.{octave_within, octave_largest, octave_below}
use Rattle.score.proofs.octave_of.Goals as goal

module _ (n total e half : ℕ) (is : half ≡ total / 2 ^ suc e) where
  reached : n ≤ half → 2 ^ suc e * n ≤ total
  reached h = omega (arith, (le-div_iff_mul-le {k = 2 ^ suc e} (one-le-pow (suc e) 2 (omega arith))).0 (rw is at h))

  above : half < n → total < 2 ^ suc e * n
  above h = omega (arith, (div-lt_iff_lt-mul {k = 2 ^ suc e} (one-le-pow (suc e) 2 (omega arith))).0 (rw is at h))

  halved : half / 2 ≡ total / 2 ^ suc (e + 1)
  halved = rw (add-one, pow-suc 2 (suc e), is) (div-div-eq-div-mul total (2 ^ suc e) 2)

pub returns-then-half-n : goal.returns-then-half-n
returns-then-half-n c =
    let a = c.args in
    let e = c.loop-exponent.exponent in
    le_antisymm c.loop-exponent.invariant.1
    (octave_below a.n a.total e (above a.n a.total e c.loop-exponent.half c.loop-exponent.invariant.0 c.if-half-n.true))

pub loop-exponent-preserved : goal.loop-exponent-preserved
loop-exponent-preserved c =
    let a = c.args in
    let e = c.loop-exponent.exponent in
    let half = c.loop-exponent.half in
    let is = c.loop-exponent.invariant.0 in
    let next = octave_largest a.n a.total (suc e) (omega arith) (reached a.n a.total e half is c.if-half-n.false) in
    (halved a.n a.total e half is, omega arith)

pub returns : goal.returns
returns c = let a = c.args in omega (arith, octave_within a.n a.total)
