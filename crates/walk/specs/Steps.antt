-- What only contracts of inner functions and proofs say: where a walk starts, and what it went by.
use Rattle.std.specs.Prelude.{ℕ, cond, ◌≡◌, take}
use mathlib.Core.List.{List, [], Memᴰ}
use Rattle.std.proofs.Math.Option.{Option, none, some}
use Rattle.links.specs.Links.{Link, starts}
use Rattle.walk.specs.declared.Trail.{Trail}
use Rattle.walk.specs.Walk.{smallest, heads}

-- the points that a walk went by
abbrev pub went_by : Trail → List ℕ
went_by trail = take trail.m trail.v

-- the closed circle that a walk went, if it closed
abbrev pub walked : Trail → Option (List ℕ)
walked trail = cond trail.closed (some (went_by trail)) none

-- some point to which no link comes; if each is entered, the smallest
pub record StartsAt (links : List Link) (v : ℕ) : Type 0 where
  pub entered : (heads links ≡ []) → v ≡ smallest (starts links)
  pub head : (heads links ≡ [] → ⊥) → Memᴰ v (heads links)
