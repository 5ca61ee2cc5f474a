-- The room of rings and chains of some lengths, of every kernel that gives 14 by its words.
use Prim.Native.Nat.{ℕ, ◌+◌, ◌≤◌, ◌<◌, min, max}
use mathlib.Core.Bool.{Bool, true, false}
use mathlib.Core.List.{List}
use mathlib.Core.Logic.{◌↔◌}
use mathlib.Core.Path.{◌≡◌, refl, subst}
use native.Mathlib.Decide.{dec_lt}
use native.Mathlib.Omega.{arith}
use lib.Dec.{T}
use lib.ListN.{length}
use Rattle.lists.specs.Lists.{those}
use Rattle.lists.proofs.Tests.{is_yes}
use Rattle.rows.specs.declared.Row.{Row}
use Rattle.rows.specs.Rows.{holds_edge}
use Rattle.rows.specs.Regions.{mixed}
use Rattle.rows.proofs.RegionsOfRows.{one_region, not_mixed}
use Rattle.layout.specs.Layout.{fields_of}
use Rattle.layout.proofs.PatchWritten.{rows_counted}
use Rattle.ring.specs.Ring.{Site, site_of}
use Rattle.calls.specs.Removing.{mark_lost}
use Rattle.demands.specs.Premises.{Ringed, FlatChain, OneMaterial, HasRoom}
use Rattle.demands.specs.Kernels.{Kernel, removes, ours}
use Rattle.demands.specs.Words.{Tells}
use Rattle.demands.specs.Orders.{Room}
use Rattle.demands.proofs.MarksByWords.{marks_stay_stated, marks_stay_tested}
use Rattle.demands.proofs.RemovalWords.{tells}

-- a ring is no chain
ring_flat : (block : List ℕ) (e f : ℕ) (vs : List ℕ) → FlatChain block e f true vs
ring_flat block e f vs q = absurd (subst T q tt)

-- no room for so many rows and points: one row too many
over : {P : Type 0} (rows points most limit : ℕ) → most ≡ limit + points → P ↔ (rows + points ≤ most → ⊥) → P ↔ (limit < rows)
over {P} rows points most limit e given = (λ p. go p (dec_lt limit rows), λ h. given.1 (λ room. omega arith))
  where
    go : P → Dec (limit < rows) → limit < rows
    go p (yes h) = h
    go p (no h) = absurd (given.0 p (omega arith))

-- where the rows have more than one region 20 is given, where a marked face would go 23, and no 14
module _ (k : Kernel) (told : Tells k) (block out : List ℕ) (e f : ℕ) (closed : Bool) (vs : List ℕ) (ringed : Ringed block out e f closed vs)
    (flat : FlatChain block e f closed vs) (room : HasRoom block closed vs) where
  never_14 : removes k block out e f ≡ 14 → ⊥
  never_14 h = go (mixed gone) refl
    where
      gone : List Row
      gone = those (holds_edge (min e f) (max e f)) (fields_of block).rows

      its : Site
      its = site_of (fields_of block) e f

      unmixed : OneMaterial (fields_of block) e f → (b : Bool) → mark_lost its ≡ b → ⊥
      unmixed one true q =
          let twenty_three = (told.twenty_three block out e f closed vs ringed flat one).1 (λ stay.
          subst T (marks_stay_tested (fields_of block) e f stay) (is_yes (mark_lost its) q)) in
          omega arith
      unmixed one false q =
          (told.fourteen block out e f closed vs ringed flat one (marks_stay_stated (fields_of block) e f q)).0 h room

      go : (b : Bool) → mixed gone ≡ b → ⊥
      go true q =
          let twenty = (told.twenty block out e f closed vs ringed flat).1 (λ one. subst T (not_mixed gone one) (is_yes (mixed gone) q)) in
          omega arith
      go false q = unmixed (one_region gone q) (mark_lost its) refl

pub room_of : (k : Kernel) → Tells k → Room k
room_of k told = record {
  ring_of_six = λ block out e f vs ringed one stay six.
      over (length (fields_of block).rows) (length vs) 64 58 (omega arith)
      (told.fourteen block out e f true vs ringed (ring_flat block e f vs) one stay);
  ring_of_four = λ block out e f vs ringed four.
      never_14 k told block out e f true vs ringed (ring_flat block e f vs) (omega (arith, rows_counted block, ringed.right.body.few_rows));
  chain_of_four = λ block out e f vs ringed flat one stay four.
      over (length (fields_of block).rows) (length vs) 63 59 (omega arith) (told.fourteen block out e f false vs ringed flat one stay);
  chain_of_three = λ block out e f vs ringed flat three.
      never_14 k told block out e f false vs ringed flat (omega (arith, rows_counted block, ringed.right.body.few_rows));
}

pub room : Room ours
room = room_of ours tells
