-- No length from 3 to 10 is empty: the third demand's premises can be met by a ring and by a flat chain of each, with some better way; so no
-- kernel that refuses all rings, or all flat chains, of one of the lengths meets the demand.
use Prim.Native.Nat.{ℕ, suc, ◌-◌, ◌≤◌, ◌<◌}
use mathlib.Core.Bool.{Bool, true, false, not, ◌&&◌}
use mathlib.Core.List.{List, [], ◌∷◌, Memᴰ}
use mathlib.Core.Path.{◌≡◌, refl, sym, ap, ◌∙◌, subst}
use native.Mathlib.Omega.{arith}
use lib.Dec.{T, T_not, eqb, eqb→eq}
use lib.ListN.{length, get_or}
use Rattle.lists.specs.Lists.{every, same, numbers_from}
use Rattle.lists.proofs.Tests.{and_i, yes_is, no_is, eq_test}
use Rattle.lists.proofs.Lists.{every_at}
use Rattle.lists.proofs.Places.{at_in}
use Rattle.lists.proofs.Numbers.{numbers_i, numbers_length, same_e}
use Rattle.quality.specs.Quality.{worse}
use Rattle.rows.specs.declared.Row.{Row}
use Rattle.rows.specs.RowMeasure.{row_quality}
use Rattle.rows.specs.Regions.{mixed}
use Rattle.layout.specs.Layout.{fields_of, bytes_of}
use Rattle.block.specs.Opening.{open_answer}
use Rattle.answers.specs.Answers.{first_refusal}
use Rattle.ring.specs.Ring.{Site, site_of, m, or_chains, edge_tests, not_flat}
use Rattle.triangulation.specs.Triangulation.{Tri, span, triangles, new_rows}
use Rattle.triangulation.specs.Admissible.{admissible}
use Rattle.triangulation.proofs.WholeRing.{RingWay}
use Rattle.calls.specs.Removing.{worst_now, mark_lost, no_room, Sound}
use Rattle.demands.specs.Kernels.{Kernel, removes}
use Rattle.demands.specs.TriangleSets.{NoneBetter}
use Rattle.demands.specs.Premises.{edge_at, Ringed, Premises}
use Rattle.demands.specs.Demands.{Demand3}
use Rattle.demands.proofs.WaysAndTrees.{tree_way, tree_rows}
use Rattle.tables.proofs.RingReplaced.{length_passes}
use Rattle.demands.proofs.EdgeFound.{sited}
use Rattle.demands.proofs.PremisesMet.{premises_by}
use Rattle.facts.specs.AllDefinitions.{definitions}
use Rattle.facts.specs.Facts.{blank}
use Rattle.rivals.specs.Useless.{fan_first}
use Rattle.rivals.proofs.RivalBlocks.{premises_with}
use Rattle.rivals.specs.Wheels.{circle_points, half_points, wheel_points, wheel, same_bool, has_length, refusing_length}

-- ---- what is computed

abbrev pub block : Bool → ℕ → List ℕ
block closed n = bytes_of 1 (wheel closed n)

abbrev site : Bool → ℕ → Site
site closed n = site_of (fields_of (block closed n)) 0 1

-- a way: the fan from v1
abbrev way : ℕ → Tri
way n = fan_first (n - 1)

-- a new row that is better than the worst now
abbrev better : Bool → ℕ → Row → Bool
better closed n new = worse (worst_now (site closed n)) (row_quality (site closed n).points new)

-- the block opens
abbrev opens : Bool → ℕ → Bool
opens closed n = eqb (open_answer (block closed n)) 0

-- 9 to 12 are not given
abbrev passes : Bool → ℕ → Bool
passes closed n = eqb (first_refusal (edge_tests or_chains (site closed n) 0 1)) 0

-- a chain is flat
abbrev flat : Bool → ℕ → Bool
flat closed n = not (not_flat (site closed n))

-- it is a ring, or a chain, as asked
abbrev ring_or_chain : Bool → ℕ → Bool
ring_or_chain closed n = same_bool (site closed n).closed closed

-- of the points 2, 3, and so on
abbrev rounds : Bool → ℕ → Bool
rounds closed n = same eqb (site closed n).ring (numbers_from 2 n)

-- its rows have one region
abbrev unmixed : Bool → ℕ → Bool
unmixed closed n = not (mixed (site closed n).removed)

-- none of them marks a face that goes
abbrev unmarked : Bool → ℕ → Bool
unmarked closed n = not (mark_lost (site closed n))

-- there is room
abbrev roomy : Bool → ℕ → Bool
roomy closed n = not (no_room (site closed n))

-- the way is one of the ring
abbrev spans : Bool → ℕ → Bool
spans closed n = eqb (span (way n)) (m (site closed n) - 1)

-- it keeps the mesh rule
abbrev keeps : Bool → ℕ → Bool
keeps closed n = admissible (site closed n) (way n)

-- and each of its rows is better than the worst now
abbrev betters : Bool → ℕ → Bool
betters closed n = every (better closed n) (new_rows (site closed n) 1 (way n))

-- all of it
abbrev tests : Bool → ℕ → List Bool
tests closed n =
    opens closed n
    ∷ passes closed n
    ∷ flat closed n
    ∷ ring_or_chain closed n
    ∷ rounds closed n
    ∷ roomy closed n
    ∷ spans closed n
    ∷ keeps closed n
    ∷ betters closed n
    ∷ unmixed closed n
    ∷ unmarked closed n ∷ []

abbrev fits : Bool → ℕ → Bool
fits closed n = every (λ test. test) (tests closed n)

rings_fit : T (every (fits true) (numbers_from 3 8))
unfolding circle_points wheel_points wheel fan_first definitions
rings_fit = tt

chains_fit : T (every (fits false) (numbers_from 3 8))
unfolding half_points wheel_points wheel fan_first definitions
chains_fit = tt

-- ---- the premises

same_bool_lem : (a b : Bool) → T (same_bool a b) → a ≡ b
same_bool_lem true true h = refl
same_bool_lem true false h = absurd h
same_bool_lem false true h = absurd h
same_bool_lem false false h = refl

module _ (closed : Bool) (n : ℕ) (low : 3 ≤ n) (high : n ≤ 10) where
  fit : T (fits closed n)
  fit = go closed
    where
      at_n : Memᴰ n (numbers_from 3 8)
      at_n = numbers_i 3 8 n low (omega arith)

      go : (c : Bool) → T (fits c n)
      go true = every_at (fits true) (numbers_from 3 8) rings_fit at_n
      go false = every_at (fits false) (numbers_from 3 8) chains_fit at_n

  test_at : (i : ℕ) → i < length (tests closed n) → T (get_or (tests closed n) i true)
  test_at i h = every_at (λ test. test) (tests closed n) fit (at_in (tests closed n) i true h)

  closed_is : (site closed n).closed ≡ closed
  closed_is = same_bool_lem (site closed n).closed closed (test_at 3 (omega arith))

  ring_is_lem : (site closed n).ring ≡ numbers_from 2 n
  ring_is_lem = same_e (site closed n).ring (numbers_from 2 n) (test_at 4 (omega arith))

  size_is : m (site closed n) ≡ n
  size_is = ap length ring_is_lem ∙ numbers_length 2 n

  way_is : RingWay (site closed n) (way n)
  way_is = record {
    spans = eqb→eq (span (way n)) (m (site closed n) - 1) (test_at 6 (omega arith));
    keeps = test_at 7 (omega arith);
  }

  sound : Sound (block closed n) 0 1
  sound = record {
    opens = eqb→eq (open_answer (block closed n)) 0 (test_at 0 (omega arith));
    one = eqb→eq (first_refusal (edge_tests or_chains (site closed n) 0 1)) 0 (test_at 1 (omega arith));
  }

  found : Premises (block closed n) blank 0 1 (site closed n).closed (site closed n).ring
  found =
      premises_by (block closed n) blank 0 1 sound refl
      (length_passes (site closed n) (omega (arith, size_is)) (omega (arith, size_is)))
      (no_is (not_flat (site closed n)) (test_at 2 (omega arith)))
      (no_is (mixed (site closed n).removed) (test_at 9 (omega arith)))
      (no_is (mark_lost (site closed n)) (test_at 10 (omega arith)))
      (no_is (no_room (site closed n)) (test_at 5 (omega arith))) (way n) way_is

  -- the premises can be met by a ring, and by a flat chain, of each length
  pub each_length : Premises (block closed n) blank 0 1 closed (numbers_from 2 n)
  each_length = premises_with (block closed n) closed (numbers_from 2 n) found closed_is ring_is_lem

  -- and there is some better way
  pub some_better : NoneBetter (edge_at (fields_of (block closed n)) 0 1 closed (numbers_from 2 n)) → ⊥
  some_better none =
      let is = sited (block closed n) blank 0 1 closed (numbers_from 2 n) each_length.ringed in
      let cut-so = tree_way (site closed n) (omega (arith, size_is)) (way n) way_is in
      let (new, k, worse-one) = subst NoneBetter (sym is) none (triangles 1 (way n)) cut-so in
      T_not (better closed n new) worse-one
      (every_at (better closed n) (new_rows (site closed n) 1 (way n)) (test_at 8 (omega arith))
      (subst (Memᴰ new) (tree_rows (site closed n) (way n)) k))

  -- so a kernel that refuses all rings, or all flat chains, of this length fails the third demand, whatever else it does
  pub refuses_length : (k : Kernel)
      → ((block out : List ℕ) (e f : ℕ) (vs : List ℕ) → Premises block out e f closed vs → length vs ≡ n → removes k block out e f ≡ 0 → ⊥)
      → Demand3 k → ⊥
  refuses_length k refuses meets =
      let ring = numbers_from 2 n in
      refuses (block closed n) blank 0 1 ring each_length (numbers_length 2 n)
      ((meets (block closed n) blank 0 1 closed ring each_length).otherwise some_better)

same_self : (a : Bool) → T (same_bool a a)
same_self true = tt
same_self false = tt

has_length_lem : (closed : Bool) (n : ℕ) (block out : List ℕ) (e f : ℕ) (vs : List ℕ) → Ringed block out e f closed vs → length vs ≡ n
    → has_length closed n block e f ≡ true
unfolding has_length
has_length_lem closed n block out e f vs given size =
    rw (sited block out e f closed vs given)
    (yes_is (same_bool closed closed && eqb (length vs) n)
    (and_i (same_bool closed closed) (eqb (length vs) n) (same_self closed) (eq_test (length vs) n size)))

-- such a kernel is ours with one change: that it refuses every ring, or every chain, of one of the lengths
pub refuses_a_length : (closed : Bool) (n : ℕ) → 3 ≤ n → n ≤ 10 → (number : List ℕ → List ℕ → ℕ → ℕ → ℕ)
    → Demand3 (refusing_length closed n number) → ⊥
refuses_a_length closed n low high number =
    refuses_length closed n low high (refusing_length closed n number) (λ block out e f vs given size h.
    let no : suc (number block out e f) ≡ 0 = rw (has_length_lem closed n block out e f vs given.ringed size) at h in
    omega arith)
