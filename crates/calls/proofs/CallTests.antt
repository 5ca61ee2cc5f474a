-- The tests of the calls, by their numbers: what answer 0 says of each, and what those of a block and an edge leave.
use Prim.Native.Nat.{ℕ, ◌≤◌}
use mathlib.Core.Bool.{Bool, true, false, cond, not, ◌||◌}
use mathlib.Core.List.{List, [], ◌∷◌, ◌++◌, append_assoc}
use mathlib.Core.Path.{◌≡◌, refl, sym, ap, ◌∙◌, subst}
use native.Mathlib.Omega.{arith}
use borrow.Author.Tests.{eqb-true, eqb-false, eq-eqb, ltb-false, not-false}
use lib.Dec.{T, eqb}
use lib.ListN.{length}
use Rattle.std.specs.Prelude.{Result, Ok, Err}
use Rattle.lists.specs.Lists.{every}
use Rattle.lists.proofs.Tests.{is_yes, neither_is, or_true, or_false}
use Rattle.rows.specs.Regions.{mixed}
use Rattle.mesh.specs.Mesh.{keeps_mesh_rule}
use Rattle.answers.specs.declared.Refusal.{Refusal}
use Rattle.marking.specs.Marking.{mark_goes}
use Rattle.layout.specs.Layout.{Patch, block_bytes, max_rows, fields_of}
use Rattle.answers.specs.Answers.{Tests, first_refusal, gives, answer_of}
use Rattle.block.specs.Opening.{not_block, open_answer}
use Rattle.body.specs.Body.{body_tests}
use Rattle.answers.proofs.Refusals.{goes_on, refuses, given_done, passed_on}
use Rattle.answers.proofs.ByNumber.{unlike, test_of, passes, both_passed, front_passed}
use Rattle.ring.specs.Ring.{Site, site_of, m, min_ring, numbers_wrong, rings_alone, or_chains, link_open, length_wrong, not_flat, edge_tests}
use Rattle.ring.proofs.EdgeGoesRound.{closed_passed}
use Rattle.calls.specs.Removing.{block_tests, no_room, no_way, none_better, remove_answer, Sound, mark_lost}
use Rattle.calls.specs.Removing.{removal_tests}
use Rattle.calls.specs.Flipping.{flip32_tests, pair_of, patch_after23, flip23_tests, flip_tests, flip_answer}

-- ---- the block and the edge

block_numbered : (block out : List ℕ) → T (unlike 0 (block_tests block out))
unfolding block_tests body_tests every
block_numbered block out = tt

front_numbered : (chains : Bool) (block out : List ℕ) (site : Site) (e f : ℕ)
    → T (unlike 0 (block_tests block out ++ edge_tests chains site e f))
unfolding block_tests body_tests edge_tests every
front_numbered chains block out site e f = tt

-- with an output block they are the answers of opening
pub out_opened : (block out : List ℕ) → length out ≡ block_bytes → first_refusal (block_tests block out) ≡ open_answer block
unfolding block_tests first_refusal open_answer
out_opened block out size = rw (eq-eqb (length out) block_bytes size, or_false (not_block block))

-- answers 1 to 8 are not given exactly when the block opens and the output is a block
block_passed : (block out : List ℕ) → first_refusal (block_tests block out) ≡ 0 → (open_answer block ≡ 0) × (length out ≡ block_bytes)
unfolding block_tests test_of
block_passed block out e =
    let (own, other) = neither_is (not_block block) (not_block out) (passes 1 (block_tests block out) (block_numbered block out) e) in
    let size-out = eqb-true (length out) block_bytes (not-false (eqb (length out) block_bytes) other) in
    (sym (out_opened block out size-out) ∙ e, size-out)

passed_block : (block out : List ℕ) → open_answer block ≡ 0 → length out ≡ block_bytes → first_refusal (block_tests block out) ≡ 0
passed_block block out opens size = out_opened block out size ∙ opens

-- of a block that opens, only the length of the output is tested
pub block_opened : (block out : List ℕ) (rest : Tests) → open_answer block ≡ 0
    → first_refusal (block_tests block out ++ rest) ≡ first_refusal ((1, not_block out) ∷ rest)
unfolding block_tests
block_opened block out rest opens = go (eqb (length out) block_bytes) refl
  where
    go : (b : Bool) → eqb (length out) block_bytes ≡ b
        → first_refusal (block_tests block out ++ rest) ≡ first_refusal ((1, not_block out) ∷ rest)
    go true e =
        front_passed (block_tests block out) rest (block_numbered block out)
        (passed_block block out opens (eqb-true (length out) block_bytes e))
        ∙ sym (goes_on 1 (not_block out) rest (ap not e))
    go false e =
        refuses 1 (not_block block || not_block out) _ (ap (λ b. not_block block || not b) e ∙ or_true (not_block block))
        ∙ sym (refuses 1 (not_block out) rest (ap not e))

-- behind them, in a block that opens, with an output block
pub block_left : (block out : List ℕ) (rest : Tests) → open_answer block ≡ 0 → length out ≡ block_bytes
    → first_refusal (block_tests block out ++ rest) ≡ first_refusal rest
block_left block out rest opens size = front_passed (block_tests block out) rest (block_numbered block out) (passed_block block out opens size)

-- a refusal stands, whatever is tested behind it
pub front_refuses : (xs ys : Tests) → (first_refusal xs ≡ 0 → ⊥) → first_refusal (xs ++ ys) ≡ first_refusal xs
unfolding first_refusal
front_refuses [] ys h = absurd (h refl)
front_refuses ((n, b) ∷ xs) ys h = go b h (front_refuses xs ys)
  where
    go : (b : Bool) → (cond b n (first_refusal xs) ≡ 0 → ⊥) → ((first_refusal xs ≡ 0 → ⊥) → first_refusal (xs ++ ys) ≡ first_refusal xs)
        → cond b n (first_refusal (xs ++ ys)) ≡ cond b n (first_refusal xs)
    go true h f = refl
    go false h f = f h

-- both, as an answer tells them
module _ (block out : List ℕ) where
  abbrev blocks : Result (Unit {0}) Refusal
  blocks = answer_of (first_refusal (block_tests block out))

  pub opened : {done : Unit {0}} → blocks ≡ Ok done → (open_answer block ≡ 0) × (length out ≡ block_bytes)
  opened {done} e = block_passed block out (given_done (first_refusal (block_tests block out)) tt done e)

  pub blocked : {refusal : Refusal} → blocks ≡ Err refusal → (rest : Tests) → {A : Type 0} (x : A)
      → Err refusal ≡ gives (first_refusal (block_tests block out ++ rest)) x
  blocked e rest x = passed_on (first_refusal (block_tests block out)) _ tt x e (front_refuses (block_tests block out) rest)

-- where the links close, every call has the same tests of the edge
pub closed_tests : (chains : Bool) (site : Site) (e f : ℕ) → site.closed ≡ true → edge_tests chains site e f ≡ edge_tests or_chains site e f
unfolding edge_tests link_open
closed_tests chains site e f closed = rw closed

-- a call that takes rings alone has a closed one
pub taken : (chains : Bool) (site : Site) (e f : ℕ) → first_refusal (edge_tests chains site e f) ≡ 0
    → (first_refusal (edge_tests or_chains site e f) ≡ 0) × (chains ≡ rings_alone → site.closed ≡ true)
taken true site e f h = (h, λ q. absurd (subst T q tt))
taken false site e f h = let (closed, one) = closed_passed site e f h in (one, λ q. closed)

-- what is left to test behind them, by what the call takes
module _ (chains : Bool) (block out : List ℕ) (e f : ℕ) (rest : Tests) where
  abbrev edge : Tests
  edge = edge_tests chains (site_of (fields_of block) e f) e f

  pub reached : (n : ℕ) → T (unlike n (block_tests block out ++ edge)) → first_refusal (block_tests block out ++ edge ++ rest) ≡ n
      → Sound block e f × (length out ≡ block_bytes) × (first_refusal rest ≡ n)
      × (chains ≡ rings_alone → (site_of (fields_of block) e f).closed ≡ true)
  reached n other h =
      let (front, last) = both_passed n (block_tests block out ++ edge) rest other h in
      let (a, b) = both_passed 0 (block_tests block out) edge (block_numbered block out) front in
      let (opens, size) = block_passed block out a in
      let (one, closed) = taken chains (site_of (fields_of block) e f) e f b in
      (record { opens = opens; one = one }, size, last, closed)

  left : open_answer block ≡ 0 → first_refusal edge ≡ 0 → length out ≡ block_bytes
      → first_refusal (block_tests block out ++ edge ++ rest) ≡ first_refusal rest
  left opens one size =
      let front : first_refusal (block_tests block out ++ edge) ≡ 0 =
      front_passed (block_tests block out) edge (block_numbered block out) (passed_block block out opens size) ∙ one in
      front_passed (block_tests block out ++ edge) rest (front_numbered chains block out _ e f) front

-- ---- the removal

-- What answer 0 of a removal says.
pub record Removes (block out : List ℕ) (e f : ℕ) : Type 0 where
  pub sound : Sound block e f
  pub size : length out ≡ block_bytes
  pub length_right : length_wrong (site_of (fields_of block) e f) ≡ false
  pub closed_or_flat : not_flat (site_of (fields_of block) e f) ≡ false
  pub one_region : mixed (site_of (fields_of block) e f).removed ≡ false
  pub marks_stay : mark_lost (site_of (fields_of block) e f) ≡ false
  pub room : no_room (site_of (fields_of block) e f) ≡ false
  pub way : no_way (site_of (fields_of block) e f) ≡ false
  pub better : none_better (site_of (fields_of block) e f) ≡ false

pub removes : (block out : List ℕ) (e f : ℕ) → remove_answer block out e f ≡ 0 → Removes block out e f
unfolding remove_answer removal_tests test_of every
removes block out e f h =
    let site = site_of (fields_of block) e f in
    let tests = removal_tests site in
    let (sound, size, rest, closed) = reached or_chains block out e f tests 0 (front_numbered or_chains block out site e f) h in
    record {
      sound = sound;
      size = size;
      length_right = passes 13 tests tt rest;
      closed_or_flat = passes 19 tests tt rest;
      one_region = passes 20 tests tt rest;
      marks_stay = passes 23 tests tt rest;
      room = passes 14 tests tt rest;
      way = passes 15 tests tt rest;
      better = passes 16 tests tt rest;
    }

-- behind a sound edge and an output of the right length the answers 13 to 16, 19, 20 and 23 are left
pub remove_left : (block out : List ℕ) (e f : ℕ) → Sound block e f → length out ≡ block_bytes
    → remove_answer block out e f ≡ first_refusal (removal_tests (site_of (fields_of block) e f))
unfolding remove_answer
remove_left block out e f sound size = left or_chains block out e f _ sound.opens sound.one size

-- ---- the flip

-- what is so with two numbers, with three and with any other count is always so
pub each_count : (P : List ℕ → Type 0) → ((e f : ℕ) → P (e ∷ f ∷ [])) → ((x y z : ℕ) → P (x ∷ y ∷ z ∷ []))
    → ((numbers : List ℕ) → (length numbers ≡ 2 → ⊥) → (length numbers ≡ 3 → ⊥) → P numbers) → (numbers : List ℕ) → P numbers
each_count P two three other [] = other [] (λ e. omega arith) (λ e. omega arith)
each_count P two three other (x ∷ []) = other (x ∷ []) (λ e. omega arith) (λ e. omega arith)
each_count P two three other (x ∷ y ∷ []) = two x y
each_count P two three other (x ∷ y ∷ z ∷ []) = three x y z
each_count P two three other (x ∷ y ∷ z ∷ w ∷ more) = other (x ∷ y ∷ z ∷ w ∷ more) (λ e. omega arith) (λ e. omega arith)

-- what is left of it behind the block's own answers
pub flip_left : (block out numbers : List ℕ) → open_answer block ≡ 0 → length out ≡ block_bytes
    → flip_answer block out numbers ≡ first_refusal (flip_tests (fields_of block) numbers)
unfolding flip_answer
flip_left block out numbers opens size = block_left block out (flip_tests (fields_of block) numbers) opens size

-- 21 is left where neither two numbers nor three are given
pub miscounted : (patch : Patch) (numbers : List ℕ) → (length numbers ≡ 2 → ⊥) → (length numbers ≡ 3 → ⊥)
    → flip_tests patch numbers ≡ (21, true) ∷ []
unfolding flip_tests
miscounted patch [] two three = refl
miscounted patch (x ∷ []) two three = refl
miscounted patch (x ∷ y ∷ []) two three = absurd (two refl)
miscounted patch (x ∷ y ∷ z ∷ []) two three = absurd (three refl)
miscounted patch (x ∷ y ∷ z ∷ w ∷ more) two three = refl

-- so it is not done
pub never_done : (block out numbers : List ℕ) → (length numbers ≡ 2 → ⊥) → (length numbers ≡ 3 → ⊥) → flip_answer block out numbers ≡ 0 → ⊥
unfolding flip_answer first_refusal
never_done block out numbers two three h =
    let rest = (both_passed 0 (block_tests block out) (flip_tests (fields_of block) numbers) (block_numbered block out) h).1 in
    omega (arith, rw (miscounted (fields_of block) numbers two three) at rest)

-- with two numbers: the block, the edge, then the flip's own, as of every call on an edge
pub flip_two : (block out : List ℕ) (e f : ℕ)
    → let site = site_of (fields_of block) e f in
    flip_answer block out (e ∷ f ∷ []) ≡ first_refusal (block_tests block out ++ edge_tests rings_alone site e f ++ flip32_tests site)
unfolding flip_answer flip_tests
flip_two block out e f =
    let site = site_of (fields_of block) e f in
    sym (ap first_refusal (append_assoc (block_tests block out) (edge_tests rings_alone site e f) (flip32_tests site)))

-- What answer 0 of a 3-2 flip says.
pub record Flips32 (block out : List ℕ) (e f : ℕ) : Type 0 where
  pub sound : Sound block e f
  pub closed : (site_of (fields_of block) e f).closed ≡ true
  pub size : length out ≡ block_bytes
  pub three : m (site_of (fields_of block) e f) ≡ min_ring
  pub one_region : mixed (site_of (fields_of block) e f).removed ≡ false
  pub marks_stay : mark_lost (site_of (fields_of block) e f) ≡ false
  pub way : no_way (site_of (fields_of block) e f) ≡ false

pub flips_32 : (block out : List ℕ) (e f : ℕ) → flip_answer block out (e ∷ f ∷ []) ≡ 0 → Flips32 block out e f
unfolding flip32_tests test_of every
flips_32 block out e f h =
    let site = site_of (fields_of block) e f in
    let tests = flip32_tests site in
    let (sound, size, rest, closed) = reached rings_alone block out e f tests 0 (front_numbered rings_alone block out site e f)
    (sym (flip_two block out e f) ∙ h) in
    record {
      sound = sound;
      closed = closed refl;
      size = size;
      three = eqb-true (m site) min_ring (not-false (eqb (m site) min_ring) (passes 13 tests tt rest));
      one_region = passes 20 tests tt rest;
      marks_stay = passes 23 tests tt rest;
      way = passes 15 tests tt rest;
    }

pub flip32_left : (block out : List ℕ) (e f : ℕ) → Sound block e f → (site_of (fields_of block) e f).closed ≡ true
    → length out ≡ block_bytes
    → flip_answer block out (e ∷ f ∷ []) ≡ first_refusal (flip32_tests (site_of (fields_of block) e f))
flip32_left block out e f sound closed size =
    flip_two block out e f
    ∙ left rings_alone block out e f _ sound.opens
    (ap first_refusal (closed_tests rings_alone (site_of (fields_of block) e f) e f closed) ∙ sound.one) size

pub flip23_left : (block out : List ℕ) (x y z : ℕ) → open_answer block ≡ 0 → length out ≡ block_bytes
    → flip_answer block out (x ∷ y ∷ z ∷ []) ≡ first_refusal (flip23_tests (fields_of block) (x ∷ y ∷ z ∷ []))
unfolding flip_tests
flip23_left block out x y z opens size = flip_left block out (x ∷ y ∷ z ∷ []) opens size

-- What answer 0 of a 2-3 flip says.
pub record Flips23 (block out : List ℕ) (x y z : ℕ) : Type 0 where
  pub opens : open_answer block ≡ 0
  pub size : length out ≡ block_bytes
  pub numbers : numbers_wrong (length (fields_of block).points) (x ∷ y ∷ z ∷ []) ≡ false
  pub some_row : length (pair_of (fields_of block) (x ∷ y ∷ z ∷ [])).removed ≡ 0 → ⊥
  pub no_single : length (pair_of (fields_of block) (x ∷ y ∷ z ∷ [])).removed ≡ 1 → ⊥
  pub apart : (pair_of (fields_of block) (x ∷ y ∷ z ∷ [])).a ≡ (pair_of (fields_of block) (x ∷ y ∷ z ∷ [])).b → ⊥
  pub one_region : mixed (pair_of (fields_of block) (x ∷ y ∷ z ∷ [])).removed ≡ false
  pub marks_stay : mark_goes (x ∷ y ∷ z ∷ []) (pair_of (fields_of block) (x ∷ y ∷ z ∷ [])).removed ≡ false
  pub room : length (patch_after23 (fields_of block) (x ∷ y ∷ z ∷ [])).rows ≤ max_rows
  pub rule : T (keeps_mesh_rule (length (fields_of block).points) (patch_after23 (fields_of block) (x ∷ y ∷ z ∷ [])).rows)

pub flips_23 : (block out : List ℕ) (x y z : ℕ) → flip_answer block out (x ∷ y ∷ z ∷ []) ≡ 0 → Flips23 block out x y z
unfolding flip_answer flip_tests flip23_tests test_of every
flips_23 block out x y z h =
    let face : List ℕ = x ∷ y ∷ z ∷ [] in
    let patch = fields_of block in
    let count = length patch.points in
    let pair = pair_of patch face in
    let rows = (patch_after23 patch face).rows in
    let tests = flip23_tests patch face in
    let (front, rest) = both_passed 0 (block_tests block out) tests (block_numbered block out) h in
    let (opens, size) = block_passed block out front in
    record {
      opens = opens;
      size = size;
      numbers = passes 9 tests tt rest;
      some_row = eqb-false (length pair.removed) 0 (passes 10 tests tt rest);
      no_single = eqb-false (length pair.removed) 1 (passes 11 tests tt rest);
      apart = eqb-false pair.a pair.b (passes 18 tests tt rest);
      one_region = passes 20 tests tt rest;
      marks_stay = passes 23 tests tt rest;
      room = ltb-false max_rows (length rows) (passes 14 tests tt rest);
      rule = is_yes (keeps_mesh_rule count rows) (not-false (keeps_mesh_rule count rows) (passes 15 tests tt rest));
    }
