-- What an accepted call leaves, for each call that writes, and how many rows there are then.
use Prim.Native.Nat.{ℕ, ◌+◌, ◌-◌, ◌≤◌, ◌<◌, min, max}
use mathlib.Core.Bool.{Bool, true, false, cond, ◌&&◌}
use mathlib.Core.List.Memᴰ
use mathlib.Core.List.{List, [], ◌∷◌, ◌++◌, Memᴰ}
use mathlib.Core.Path.{◌≡◌, refl, sym, ap, ◌∙◌, subst, fun_ext}
use native.Mathlib.Decide.{dec_lt}
use native.Mathlib.Omega.{arith}
use borrow.Author.Tests.{ltb-false}
use lib.ListN.{length}
use Rattle.lists.specs.Lists.{every}
use Rattle.lists.proofs.Tests.{and_true}
use Rattle.lists.proofs.Places.{in_cases}
use Rattle.rows.specs.declared.Row.{Row}
use Rattle.rows.specs.Rows.{version, holds, holds_edge, holds_face}
use Rattle.rows.specs.Regions.{mixed}
use Rattle.marking.specs.Marking.{new_mark}
use Rattle.layout.specs.Layout.{max_rows, fields_of, bytes_of}
use Rattle.block.proofs.RightBlocks.{right_block}
use Rattle.layout.proofs.PatchWritten.{rows_counted}
use Rattle.dressing.proofs.NewRowsDressed.{Plain}
use Rattle.ring.specs.Ring.{Site, site_of, m, min_ring, not_flat}
use Rattle.ring.proofs.EdgeGoesRound.{OneRound, tests_passed, site_goes_round}
use Rattle.triangulation.specs.Triangulation.{new_rows, table_after, rows_after}
use Rattle.triangulation.specs.Admissible.{admissible}
use Rattle.triangulation.specs.Best.{chosen}
use Rattle.triangulation.proofs.WholeRing.{BestWay, after_length, after_rows}
use Rattle.calls.specs.Removing.{no_way, mark_lost, rows_made, patch_after, remove_answer, remove_bytes, Sound}
use Rattle.calls.specs.Flipping.{Pair, pair_of, three_rows, three_made, patch_after23, rows_flipped, patch_flipped, flip_answer, flip_bytes}
use Rattle.calls.proofs.CallTests.{Flips23, removes, each_count, never_done, flips_32, flips_23}
use Rattle.calls.proofs.SoundEdges.{opens_rule, sound_site, ends_fit}
use Rattle.kept_marks.specs.Replacing.{MarksKept}
use Rattle.kept_marks.proofs.DressedRows.{dress_keeps, dress_total}
use Rattle.kept_marks.proofs.NewRowsPlain.{new_plain}
use Rattle.kept_marks.proofs.FlipMarks.{flip_marks}
use Rattle.kept_marks.proofs.RingMarks.{removal_marks}
use Rattle.tables.proofs.FacingRows.{Facing, face_apart, two_facing, facing_go, flipped_total}
use Rattle.tables.proofs.RingReplaced.{length_fits}
use Rattle.accepted.specs.Accepted.{Accepted}
use Rattle.accepted.proofs.AcceptedBytes.{accepted}
use Rattle.accepted.proofs.ChosenWay.{made_length, site_total, some_way, site_chosen}

-- new rows are written with the region of the rows that go, and without marks

three_plain : (pair : Pair) (face : List ℕ) (row : Row) → Memᴰ row (three_rows pair face) → Plain pair.removed row
unfolding three_rows
three_plain pair face row k =
    in_cases k (λ e. rw e (record { own_region = refl; unmarked = refl })) λ k.
    in_cases k (λ e. rw e (record { own_region = refl; unmarked = refl })) λ k.
    in_cases k (λ e. rw e (record { own_region = refl; unmarked = refl })) λ k. absurd (Memᴰ.not-nil k)

module _ (block : List ℕ) (e f : ℕ) (sound : Sound block e f) where
  abbrev site : Site
  site = site_of (fields_of block) e f

  -- ---- the rows afterwards

  -- the rows afterwards: as many as before, and m - 4, or for a chain m - 3
  pub rows_after_lem : 3 ≤ m site → rows_after site ≡ length (fields_of block).rows + m site - cond site.closed 4 3
  unfolding site_of
  rows_after_lem three = after_rows site (fields_of block).rows refl refl (sound_site block e f sound).size three

  -- a 3-2 flip always has room
  room_32 : site.closed ≡ true → m site ≡ min_ring → rows_after site ≤ max_rows
  room_32 closed three =
      omega (arith, rw closed at (rows_after_lem (omega arith)), rows_counted block, (right_block block sound.opens).body.few_rows)

  -- ---- what is written, where some way keeps the mesh rule and there is room

  round_one : OneRound site
  round_one = (tests_passed site e f sound.one).1

  site_marks : (three : 3 ≤ m site) → mark_lost site ≡ false → BestWay site (chosen site)
      → MarksKept (fields_of block).rows (site.kept ++ rows_made site)
  unfolding site_of
  site_marks three clear best =
      let patch = fields_of block in
      let count = length patch.points in
      let rule = opens_rule block sound.opens in
      removal_marks site (sound_site block e f sound) (site_goes_round count patch e f (ends_fit block e f sound).2 rule round_one) three
      (chosen site) best.way.spans patch.rows refl refl (right_block block sound.opens).body.agrees best.way.keeps clear

  site_accepted : not_flat site ≡ false → mixed site.removed ≡ false → mark_lost site ≡ false → 3 ≤ m site → no_way site ≡ false
      → rows_after site ≤ max_rows
      → Accepted block (bytes_of (version block) (patch_after site)) (holds_edge (min e f) (max e f)) (rows_made site)
  unfolding patch_after site_of table_after admissible
  site_accepted flat unmixed clear three way room =
      let (t, w) = some_way block e f sound three way in
      let best = site_chosen block e f sound three t w in
      let points = (fields_of block).points in
      let new = new_rows site 1 (chosen site) in
      let marked = new_mark site.removed site.kept in
      accepted block sound.opens (holds_edge (min e f) (max e f)) new (new_plain site 1 (chosen site))
      (omega (arith, made_length site, after_length site (chosen site) best.way.spans))
      (rw (dress_keeps marked (length points) site.kept new) best.way.keeps) (site_marks three clear best)
      (dress_total marked points site.kept new ∙ site_total block e f sound flat (chosen site) best.way.spans) unmixed

-- ---- the calls

pub remove_accepted : (block out : List ℕ) (e f : ℕ) → remove_answer block out e f ≡ 0
    → let site = site_of (fields_of block) e f in
    Accepted block (remove_bytes block out e f) (holds_edge (min e f) (max e f)) (rows_made site)
unfolding remove_bytes
remove_accepted block out e f h =
    let r = removes block out e f h in
    let site = site_of (fields_of block) e f in
    rw h (site_accepted block e f r.sound r.closed_or_flat r.one_region r.marks_stay (length_fits site r.length_right).0
    r.way (ltb-false max_rows (rows_after site) r.room))

pub flip32_accepted : (block out : List ℕ) (e f : ℕ) → flip_answer block out (e ∷ f ∷ []) ≡ 0
    → let site = site_of (fields_of block) e f in
    Accepted block (flip_bytes block out (e ∷ f ∷ [])) (holds_edge (min e f) (max e f)) (rows_made site)
unfolding flip_bytes patch_flipped
flip32_accepted block out e f h =
    let r = flips_32 block out e f h in
    rw h (site_accepted block e f r.sound (rw r.closed) r.one_region r.marks_stay (omega (arith, r.three)) r.way
    (room_32 block e f r.sound r.closed r.three))

-- the two rows of a 2-3 flip that is not refused
pub flips_facing : (block out : List ℕ) (x y z : ℕ) → Flips23 block out x y z
    → Facing (length (fields_of block).points) (pair_of (fields_of block) (x ∷ y ∷ z ∷ [])) (x ∷ y ∷ z ∷ [])
flips_facing block out x y z r =
    let count = length (fields_of block).points in
    two_facing count (fields_of block) (x ∷ y ∷ z ∷ []) refl (face_apart count (x ∷ y ∷ z ∷ []) r.numbers) (opens_rule block r.opens)
    r.some_row r.no_single r.apart

pub flip23_accepted : (block out : List ℕ) (x y z : ℕ) → flip_answer block out (x ∷ y ∷ z ∷ []) ≡ 0
    → let face = x ∷ y ∷ z ∷ [] in
    Accepted block (flip_bytes block out (x ∷ y ∷ z ∷ [])) (holds_face face) (three_made (pair_of (fields_of block) face) face)
unfolding flip_bytes patch_flipped patch_after23 pair_of
flip23_accepted block out x y z h =
    let r = flips_23 block out x y z h in
    let face : List ℕ = x ∷ y ∷ z ∷ [] in
    let patch = fields_of block in
    let pair = pair_of patch face in
    let facing = flips_facing block out x y z r in
    rw h
    (accepted block r.opens (holds_face face) (three_rows pair face) (three_plain pair face) r.room r.rule
    (flip_marks (length patch.points) patch face (opens_rule block r.opens) (facing_go facing)
    (right_block block r.opens).body.agrees r.rule r.marks_stay)
    (flipped_total patch face facing) r.one_region)

-- ---- the flip, whichever it is

-- what does not go by the order of two numbers has the same value for the two in order
pub in_order_lem : {A : Type 0} (g : ℕ → ℕ → A) → ((m n : ℕ) → g m n ≡ g n m) → (a b : ℕ) → g (min a b) (max a b) ≡ g a b
in_order_lem g swap a b = go (dec_lt b a)
  where
    go : Dec (b < a) → g (min a b) (max a b) ≡ g a b
    go (yes h) =
        let low : min a b ≡ b = omega arith in
        let high : max a b ≡ a = omega arith in
        rw (low, high) (swap b a)
    go (no h) =
        let low : min a b ≡ a = omega arith in
        let high : max a b ≡ b = omega arith in
        rw (low, high)

-- a row holds the edge, whichever end is named first
pub edge_swap : (m n : ℕ) → holds_edge m n ≡ holds_edge n m
edge_swap m n = fun_ext (λ row. and_swap (holds row m) (holds row n))
  where
    and_swap : (p q : Bool) → p && q ≡ q && p
    and_swap true true = refl
    and_swap true false = refl
    and_swap false true = refl
    and_swap false false = refl

-- a row holds the edge where it holds both numbers
pub ends_held : (e f : ℕ) → holds_edge (min e f) (max e f) ≡ holds_face (e ∷ f ∷ [])
unfolding every
ends_held e f = in_order_lem holds_edge edge_swap e f ∙ fun_ext (λ row. ap (λ b. holds row e && b) (sym (and_true (holds row f))))

-- the rows that hold all of its numbers go
pub flip_accepted : (block out numbers : List ℕ) → flip_answer block out numbers ≡ 0
    → Accepted block (flip_bytes block out numbers) (holds_face numbers) (rows_flipped (fields_of block) numbers)
unfolding rows_flipped
flip_accepted block out =
    each_count
    (λ numbers. flip_answer block out numbers ≡ 0
    → Accepted block (flip_bytes block out numbers) (holds_face numbers) (rows_flipped (fields_of block) numbers))
    (λ e f h.
    subst (λ goes. Accepted block (flip_bytes block out (e ∷ f ∷ [])) goes (rows_flipped (fields_of block) (e ∷ f ∷ []))) (ends_held e f)
    (flip32_accepted block out e f h))
    (flip23_accepted block out)
    (λ numbers two three h. absurd (never_done block out numbers two three h))
