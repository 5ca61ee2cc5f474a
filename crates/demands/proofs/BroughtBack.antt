-- A 3-2 flip after a 2-3 flip is done and brings back the same two tetrahedra, whichever way round the apexes are named.
use Prim.Native.Nat.{ℕ}
use mathlib.Core.Bool.{true, false, not}
use mathlib.Core.List.{List, [], ◌∷◌, ◌++◌}
use mathlib.Core.Path.{◌≡◌, sym, ap, ◌∙◌, subst}
use native.Mathlib.Omega.{arith}
use borrow.Author.Tests.{eq-eqb}
use lib.Dec.{T}
use lib.ListN.{length}
use Rattle.lists.specs.Lists.{any}
use Rattle.rows.specs.declared.Row.{Row}
use Rattle.rows.specs.Rows.{holds_edge}
use Rattle.rows.specs.Regions.{mixed, OneRegion}
use Rattle.rows.proofs.RegionsOfRows.{one_region, not_mixed}
use Rattle.rows.specs.Tetrahedra.{SameTetrahedra}
use Rattle.marking.specs.Marking.{agree, dressed}
use Rattle.layout.specs.Layout.{Patch, block_bytes, fields_of}
use Rattle.answers.specs.Answers.{first_refusal}
use Rattle.answers.proofs.Refusals.{number_of_lem}
use Rattle.block.proofs.RightBlocks.{right_block, opens}
use Rattle.ring.specs.Ring.{Site, site_of, m}
use Rattle.triangulation.specs.Triangulation.{Tri, side, cut, new_rows}
use Rattle.triangulation.proofs.WholeRing.{RingWay}
use Rattle.calls.specs.Removing.{mark_lost, Sound}
use Rattle.calls.specs.Flipping.{flip32_tests, Pair, pair_of, patch_after23, flip_answer, flip_bytes}
use Rattle.calls.proofs.CallTests.{flips_23, flip32_left, Flips23}
use Rattle.calls.proofs.SoundEdges.{opens_rule, sound_site}
use Rattle.tables.specs.FlipRows.{KeepsRule}
use Rattle.tables.proofs.FacingRows.{Facing}
use Rattle.tables.proofs.ApexesByWords.{TwoApexes, two_apexes}
use Rattle.tables.proofs.RingOfThree.{three_chosen}
use Rattle.tables.proofs.RingReplaced.{way_there}
use Rattle.tables.proofs.FlippedBack.{back_passes, back_closed, back_three, back_one, back_unmarked, back_table, back_way}
use Rattle.accepted.proofs.AcceptedBytes.{patch_is}
use Rattle.accepted.proofs.AcceptedCalls.{flips_facing, flip23_accepted, flip32_accepted, in_order_lem, edge_swap}
use Rattle.demands.specs.Kernels.{ours}
use Rattle.demands.specs.Orders.{Flipped, BroughtBack}
use Rattle.demands.proofs.EitherOrder.{ends_answer_swap, ends_bytes_swap}

-- ---- the two flips

module _ (block out other : List ℕ) (x y z : ℕ) (done : flip_answer block out (x ∷ y ∷ z ∷ []) ≡ 0) (size : length other ≡ block_bytes) where
  abbrev face : List ℕ
  face = x ∷ y ∷ z ∷ []

  abbrev patch : Patch
  patch = fields_of block

  abbrev pair : Pair
  pair = pair_of patch face

  -- the block between the two flips
  abbrev between : List ℕ
  between = flip_bytes block out (x ∷ y ∷ z ∷ [])

  flipped : Flips23 block out x y z
  flipped = flips_23 block out x y z done

  f : Facing (length patch.points) pair face
  f = flips_facing block out x y z flipped

  rule : KeepsRule patch patch.rows
  rule = opens_rule block flipped.opens

  agrees : T (agree patch.rows)
  agrees = (right_block block flipped.opens).body.agrees

  fields_between : fields_of between ≡ patch_after23 patch face
  unfolding patch_after23 pair_of
  fields_between = let made = flip23_accepted block out x y z done in patch_is (fields_of between) made.points made.rows

  module _ (no_row : T (not (any (holds_edge pair.a pair.b) patch.rows))) where
    abbrev site : Site
    site = site_of (fields_of between) pair.a pair.b

    sound : Sound between pair.a pair.b
    sound = record {
      opens = opens between (flip23_accepted block out x y z done).right;
      one = rw fields_between (back_passes patch face f rule flipped.rule no_row);
    }

    closed : site.closed ≡ true
    closed = rw fields_between (back_closed patch face f rule flipped.rule no_row)

    three : m site ≡ 3
    three = rw fields_between (back_three patch face f rule flipped.rule no_row)

    -- its three rows have the region of the two
    unmixed : mixed site.removed ≡ false
    unmixed = rw fields_between (not_mixed _ (back_one patch face f rule flipped.rule no_row))

    one : OneRegion pair.removed
    one = one_region pair.removed flipped.one_region

    the_way : RingWay site (cut side side)
    the_way = rw fields_between (back_way patch face f rule flipped.rule no_row agrees flipped.marks_stay one)

    -- and mark no face that goes
    unmarked : mark_lost site ≡ false
    unmarked = rw fields_between (back_unmarked patch face f rule flipped.rule no_row agrees flipped.marks_stay)

    -- answer 0
    back_answer : flip_answer between other (pair.a ∷ pair.b ∷ []) ≡ 0
    unfolding flip32_tests first_refusal
    back_answer =
        flip32_left between other pair.a pair.b sound closed size
        ∙ rw (eq-eqb (m site) 3 three, unmixed, unmarked, way_there site (omega (arith, three)) (cut side side) the_way)

    -- and the same tetrahedra
    back_rows : SameTetrahedra (fields_of (flip_bytes between other (pair.a ∷ pair.b ∷ []))).rows patch.rows
    unfolding site_of
    back_rows =
        let made = flip32_accepted between other pair.a pair.b back_answer in
        let only = three_chosen site (sound_site between pair.a pair.b sound) three (cut side side) the_way in
        let table : Tri → List Row = λ t. site.kept ++ dressed site.removed site.kept (new_rows site 1 t) in
        subst (λ rows. SameTetrahedra rows patch.rows) (sym (made.rows ∙ ap table only))
        (rw fields_between (back_table patch face f rule flipped.rule no_row agrees flipped.marks_stay one))

-- ---- the apexes by words, in either order

edge_either : (rows : List Row) (m n : ℕ) → any (holds_edge m n) rows ≡ any (holds_edge n m) rows
edge_either rows m n = ap (λ held. any held rows) (edge_swap m n)

module _ (block out other : List ℕ) (x y z a b : ℕ) (given : Flipped ours block out other x y z a b) where
  abbrev its : Pair
  its = pair_of (fields_of block) (x ∷ y ∷ z ∷ [])

  was_done : flip_answer block out (x ∷ y ∷ z ∷ []) ≡ 0
  unfolding ours
  was_done = sym (number_of_lem _ tt) ∙ given.done

  apexes : TwoApexes (fields_of block) (x ∷ y ∷ z ∷ []) a b
  apexes = two_apexes (fields_of block) x y z a b (opens_rule block (flips_23 block out x y z was_done).opens) given.apexes

  -- by the apexes that the flip finds, or by the two given
  by_words : {A : Type 0} (g : ℕ → ℕ → A) → ((m n : ℕ) → g m n ≡ g n m) → g its.a its.b ≡ g a b
  by_words g swap = rw (apexes.low, apexes.high) (in_order_lem g swap a b)

  none_held : T (not (any (holds_edge its.a its.b) (fields_of block).rows))
  none_held = rw (by_words (λ m n. any (holds_edge m n) (fields_of block).rows) (edge_either (fields_of block).rows)) given.none_held

  given_answer : flip_answer (flip_bytes block out (x ∷ y ∷ z ∷ [])) other (a ∷ b ∷ []) ≡ 0
  given_answer =
      let between = flip_bytes block out (x ∷ y ∷ z ∷ []) in
      sym (by_words (λ m n. flip_answer between other (m ∷ n ∷ [])) (ends_answer_swap between other))
      ∙ back_answer block out other x y z was_done given.right_length none_held

  given_rows : SameTetrahedra (fields_of (flip_bytes (flip_bytes block out (x ∷ y ∷ z ∷ [])) other (a ∷ b ∷ []))).rows (fields_of block).rows
  given_rows =
      let between = flip_bytes block out (x ∷ y ∷ z ∷ []) in
      subst (λ bytes. SameTetrahedra (fields_of bytes).rows (fields_of block).rows)
      (by_words (λ m n. flip_bytes between other (m ∷ n ∷ [])) (ends_bytes_swap between other))
      (back_rows block out other x y z was_done given.right_length none_held)

pub brought_back : BroughtBack ours
unfolding ours
brought_back block out other x y z a b given =
    (number_of_lem _ tt ∙ given_answer block out other x y z a b given, given_rows block out other x y z a b given)
