-- Demand 2: what opening and the summary give, the layout there and back, and what each call that is done leaves.
use Prim.Native.Nat.{ℕ, ◌+◌, ◌-◌, ◌*◌, ◌<◌, min, max}
use mathlib.Core.Bool.{true, ◌||◌}
use mathlib.Core.List.{List, [], ◌∷◌, map}
use mathlib.Core.Path.{◌≡◌, sym, ap, ◌∙◌, subst}
use native.Mathlib.Omega.{arith}
use borrow.Author.Tests.{eqb-true, eq-eqb, not-false}
use lib.Ieee.{Float}
use lib.ListN.{length, get_or, drop, get_or-append}
use lib.Seq.{get_or-take}
use Rattle.std.specs.Prelude.{Result, Ok}
use Rattle.lists.specs.Lists.{every, numbers_from}
use Rattle.lists.proofs.Tests.{neither_is}
use Rattle.lists.proofs.Images.{map_same}
use Rattle.lists.proofs.Numbers.{numbers_e}
use Rattle.rows.specs.Rows.{version, rows_at, row_size, stored_row, row_in, rows_in, holds_edge, holds_face}
use Rattle.rows.proofs.RegionsOfRows.{one_region}
use Rattle.marking.specs.Marking.{dressed}
use Rattle.layout.specs.Layout.{block_bytes, body_bytes, max_rows, row_count, table_of, open_fields, fields_of, body_of, sum_bytes}
use Rattle.layout.specs.declared.Fields.{Fields}
use Rattle.answers.specs.declared.Refusal.{Refusal}
use Rattle.body.specs.Body.{RightBody}
use Rattle.block.specs.Holding.{RightBlock}
use Rattle.body.specs.Body.{body_tests}
use Rattle.block.specs.Opening.{not_block, not_body, open_gives, seal_answer, seal_bytes}
use Rattle.answers.specs.Answers.{answer_of}
use Rattle.answers.proofs.Refusals.{goes_on, number_of_lem}
use Rattle.block.proofs.OpenedAndSealed.{open_fields_lem}
use Rattle.answers.proofs.ByNumber.{test_of, passes}
use Rattle.body.proofs.RightBodies.{body_passes}
use Rattle.block.proofs.RightBlocks.{right_block, opens}
use Rattle.layout.proofs.PatchWritten.{version_at, read_written}
use Rattle.block.proofs.RoundTrip.{written_read, opens_written, seal_right, seal_opens}
use Rattle.display.specs.Display.{shown_answer, shown_of, shown_elements}
use Rattle.display.proofs.ShownRows.{shown_taken, shown_opens, shown_writes}
use Rattle.ring.specs.Ring.{Site, site_of}
use Rattle.triangulation.specs.Triangulation.{new_rows}
use Rattle.calls.specs.Removing.{remove_answer, remove_gives, remove_bytes}
use Rattle.calls.specs.Flipping.{pair_of, patch_after23, flip_answer, flip_bytes}
use Rattle.calls.proofs.CallTests.{each_count, never_done, flips_32, flips_23}
use Rattle.calls.proofs.NumbersRead.{three_read}
use Rattle.calls.proofs.SoundEdges.{sound_site}
use Rattle.tables.specs.RoundAnEdge.{Round}
use Rattle.tables.specs.FlipRows.{made23}
use Rattle.tables.proofs.RingReplaced.{way_found}
use Rattle.tables.proofs.FacingRows.{face_apart}
use Rattle.tables.proofs.RingOfThree.{across, three_chosen}
use Rattle.tables.proofs.ApexesByWords.{apexes_found, two_apexes, one_more}
use Rattle.tables.proofs.ThreeRowsByWords.{reads_so, new_is}
use Rattle.accepted.specs.Accepted.{Accepted}
use Rattle.accepted.proofs.CallsNumbered.{open_number, summary_number_fact, remove_number}
use Rattle.accepted.proofs.AcceptedCalls.{remove_accepted, flip32_accepted, flips_facing, flip23_accepted}
use Rattle.accepted.proofs.AfterRemoval.{page_given}
use Rattle.demands.specs.Kernels.{Answer, ours, as_patch}
use Rattle.demands.specs.FlipWords.{Faced}
use Rattle.demands.specs.Demands.{Sealed, RemovalDone, Flip32Done, Flip23Done, FlipDone, Demand2}
use Rattle.demands.proofs.SummaryGiven.{summary_of_block}
use Rattle.demands.proofs.MarksByWords.{marks_stay_stated, face_stated}
use Rattle.demands.proofs.PremisesMet.{sound_round}
use Rattle.demands.proofs.RemovalWords.{only_0}

-- a row of the table, read off the bytes that opening gives
table_row : (block : List ℕ) (i : ℕ) → i < max_rows → stored_row (version block) (table_of block) i ≡ row_in block i
unfolding row_in stored_row
table_row block i h =
    let at : (j : ℕ) → j < row_size → get_or (table_of block) (row_size * i + j) 0 ≡ get_or (drop rows_at block) (row_size * i + j) 0 =
    λ j l. get_or-take (body_bytes - rows_at) (drop rows_at block) (row_size * i + j) 0 (omega arith) in
    rw (at 0 (omega arith), at 1 (omega arith), at 2 (omega arith), at 3 (omega arith), at 4 (omega arith))

-- the fields in what is given
ok_is : {x y : Fields} → ◌≡◌ {A = Result Fields Refusal} (Ok x) (Ok y) → x ≡ y
ok_is e = cc

-- the fields that opening gives are the block's, as a patch
patch_read : (block : List ℕ) → RightBlock block → (fields : Fields) → open_gives block ≡ Ok fields → as_patch fields ≡ fields_of block
unfolding fields_of rows_in
patch_read block right fields given =
    let rows : map (stored_row (version block) (table_of block)) (numbers_from 0 (row_count block)) ≡ map (row_in block) (numbers_from 0 (row_count block)) =
    map_same (stored_row (version block) (table_of block)) (row_in block) (numbers_from 0 (row_count block)) (λ i m.
    table_row block i (omega (arith, (numbers_e 0 (row_count block) m).1, right.body.few_rows))) in
    let same : open_fields block ≡ fields = ok_is (sym (open_fields_lem block (opens block right)) ∙ given) in
    ap as_patch (sym same) ∙ rw rows

module _ (block out : List ℕ) (e f : ℕ) where
  abbrev its : Site
  its = site_of (fields_of block) e f

  removal_done : remove_answer block out e f ≡ 0 → RemovalDone block out e f (remove_gives block out e f) (remove_bytes block out e f)
  unfolding site_of
  removal_done h = record {
    closed = its.closed;
    vs = its.ring;
    premises = only_0 block out e f h;
    accepted = remove_accepted block out e f h;
    page = page_given block out e f h;
  }

  -- a ring of three has one way, the triangle
  flip32_done : flip_answer block out (e ∷ f ∷ []) ≡ 0 → Flip32Done block out e f (flip_bytes block out (e ∷ f ∷ []))
  unfolding site_of
  flip32_done h =
      let r = flips_32 block out e f h in
      let rows = (fields_of block).rows in
      let u = get_or its.ring 0 0 in
      let v = get_or its.ring 1 0 in
      let w = get_or its.ring 2 0 in
      let ring = three_read its.ring r.three in
      let (t, way) = way_found its (omega (arith, r.three)) r.way in
      let only = three_chosen its (sound_site block e f r.sound) r.three t way in
      record {
        u = u;
        v = v;
        w = w;
        ring = record {
          right = right_block block r.sound.opens;
          right_length = r.size;
          round = subst (λ vs. Round rows (min e f) (max e f) true vs) ring
              (subst (λ c. Round rows (min e f) (max e f) c its.ring) r.closed (sound_round block e f r.sound));
        };
        one_region = one_region its.removed r.one_region;
        no_marked_face_goes = marks_stay_stated (fields_of block) e f r.marks_stay;
        accepted = subst (Accepted block (flip_bytes block out (e ∷ f ∷ [])) (holds_edge (min e f) (max e f)))
            (ap (dressed its.removed its.kept) (ap (new_rows its 1) only ∙ across its u v w ring)) (flip32_accepted block out e f h);
      }

-- the face of a 2-3 flip that is done, by words
flip23_done : (block out : List ℕ) (x y z : ℕ) → flip_answer block out (x ∷ y ∷ z ∷ []) ≡ 0
    → Flip23Done block out x y z (flip_bytes block out (x ∷ y ∷ z ∷ []))
unfolding patch_after23 pair_of
flip23_done block out x y z h =
    let r = flips_23 block out x y z h in
    let face : List ℕ = x ∷ y ∷ z ∷ [] in
    let points = length (fields_of block).points in
    let pair = pair_of (fields_of block) face in
    let right = right_block block r.opens in
    let f = flips_facing block out x y z r in
    let apexes = apexes_found (fields_of block) x y z right.body.rule (face_apart points face r.numbers) f in
    let faced : Faced block out x y z pair.a pair.b = record { right = right; right_length = r.size; apexes = apexes } in
    let (u, v, w, read) = reads_so (fields_of block) x y z pair.a pair.b right.body.rule apexes f.less in
    record {
      a = pair.a;
      b = pair.b;
      u = u;
      v = v;
      w = w;
      roomy = record {
        faced = faced;
        smaller = f.less;
        read = read;
        one_region = one_region pair.removed r.one_region;
        unmarked = face_stated (fields_of block) face r.marks_stay;
        room = omega (arith, one_more (fields_of block) face (two_apexes (fields_of block) x y z pair.a pair.b right.body.rule apexes), r.room);
      };
      accepted = subst (Accepted block (flip_bytes block out face) (holds_face face))
          {y = made23 (fields_of block).rows face pair.a pair.b u v w}
          (new_is (fields_of block) x y z pair.a pair.b right.body.rule apexes f.less u v w read) (flip23_accepted block out x y z h);
    }

-- a flip that is done has two numbers or three
flip_done : (block out numbers : List ℕ) → flip_answer block out numbers ≡ 0 → FlipDone block out numbers (flip_bytes block out numbers)
flip_done block out =
    each_count (λ numbers. flip_answer block out numbers ≡ 0 → FlipDone block out numbers (flip_bytes block out numbers))
    (flip32_done block out) (flip23_done block out) (λ numbers two three h. absurd (never_done block out numbers two three h))

-- what is shown of a right block
shown_done : (block : List ℕ) (out : List Float) → RightBlock block → length out ≡ max_rows
    → ◌≡◌ {A = Answer × List Float} (answer_of (shown_answer block out), shown_elements block out) (Ok tt, shown_of (fields_of block))
shown_done block out right size =
    let done = shown_taken block out size (opens block right) in
    λ i. (answer_of (done i), shown_writes block out done i)

-- a right body is sealed
seal_taken : (body out : List ℕ) → length body ≡ body_bytes → RightBody body → length out ≡ block_bytes → seal_answer body out ≡ 0
unfolding seal_answer
seal_taken body out size right room =
    goes_on 1 (not_body body || not_block out) (body_tests body) (rw (eq-eqb (length body) body_bytes size, eq-eqb (length out) block_bytes room))
    ∙ body_passes body right

-- the sealed block has the body's version
sealed_version : (body out : List ℕ) → length body ≡ body_bytes → seal_answer body out ≡ 0 → version (seal_bytes body out) ≡ version body
unfolding seal_bytes
sealed_version body out size h = rw h (get_or-append body (sum_bytes body) 0 0 (omega (arith, size)))

-- and what is sealed was one, and went into an output block of the right length
seal_done : (body out : List ℕ) → seal_answer body out ≡ 0 → Sealed body out (seal_bytes body out)
unfolding seal_answer body_tests test_of every
seal_done body out h =
    let (size, right-one) = seal_right body out h in
    let (is_IsBody, is_Block) = neither_is (not_body body) (not_block out) (passes 1 ((1, not_body body || not_block out) ∷ body_tests body) tt h) in
    let (o, same) = seal_opens body out h in
    record {
      size = size;
      right_body = right-one;
      right_length = eqb-true _ _ (not-false _ is_Block);
      right = right_block _ o;
      same_version = sealed_version body out size h;
      same = same;
    }

pub demand_2 : Demand2 ours
unfolding ours
demand_2 = record {
  read_fields = λ block right. open_fields_lem block (opens block right);
  read_patch = patch_read;
  read_right = λ block h. right_block block (sym (open_number block) ∙ h);
  layout = λ block are right. written_read block are (opens block right);
  layout_back = λ v patch kept.
      (right_block _ (opens_written v patch kept), version_at v patch (sum_bytes (body_of v patch)), read_written v patch kept.within);
  summary = summary_of_block;
  summary_right = λ block h. right_block block (sym (summary_number_fact block) ∙ h);
  shown = shown_done;
  shown_right = λ block out h. let (size, o) = shown_opens block out (sym (number_of_lem _ tt) ∙ h) in (right_block block o, size);
  seal_right = λ body out size right room. number_of_lem _ tt ∙ seal_taken body out size right room;
  seal = λ body out h. seal_done body out (sym (number_of_lem _ tt) ∙ h);
  remove = λ block out e f h. removal_done block out e f (sym (remove_number block out e f) ∙ h);
  flip = λ block out numbers h. flip_done block out numbers (sym (number_of_lem _ tt) ∙ h);
}
