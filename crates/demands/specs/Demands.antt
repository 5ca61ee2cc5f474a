-- Requirement §11: the three demands, as statements about any kernel. All premises and arrows stand in them, and what is said of a block is
-- said in words of the layout and the mesh rule, never by an answer; the table of answers stands in demand 1 alone, which fixes the numbers.
use Rattle.std.specs.Prelude.{ℕ, min, max, Bool, List, [], ◌∷◌, ◌↔◌, ◌≡◌, T, Float, length, Result, Ok, Err}
use Rattle.lists.specs.Lists.{every, has}
use Rattle.page.specs.Page.{shown, page_row}
use Rattle.rows.specs.Rows.{version, holds_edge, holds_face}
use Rattle.answers.specs.declared.Refusal.{Refusal}
use Rattle.layout.specs.Layout.{Patch, block_bytes, body_bytes, max_rows, fields_of, bytes_of}
use Rattle.layout.specs.Within.{is_byte}
use Rattle.block.specs.Holding.{Holdable, RightBlock}
use Rattle.body.specs.Body.{RightBody}
use Rattle.block.specs.Opening.{open_answer, seal_answer}
use Rattle.layout.specs.declared.Fields.{Fields}
use Rattle.layout.specs.Layout.{open_fields}
use Rattle.tally.specs.Tally.{worst_of_patch}
use Rattle.display.specs.Display.{shown_answer, shown_of}
use Rattle.ring.specs.Ring.{Site, ring_with}
use Rattle.triangulation.specs.Triangulation.{Triangle}
use Rattle.calls.specs.declared.Removed.{Removed}
use Rattle.calls.specs.Removing.{rows_made, remove_answer}
use Rattle.calls.specs.Flipping.{flip_answer}
use Rattle.tables.specs.FlipRows.{made32, made23}
use Rattle.accepted.specs.CallNumbers.{open_numbers, seal_numbers, remove_numbers, flip_numbers}
use Rattle.accepted.specs.Accepted.{Accepted}
use Rattle.demands.specs.Kernels.{Kernel, opens, summarises, shows, seals, removes, flips, as_patch}
use Rattle.demands.specs.Premises.{edge_at, OneMaterial, MarksStay, Premises}
use Rattle.demands.specs.FlipWords.{RingOfThree, Roomy}
use Rattle.demands.specs.Summaries.{Summarises}
use Rattle.demands.specs.TriangleSets.{table_made, Way, NoneBetter, AsGoodAsAny}

-- ---- Demand 1
-- Whatever bytes and numbers it is given, each call answers, and the caller need not have looked at anything before. The number is the one
-- that the table of answers gives, and one of that call's list; any number but 0 comes alone, and the output block has the bytes that it
-- came with.

-- Each call's number is the one that the table of answers gives, tested from the top. What the table says of a block is said again, without
-- a test, in Words of a removal and in FlipWords of a flip.
pub record Numbered (k : Kernel) : Type 0 where
  pub open_number : (block : List ℕ) → opens k block ≡ open_answer block
  pub summary_number_fact : (block : List ℕ) → summarises k block ≡ open_answer block
  pub shown_number : (block : List ℕ) (out : List Float) → shows k block out ≡ shown_answer block out
  pub seal_number : (body out : List ℕ) → seals k body out ≡ seal_answer body out
  pub remove_number : (block out : List ℕ) (e f : ℕ) → removes k block out e f ≡ remove_answer block out e f
  pub flip_number : (block out numbers : List ℕ) → flips k block out numbers ≡ flip_answer block out numbers

-- Each call's number is the table's and on the call's list. Any number but 0 leaves the output as it came, and is all that is returned: with it
-- come no fields, no page row and no ring.
pub record Demand1 (k : Kernel) : Type 0 where
  pub numbers : Numbered k
  pub open_listed : (block : List ℕ) → T (has open_numbers (opens k block))
  pub open_alone : (block : List ℕ) → (opens k block ≡ 0 → ⊥) → (refusal : Refusal) × (k.read block ≡ Err refusal)
  pub summary_listed : (block : List ℕ) → T (has open_numbers (summarises k block))
  pub shown_listed : (block : List ℕ) (out : List Float) → T (has open_numbers (shows k block out))
  pub shown_keeps : (block : List ℕ) (out : List Float) → (shows k block out ≡ 0 → ⊥) → (k.shown block out).1 ≡ out
  pub seal_listed : (body out : List ℕ) → T (has seal_numbers (seals k body out))
  pub seal_keeps : (body out : List ℕ) → (seals k body out ≡ 0 → ⊥) → (k.seal body out).1 ≡ out
  pub remove_listed : (block out : List ℕ) (e f : ℕ) → T (has remove_numbers (removes k block out e f))
  pub remove_keeps : (block out : List ℕ) (e f : ℕ) → (removes k block out e f ≡ 0 → ⊥) → (k.remove block out e f).1 ≡ out
  pub remove_alone : (block out : List ℕ) (e f : ℕ) → (removes k block out e f ≡ 0 → ⊥)
      → (refusal : Refusal) × ((k.remove block out e f).0 ≡ Err refusal)
  pub flip_listed : (block out numbers : List ℕ) → T (has (flip_numbers numbers) (flips k block out numbers))
  pub flip_keeps : (block out numbers : List ℕ) → (flips k block out numbers ≡ 0 → ⊥) → (k.flip block out numbers).1 ≡ out

-- ---- Demand 2
-- A block is read and written by the layout, one the inverse of the other, and opening hands over the fields of a block that is right and of
-- no other; a right body is sealed, and nothing else. The summary and what is shown of each row are those of the block. A call that is done
-- leaves a right block: the points and the rows that the edge or the face does not touch are as they were, behind them stand the new rows in
-- their order, of the region of the rows that went, the same faces are marked, both rows at a face agree, and the signed volumes add up to
-- what they did, in all and over each region; the version is as it was. A removal
-- is done only under the third demand's premises, and returns the page row of both blocks and the ring; a flip is done only with two
-- numbers, of an edge in a closed ring of three, or with three, of a face in two rows with different apexes, and in one region.

-- Sealing that is done: a right body of 508 bytes and an output block of 512, which is a right block with the body's version and fields
-- afterwards.
pub record Sealed (body out output : List ℕ) : Type 0 where
  pub size : length body ≡ body_bytes
  pub right_body : RightBody body
  pub right_length : length out ≡ block_bytes
  pub right : RightBlock output
  pub same_version : version output ≡ version body
  pub same : fields_of output ≡ fields_of body

-- A removal that is done: its edge meets the third demand's premises, and the new rows are those of that ring's or chain's chosen way, with
-- their marks; beside the bytes stand the page row and v1..vm.
pub record RemovalDone (block out : List ℕ) (e f : ℕ) (gives : Result Removed Refusal) (output : List ℕ) : Type 0 where
  pub closed : Bool
  pub vs : List ℕ
  pub premises : Premises block out e f closed vs
  pub accepted : let site = edge_at (fields_of block) e f closed vs in
      Accepted block output (holds_edge (min e f) (max e f)) (rows_made site)
  pub page : let before = worst_of_patch (fields_of block) in
      let after = worst_of_patch (fields_of output) in
      gives ≡ Ok (record { page = page_row (shown before) (shown after); ring = ring_with vs })

-- A 3-2 flip that is done: its edge has a closed ring u, v, w of one region in a right block, no marked face goes, and the new rows are (a,u,v,w) and (u,v,w,b).
pub record Flip32Done (block out : List ℕ) (e f : ℕ) (output : List ℕ) : Type 0 where
  pub u : ℕ
  pub v : ℕ
  pub w : ℕ
  pub ring : RingOfThree block out e f u v w
  pub one_region : OneMaterial (fields_of block) e f
  pub no_marked_face_goes : MarksStay (fields_of block) e f
  pub accepted : let a = min e f in
      let b = max e f in
      Accepted block output (holds_edge a b) (made32 (fields_of block).rows a b u v w)

-- A 2-3 flip that is done: in a right block with room for one row more, x, y, z is an unmarked face of two rows of one region with the apexes a and b;
-- a's row reads (a,u,v,w), and the new rows are (a,b,u,v), (a,b,v,w) and (a,b,w,u).
pub record Flip23Done (block out : List ℕ) (x y z : ℕ) (output : List ℕ) : Type 0 where
  pub a : ℕ
  pub b : ℕ
  pub u : ℕ
  pub v : ℕ
  pub w : ℕ
  pub roomy : Roomy block out x y z a b u v w
  pub accepted : let face = x ∷ y ∷ z ∷ [] in
      Accepted block output (holds_face face) (made23 (fields_of block).rows face a b u v w)

-- a flip that is done: with two numbers a 3-2 flip, with three a 2-3 flip, and with any other count none is
abbrev pub FlipDone : List ℕ → List ℕ → List ℕ → List ℕ → Type 0
FlipDone block out [] output = ⊥
FlipDone block out (x ∷ []) output = ⊥
FlipDone block out (e ∷ f ∷ []) output = Flip32Done block out e f output
FlipDone block out (x ∷ y ∷ z ∷ []) output = Flip23Done block out x y z output
FlipDone block out (x ∷ y ∷ z ∷ w ∷ more) output = ⊥

-- Opening, the summary and what is shown of a right block, the layout there and back, and what each call that writes leaves with 0.
pub record Demand2 (k : Kernel) : Type 0 where
  pub read_fields : (block : List ℕ) → RightBlock block → k.read block ≡ Ok (open_fields block)
  pub read_patch : (block : List ℕ) → RightBlock block → (fields : Fields) → k.read block ≡ Ok fields → as_patch fields ≡ fields_of block
  pub read_right : (block : List ℕ) → opens k block ≡ 0 → RightBlock block
  pub layout : (block : List ℕ) → T (every is_byte block) → RightBlock block → bytes_of (version block) (fields_of block) ≡ block
  pub layout_back : (v : ℕ) (patch : Patch) → Holdable v patch
      → let block = bytes_of v patch in RightBlock block × (version block ≡ v) × (fields_of block ≡ patch)
  pub summary : Summarises k
  pub summary_right : (block : List ℕ) → summarises k block ≡ 0 → RightBlock block
  pub shown : (block : List ℕ) (out : List Float) → RightBlock block → length out ≡ max_rows
      → k.shown block out ≡ (Ok tt, shown_of (fields_of block))
  pub shown_right : (block : List ℕ) (out : List Float) → shows k block out ≡ 0 → RightBlock block × (length out ≡ max_rows)
  pub seal_right : (body out : List ℕ) → length body ≡ body_bytes → RightBody body → length out ≡ block_bytes → seals k body out ≡ 0
  pub seal : (body out : List ℕ) → seals k body out ≡ 0 → Sealed body out (k.seal body out).1
  pub remove : (block out : List ℕ) (e f : ℕ) → removes k block out e f ≡ 0
      → RemovalDone block out e f (k.remove block out e f).0 (k.remove block out e f).1
  pub flip : (block out numbers : List ℕ) → flips k block out numbers ≡ 0 → FlipDone block out numbers (k.flip block out numbers).1

-- ---- Demand 3
-- Under the premises, of a ring and of a flat chain alike: a removal answers 16 exactly if, whichever way it is cut, some new tetrahedron is
-- no better than the worst of those that go. If not, the removal is done, and no way beats the one carried out by its worst new tetrahedron.
-- Tetrahedra are compared by their exact fractions.

-- One call of a removal under the premises, with its edge in its patch.
pub record Best (k : Kernel) (block out : List ℕ) (e f : ℕ) (site : Site) : Type 0 where
  pub none_better_fact : (removes k block out e f ≡ 16) ↔ NoneBetter site
  pub otherwise : (NoneBetter site → ⊥) → removes k block out e f ≡ 0
  pub carried_out : removes k block out e f ≡ 0
      → (ts : List Triangle) × Way site ts × ((fields_of (k.remove block out e f).1).rows ≡ table_made site ts) × AsGoodAsAny site ts

-- every such call
abbrev pub Demand3 : Kernel → Type 0
Demand3 k =
    (block out : List ℕ) (e f : ℕ) (closed : Bool) (vs : List ℕ) → Premises block out e f closed vs
    → Best k block out e f (edge_at (fields_of block) e f closed vs)
