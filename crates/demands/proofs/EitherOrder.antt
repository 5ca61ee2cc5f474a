-- A removal and a flip do not depend on the order of the ends, nor a flip on the order of the three numbers of a face.
use Prim.Native.Nat.{ℕ, zero, suc, ◌<◌, max}
use mathlib.Core.Bool.{Bool, not, ◌&&◌}
use mathlib.Core.List.Memᴰ
use mathlib.Core.List.{List, [], ◌∷◌, map, foldr, Memᴰ}
use mathlib.Core.Path.{◌≡◌, refl, sym, ap, ◌∙◌, fun_ext}
use native.Mathlib.Omega.{arith}
use lib.Dec.{T, eqb, ltb}
use lib.ListN.{length}
use Rattle.lists.specs.Lists.{every, those, first_or, has, different}
use Rattle.lists.proofs.Tests.{same_test}
use Rattle.lists.proofs.Lists.{every_at, every_i, any_same}
use Rattle.lists.proofs.Numbers.{has_i, has_e}
use Rattle.lists.proofs.Places.{in_cases}
use Rattle.rows.specs.declared.Row.{Row}
use Rattle.rows.specs.Rows.{numbers, holds, holds_face, no_row}
use Rattle.marking.specs.Marking.{marked_faces, marks_over}
use Rattle.layout.specs.Layout.{Patch, fields_of}
use Rattle.ring.specs.Ring.{Site, site_of, numbers_wrong, rings_alone, or_chains, edge_tests}
use Rattle.walk.specs.Walk.{smallest}
use Rattle.ring.proofs.RingInAnyOrder.{site_swap, numbers_swap}
use Rattle.walk.proofs.TheSmallest.{smallest_in, smallest_le, smallest_is}
use Rattle.calls.specs.Removing.{remove_answer, remove_bytes, remove_gives}
use Rattle.calls.specs.Flipping.{apex_over, Pair, pair_of, three_rows, patch_after23, flip23_tests, flip_tests, patch_flipped, flip_answer, flip_bytes}
use Rattle.tables.proofs.ThreeNumbers.{three_apart, apart_three}
use Rattle.accepted.proofs.CallsNumbered.{gives_done, gives_refused}
use Rattle.demands.specs.Kernels.{ours}
use Rattle.demands.specs.Orders.{EitherOrder}

-- ---- the ends

edge_swap : (chains : Bool) (site : Site) (e f : ℕ) → edge_tests chains site e f ≡ edge_tests chains site f e
unfolding edge_tests
edge_swap chains site e f = rw (numbers_swap (length site.points) e f)

module _ (block out : List ℕ) (e f : ℕ) where
  remove_answer_swap : remove_answer block out e f ≡ remove_answer block out f e
  unfolding remove_answer
  remove_answer_swap = rw (site_swap (fields_of block) e f, edge_swap or_chains (site_of (fields_of block) f e) e f)

  remove_bytes_swap : remove_bytes block out e f ≡ remove_bytes block out f e
  unfolding remove_bytes
  remove_bytes_swap = rw (remove_answer_swap, site_swap (fields_of block) e f)

  remove_gives_swap : remove_gives block out e f ≡ remove_gives block out f e
  remove_gives_swap = go (remove_answer block out f e) refl
    where
      go : (n : ℕ) → remove_answer block out f e ≡ n → remove_gives block out e f ≡ remove_gives block out f e
      go zero h = gives_done block out e f (remove_answer_swap ∙ h) ∙ rw (site_swap (fields_of block) e f) (sym (gives_done block out f e h))
      go (suc n) h = gives_refused block out e f n (remove_answer_swap ∙ h) ∙ sym (gives_refused block out f e n h)

  pub ends_answer_swap : flip_answer block out (e ∷ f ∷ []) ≡ flip_answer block out (f ∷ e ∷ [])
  unfolding flip_answer flip_tests
  ends_answer_swap = rw (site_swap (fields_of block) e f, edge_swap rings_alone (site_of (fields_of block) f e) e f)

  pub ends_bytes_swap : flip_bytes block out (e ∷ f ∷ []) ≡ flip_bytes block out (f ∷ e ∷ [])
  unfolding flip_bytes patch_flipped
  ends_bytes_swap = rw (ends_answer_swap, site_swap (fields_of block) e f)

-- ---- the face

-- Two faces of the same numbers.
record SameNumbers (f g : List ℕ) : Type 0 where
  to : (n : ℕ) → Memᴰ n f → Memᴰ n g
  from : (n : ℕ) → Memᴰ n g → Memᴰ n f
  apart : different f ≡ different g
  some : 0 < length f

module _ (f g : List ℕ) (same : SameNumbers f g) where
  every_over : (p : ℕ → Bool) → every p f ≡ every p g
  every_over p =
      same_test (every p f) (every p g)
      (λ h. every_i p g (λ n k. every_at p f h (same.from n k))) (λ h. every_i p f (λ n k. every_at p g h (same.to n k)))

  has_over : (n : ℕ) → has f n ≡ has g n
  has_over n = same_test (has f n) (has g n) (λ h. has_i g (same.to n (has_e f n h))) (λ h. has_i f (same.from n (has_e g n h)))

  smallest_over : smallest f ≡ smallest g
  smallest_over = smallest_is g (smallest f) (same.to _ (smallest_in f same.some)) (λ k i. smallest_le f (same.from k i))

  wrong_over : (count : ℕ) → numbers_wrong count f ≡ numbers_wrong count g
  unfolding numbers_wrong
  wrong_over count = rw (every_over (λ n. ltb n count), same.apart)

  apex_over_lem : (row : Row) → apex_over f row ≡ apex_over g row
  unfolding apex_over
  apex_over_lem row = ap (λ p. first_or 0 p (numbers row)) (fun_ext (λ n. ap not (has_over n)))

  -- the pair depends on what holds the face and on the apexes
  abbrev made : Patch → (Row → Bool) → (Row → ℕ) → Pair
  made patch held apex =
      let removed = those held patch.rows in
      let apexes = map apex removed in
      let a = smallest apexes in
      record {
        removed = removed;
        kept = those (λ row. not (held row)) patch.rows;
        a = a;
        b = foldr max 0 apexes;
        row_of_a = first_or no_row (λ row. eqb (apex row) a) removed;
      }

  pair_over : (patch : Patch) → pair_of patch f ≡ pair_of patch g
  unfolding pair_of
  pair_over patch =
      ap (λ held. made patch held (apex_over f)) (fun_ext (λ row. every_over (holds row)))
      ∙ ap (made patch (holds_face g)) (fun_ext apex_over_lem)

  patch_over : (patch : Patch) → patch_after23 patch f ≡ patch_after23 patch g
  unfolding patch_after23 three_rows
  patch_over patch = rw (pair_over patch, smallest_over)

  -- a row marks a face over the same numbers
  marked_over : (row : Row) → marks_over f row ≡ marks_over g row
  unfolding marks_over
  marked_over row =
      any_same (λ h. every (has (h.0.0 ∷ h.0.1 ∷ h.0.2 ∷ [])) f && h.1) (λ h. every (has (h.0.0 ∷ h.0.1 ∷ h.0.2 ∷ [])) g && h.1)
      (marked_faces row) (λ h m. ap (λ c. c && h.1) (every_over (has (h.0.0 ∷ h.0.1 ∷ h.0.2 ∷ []))))

  tests_over : (patch : Patch) → flip23_tests patch f ≡ flip23_tests patch g
  unfolding flip23_tests
  tests_over patch =
      let goes = any_same (marks_over f) (marks_over g) (pair_of patch g).removed (λ row m. marked_over row) in
      rw (wrong_over (length patch.points), pair_over patch, patch_over patch, goes)

-- exchanging the first two, and turning round: these give all six orders

swapped : (x y z : ℕ) → SameNumbers (x ∷ y ∷ z ∷ []) (y ∷ x ∷ z ∷ [])
swapped x y z =
    record {
      to = move x y;
      from = move y x;
      apart = same_test (different (x ∷ y ∷ z ∷ [])) (different (y ∷ x ∷ z ∷ [])) (apart x y) (apart y x);
      some = omega arith;
    }
  where
    move : (x y n : ℕ) → Memᴰ n (x ∷ y ∷ z ∷ []) → Memᴰ n (y ∷ x ∷ z ∷ [])
    move x y n k =
        in_cases k (λ e. Memᴰ.tail (Memᴰ.head e))
        λ k. in_cases k (λ e. Memᴰ.head e) λ k. Memᴰ.tail (Memᴰ.tail k)

    apart : (x y : ℕ) → T (different (x ∷ y ∷ z ∷ [])) → T (different (y ∷ x ∷ z ∷ []))
    apart x y h = let k = three_apart x y z h in apart_three y x z (record { xy = λ e. k.xy (sym e); xz = k.yz; yz = k.xz })

turned : (x y z : ℕ) → SameNumbers (x ∷ y ∷ z ∷ []) (y ∷ z ∷ x ∷ [])
turned x y z =
    record {
      to = move x y z;
      from = λ n k. move z x y n (move y z x n k);
      apart = same_test (different (x ∷ y ∷ z ∷ [])) (different (y ∷ z ∷ x ∷ [])) (apart x y z) (λ h. apart z x y (apart y z x h));
      some = omega arith;
    }
  where
    move : (x y z n : ℕ) → Memᴰ n (x ∷ y ∷ z ∷ []) → Memᴰ n (y ∷ z ∷ x ∷ [])
    move x y z n k =
        in_cases k (λ e. Memᴰ.tail (Memᴰ.tail (Memᴰ.head e)))
        λ k. in_cases k (λ e. Memᴰ.head e) λ k. in_cases k (λ e. Memᴰ.tail (Memᴰ.head e)) λ k. absurd (Memᴰ.not-nil k)

    apart : (x y z : ℕ) → T (different (x ∷ y ∷ z ∷ [])) → T (different (y ∷ z ∷ x ∷ []))
    apart x y z h = let k = three_apart x y z h in
        apart_three y z x (record { xy = k.yz; xz = λ e. k.xy (sym e); yz = λ e. k.xz (sym e) })

module _ (block out : List ℕ) (x y z : ℕ) where
  face_answer_swap : flip_answer block out (x ∷ y ∷ z ∷ []) ≡ flip_answer block out (y ∷ x ∷ z ∷ [])
  unfolding flip_answer flip_tests
  face_answer_swap = rw (tests_over _ _ (swapped x y z) (fields_of block))

  face_answer_turn : flip_answer block out (x ∷ y ∷ z ∷ []) ≡ flip_answer block out (y ∷ z ∷ x ∷ [])
  unfolding flip_answer flip_tests
  face_answer_turn = rw (tests_over _ _ (turned x y z) (fields_of block))

  face_bytes_swap : flip_bytes block out (x ∷ y ∷ z ∷ []) ≡ flip_bytes block out (y ∷ x ∷ z ∷ [])
  unfolding flip_bytes patch_flipped
  face_bytes_swap = rw (face_answer_swap, patch_over _ _ (swapped x y z) (fields_of block))

  face_bytes_turn : flip_bytes block out (x ∷ y ∷ z ∷ []) ≡ flip_bytes block out (y ∷ z ∷ x ∷ [])
  unfolding flip_bytes patch_flipped
  face_bytes_turn = rw (face_answer_turn, patch_over _ _ (turned x y z) (fields_of block))

pub either_order : EitherOrder ours
unfolding ours
either_order = record {
  remove = λ block out e f. rw (remove_gives_swap block out e f, remove_bytes_swap block out e f);
  flip_ends = λ block out e f. rw (ends_answer_swap block out e f, ends_bytes_swap block out e f);
  exchanged = λ block out x y z. rw (face_answer_swap block out x y z, face_bytes_swap block out x y z);
  turned = λ block out x y z. rw (face_answer_turn block out x y z, face_bytes_turn block out x y z);
}
