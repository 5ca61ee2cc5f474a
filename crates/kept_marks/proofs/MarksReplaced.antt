-- What a replacement does to the marks. The one idea: where both rows at a face agree and no face is used twice, each row that uses a face
-- marks it exactly when the table does. Kept rows do so because they stood there, new rows because the words of the mark say it.
use mathlib.Core.Bool.{Bool, true, false, ◌||◌}
use mathlib.Core.List.Memᴰ
use mathlib.Core.List.{List, ◌++◌, Memᴰ}
use mathlib.Core.Logic.{◌⊎◌, inl, inr}
use mathlib.Core.Path.{◌≡◌, refl, sym, ap, ◌∙◌, subst}
use native.Mathlib.Omega.{arith}
use lib.Dec.{T}
use Rattle.lists.specs.Lists.{any, different}
use Rattle.lists.proofs.Tests.{or_l, or_r, or_e, same_test}
use Rattle.lists.proofs.Lists.{any_i, any_e, any_append, any_same}
use Rattle.lists.proofs.Images.{any_map}
use Rattle.lists.proofs.Counts.{count_append, count_some}
use Rattle.rows.specs.declared.Row.{Row}
use Rattle.rows.specs.Rows.{numbers}
use Rattle.mesh.specs.Mesh.{Face, faces, uses, uses_either_way, reversed}
use Rattle.mesh.proofs.TurnedFaces.{turned_reversed, uses_turned}
use Rattle.marking.specs.Marking.{marks, marked_in, dress_by, new_mark, dressed}
use Rattle.kept_marks.specs.Replacing.{UsedOnce, AllDifferent, Agree, MarkedBy, Parted, Apart, NoMarkGoes, MarksKept}
use Rattle.dressing.proofs.NewMarks.{marks_uses, one_look_up}
use Rattle.kept_marks.proofs.MarksOfRows.{marks_turned}
use Rattle.kept_marks.proofs.AgreementTested.{agree_tested}
use Rattle.kept_marks.proofs.DressedRows.{Turns, dress_numbers, dress_uses, dress_mark}
use Rattle.kept_marks.proofs.PartedTables.{one_passes, parted_any, removed_in, kept_in}

-- ---- what a table marks

-- a row that marks a face uses it
any_used : (f : Face) (rows : List Row) → T (any (marks f) rows) → T (any (uses f) rows)
any_used f rows h = let k = any_e (marks f) rows h in any_i (uses f) rows k.1 (marks_uses f k.0 k.2)

pub marked_e : (rows : List Row) (f : Face) → T (marked_in rows f) → T (any (marks f) rows) ⊎ T (any (marks (reversed f)) rows)
unfolding marked_in
marked_e rows f h = or_e (any (marks f) rows) (any (marks (reversed f)) rows) h

pub marked_i : (rows : List Row) (f : Face) {t : Row} → Memᴰ t rows → T (marks f t) → T (marked_in rows f)
unfolding marked_in
marked_i rows f m h = or_l (any (marks f) rows) (any (marks (reversed f)) rows) (any_i (marks f) rows m h)

or_swap : (a b : Bool) → a || b ≡ b || a
or_swap true true = refl
or_swap true false = refl
or_swap false true = refl
or_swap false false = refl

-- a table marks a face either way round
marked_sides : (rows : List Row) (f : Face) → marked_in rows (reversed f) ≡ marked_in rows f
unfolding marked_in
marked_sides rows f = or_swap (any (marks (reversed f)) rows) (any (marks f) rows)

either_sides : (rows : List Row) (f : Face) → any (uses_either_way (reversed f)) rows ≡ any (uses_either_way f) rows
either_sides rows f = any_same (uses_either_way (reversed f)) (uses_either_way f) rows (λ t m. or_swap (uses (reversed f) t) (uses f t))

either_used : (f : Face) (rows : List Row) → T (any (uses f) rows) → T (any (uses_either_way f) rows)
either_used f rows h =
    let k = any_e (uses f) rows h in
    any_i (uses_either_way f) rows k.1 (or_l (uses f k.0) (uses (reversed f) k.0) k.2)

-- turning the face does not change whether it does
pub marked_turns : (rows : List Row) → Turns (marked_in rows)
unfolding marked_in
marked_turns rows f g e =
    rw (
      any_same (marks f) (marks g) rows (λ t m. marks_turned f g t e),
      any_same (marks (reversed f)) (marks (reversed g)) rows (λ t m. marks_turned (reversed f) (reversed g) t (turned_reversed e)),
    )

-- a row that uses a face marks it exactly when the table does
pub own_mark : (rows : List Row) → UsedOnce rows → Agree rows → MarkedBy (marked_in rows) rows
own_mark rows once agrees f t m used = same_test (marks f t) (marked_in rows f) (marked_i rows f m) (λ h. go (marked_e rows f h))
  where
    go : T (any (marks f) rows) ⊎ T (any (marks (reversed f)) rows) → T (marks f t)
    go (inl h) =
        let k = any_e (marks f) rows h in
        let e : k.0 ≡ t = one_passes (uses f) rows (once f) k.1 m (marks_uses f k.0 k.2) used in
        rw e at k.2
    go (inr h) =
        let k = any_e (marks (reversed f)) rows h in
        rw (agrees t k.0 m k.1 f used (marks_uses (reversed f) k.0 k.2)) k.2

-- ---- the mark of a face of a new row

-- turning the face does not change it
pub new_turns : (removed kept : List Row) → Turns (new_mark removed kept)
unfolding new_mark
new_turns removed kept f g e =
    let back = turned_reversed e in
    rw (
      any_same (uses f) (uses g) removed (λ t m. uses_turned f g t e),
      any_same (marks f) (marks g) removed (λ t m. marks_turned f g t e),
      any_same (uses (reversed f)) (uses (reversed g)) kept (λ t m. uses_turned (reversed f) (reversed g) t back),
      any_same (marks (reversed f)) (marks (reversed g)) kept (λ t m. marks_turned (reversed f) (reversed g) t back),
    )

module _ (before removed kept : List Row) (parts : Parted before removed kept) (agrees : Agree before) where
  -- where the rows agree it is the mark of either part, whichever has one
  pub new_mark_lem : (f : Face) → new_mark removed kept f ≡ any (marks f) removed || any (marks (reversed f)) kept
  new_mark_lem f =
      one_look_up removed kept f (λ used marked.
      let t = any_e (uses f) removed used in
      let u = any_e (marks (reversed f)) kept marked in
      let mt = removed_in before removed kept parts t.1 in
      let mu = kept_in before removed kept parts u.1 in
      any_i (marks f) removed t.1 (rw (agrees t.0 u.0 mt mu f t.2 (marks_uses (reversed f) u.0 u.2)) u.2))

-- ---- a replacement

module _ (before removed kept new : List Row) (parts : Parted before removed kept) (once : UsedOnce before) (agrees : Agree before)
    (after : UsedOnce (kept ++ new)) (apart : Apart removed new) where
  -- for every face of every new row the words give what the table before marked: no kept row uses it the same way, no removed row the other
  mark_stays : (f : Face) → T (any (uses f) new) → new_mark removed kept f ≡ marked_in before f
  mark_stays f n =
      new_mark_lem before removed kept parts agrees f
      ∙ same_test (any (marks f) removed || any (marks (reversed f)) kept) (marked_in before f)
      (λ h. to (or_e (any (marks f) removed) (any (marks (reversed f)) kept) h)) (λ h. fro (marked_e before f h))
    where
      to : T (any (marks f) removed) ⊎ T (any (marks (reversed f)) kept) → T (marked_in before f)
      to (inl h) = let k = any_e (marks f) removed h in marked_i before f (removed_in before removed kept parts k.1) k.2
      to (inr h) =
          let k = any_e (marks (reversed f)) kept h in
          rw (marked_sides before f) at (marked_i before (reversed f) (kept_in before removed kept parts k.1) k.2)

      part : (f : Face) → T (any (marks f) before) → T (any (marks f) removed) ⊎ T (any (marks f) kept)
      part f h = or_e (any (marks f) removed) (any (marks f) kept) (rw (parted_any before removed kept parts (marks f)) at h)

      same_way : T (any (marks f) removed) ⊎ T (any (marks f) kept) → T (any (marks f) removed || any (marks (reversed f)) kept)
      same_way (inl h) = or_l (any (marks f) removed) (any (marks (reversed f)) kept) h
      same_way (inr h) =
          absurd (omega (
            arith,
            after f,
            count_append (uses f) kept new,
            count_some (uses f) kept (any_used f kept h),
            count_some (uses f) new n,
          ))

      other_way : T (any (marks (reversed f)) removed) ⊎ T (any (marks (reversed f)) kept)
          → T (any (marks f) removed || any (marks (reversed f)) kept)
      other_way (inl h) = absurd (apart (reversed f) (any_used (reversed f) removed h) n)
      other_way (inr h) = or_r (any (marks f) removed) (any (marks (reversed f)) kept) h

      fro : T (any (marks f) before) ⊎ T (any (marks (reversed f)) before) → T (any (marks f) removed || any (marks (reversed f)) kept)
      fro (inl h) = same_way (part f h)
      fro (inr h) = other_way (part (reversed f) h)

  -- the table afterwards
  abbrev rows : List Row
  rows = kept ++ dressed removed kept new

  -- every row afterwards marks of its faces those that the table before marked
  after_mark : MarkedBy (marked_in before) rows
  after_mark f t m used = go (Memᴰ.append_cases kept m)
    where
      go : Memᴰ t kept ⊎ Memᴰ t (dressed removed kept new) → marks f t ≡ marked_in before f
      go (inl k) = own_mark before once agrees f t (kept_in before removed kept parts k) used
      go (inr k) =
          let words = new_mark removed kept in
          let n = Memᴰ.of_map (dress_by words) new k in
          let used-plain = subst T (ap (uses f) (sym n.2) ∙ dress_uses words f n.0) used in
          ap (marks f) (sym n.2)
          ∙ dress_mark words (new_turns removed kept) f n.0 used-plain
          ∙ mark_stays f (any_i (uses f) new n.1 used-plain)

  after_uses : (f : Face) → any (uses_either_way f) rows ≡ any (uses_either_way f) (kept ++ new)
  unfolding dress_by uses faces
  after_uses f =
      any_append (uses_either_way f) kept (dressed removed kept new)
      ∙ ap (λ b. any (uses_either_way f) kept || b) (any_map (uses_either_way f) (dress_by (new_mark removed kept)) new)
      ∙ sym (any_append (uses_either_way f) kept new)

  after_different : AllDifferent (kept ++ new) → AllDifferent rows
  after_different apart t m = go (Memᴰ.append_cases kept m)
    where
      go : Memᴰ t kept ⊎ Memᴰ t (dressed removed kept new) → T (different (numbers t))
      go (inl k) = apart t (Memᴰ.append_left new k)
      go (inr k) =
          let n = Memᴰ.of_map (dress_by (new_mark removed kept)) new k in
          subst (λ t. T (different (numbers t))) n.2
          (rw (dress_numbers (new_mark removed kept) n.0) (apart n.0 (Memᴰ.append_right kept n.1)))

  -- so both rows at a face agree
  after_agrees : Agree rows
  after_agrees t u mt mu f used met = after_mark f t mt used ∙ sym (marked_sides before f) ∙ sym (after_mark (reversed f) u mu met)

  -- and, where no marked face goes, the same faces are marked
  after_marked : NoMarkGoes removed (kept ++ new) → (f : Face) → marked_in rows f ≡ marked_in before f
  after_marked stays f =
      same_test (marked_in rows f) (marked_in before f) (λ h. to (marked_e rows f h)) (λ h. fro h (stands (marked_e before f h)))
    where
      to : T (any (marks f) rows) ⊎ T (any (marks (reversed f)) rows) → T (marked_in before f)
      to (inl h) =
          let k = any_e (marks f) rows h in
          rw (after_mark f k.0 k.1 (marks_uses f k.0 k.2)) at k.2
      to (inr h) =
          let k = any_e (marks (reversed f)) rows h in
          rw (after_mark (reversed f) k.0 k.1 (marks_uses (reversed f) k.0 k.2), marked_sides before f) at k.2

      part : (f : Face) → T (any (marks f) removed) ⊎ T (any (marks f) kept) → T (any (uses_either_way f) (kept ++ new))
      part f (inl h) = stays f h
      part f (inr h) =
          rw (any_append (uses_either_way f) kept new)
          (or_l (any (uses_either_way f) kept) (any (uses_either_way f) new) (either_used f kept (any_used f kept h)))

      still : (f : Face) → T (any (marks f) before) → T (any (uses_either_way f) (kept ++ new))
      still f h = part f (or_e (any (marks f) removed) (any (marks f) kept) (rw (parted_any before removed kept parts (marks f)) at h))

      stands : T (any (marks f) before) ⊎ T (any (marks (reversed f)) before) → T (any (uses_either_way f) rows)
      stands (inl h) = rw (after_uses f) (still f h)
      stands (inr h) = rw (after_uses f, ← either_sides (kept ++ new) f) (still (reversed f) h)

      fro : T (marked_in before f) → T (any (uses_either_way f) rows) → T (marked_in rows f)
      fro h s =
          let k = any_e (uses_either_way f) rows s in
          at k.0 k.1 (or_e (uses f k.0) (uses (reversed f) k.0) k.2)
        where
          at : (t : Row) → Memᴰ t rows → T (uses f t) ⊎ T (uses (reversed f) t) → T (marked_in rows f)
          at t m (inl u) = marked_i rows f m (rw (after_mark f t m u) h)
          at t m (inr u) =
              let there = marked_i rows (reversed f) m (rw (after_mark (reversed f) t m u, marked_sides before f) h) in
              rw (marked_sides rows f) at there

  pub marks_kept : NoMarkGoes removed (kept ++ new) → AllDifferent (kept ++ new) → MarksKept before (kept ++ dressed removed kept new)
  marks_kept stays different = record {
    agrees = agree_tested rows after_agrees (after_different different);
    marked = after_marked stays;
  }
