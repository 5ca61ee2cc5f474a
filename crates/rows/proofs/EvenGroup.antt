-- Even rearrangements are a group, and one of them begins with any two numbers of the row. An even rearrangement is the row read at
-- an even rearrangement of four places, and of those a computed test says all.
use Prim.Native.Nat.{ℕ, ◌<◌}
use mathlib.Core.Bool.{Bool, false, ◌&&◌, ◌||◌}
use mathlib.Core.List.Memᴰ
use mathlib.Core.List.{[], ◌∷◌, Memᴰ}
use mathlib.Core.Logic.{◌⊎◌, inl, inr}
use mathlib.Core.Path.{◌≡◌, refl, sym, ap, ◌∙◌, subst}
use native.Mathlib.Omega.{arith}
use lib.Dec.{T, eqb, ltb, eqb→eq, ltb→lt}
use lib.ListN.{get_or}
use Rattle.lists.specs.Lists.{every, any, first_or, numbers_from}
use Rattle.lists.proofs.Tests.{and_l, and_r, and_i, or_e, same_test, eq_test}
use Rattle.lists.proofs.Lists.{every_at, any_i, any_e, first_found}
use Rattle.lists.proofs.Numbers.{has_e, numbers_i}
use Rattle.lists.proofs.Places.{in_at, at_in}
use Rattle.lists.proofs.Images.{map_at}
use Rattle.rows.specs.declared.Row.{Row}
use Rattle.rows.specs.Labels.{no_marks}
use Rattle.rows.specs.Rows.{numbers, holds, no_row}
use Rattle.rows.specs.Tetrahedra.{evenly, same_row, rearranged, arranged_from}
use Rattle.rows.proofs.EvenMoves.{same_row_lem, even_e, even_i}

-- the mark opposite to a place
abbrev mark_at : Row → ℕ → Bool
mark_at u i = let m = u.marks in get_or (m.qrs ∷ m.psr ∷ m.pqs ∷ m.prq ∷ []) i false

-- the row whose corners stand at the places that another row names
abbrev pick : Row → Row → Row
pick u σ = record {
  p = get_or (numbers u) σ.p 0;
  q = get_or (numbers u) σ.q 0;
  r = get_or (numbers u) σ.r 0;
  s = get_or (numbers u) σ.s 0;
  region = u.region;
  marks = record { qrs = mark_at u σ.p; psr = mark_at u σ.q; pqs = mark_at u σ.r; prq = mark_at u σ.s };
}

-- four places in order
abbrev pub in_order : Row
in_order = record { p = 0; q = 1; r = 2; s = 3; region = 0; marks = no_marks }

even_places : (t u : Row) → T (rearranged t u) → (σ : Row) × Memᴰ σ (evenly in_order) × (t ≡ pick u σ)
unfolding evenly
even_places t u e = let k = Memᴰ.of_map (pick u) (evenly in_order) (even_e t u e) in (k.0, k.1, sym k.2)

places_even : (u σ : Row) → Memᴰ σ (evenly in_order) → T (rearranged (pick u σ) u)
unfolding evenly
places_even u σ m = even_i (pick u σ) u (Memᴰ.map (pick u) m)

-- reading at places twice
pick_pick : (u σ τ : Row) → Memᴰ τ (evenly in_order) → pick (pick u σ) τ ≡ pick u (pick σ τ)
unfolding evenly every
pick_pick u σ τ m =
    let p = small 0 (omega arith) in
    let q = small 1 (omega arith) in
    let r = small 2 (omega arith) in
    let s = small 3 (omega arith) in
    rw (
      at τ.p p,
      at τ.q q,
      at τ.r r,
      at τ.s s,
      mark τ.p p,
      mark τ.q q,
      mark τ.r r,
      mark τ.s s,
    )
  where
    small : (j : ℕ) → j < 4 → get_or (numbers τ) j 0 < 4
    small j h =
        let all = every_at (λ τ. every (λ n. ltb n 4) (numbers τ)) (evenly in_order) tt m in
        ltb→lt (get_or (numbers τ) j 0) 4 (every_at (λ n. ltb n 4) (numbers τ) all (at_in (numbers τ) j 0 h))

    at : (i : ℕ) → i < 4 → get_or (numbers (pick u σ)) i 0 ≡ get_or (numbers u) (get_or (numbers σ) i 0) 0
    at i h = map_at (λ k. get_or (numbers u) k 0) (numbers σ) i 0 0 h

    mark : (i : ℕ) → i < 4 → mark_at (pick u σ) i ≡ mark_at u (get_or (numbers σ) i 0)
    mark i h = map_at (mark_at u) (numbers σ) i 0 false h

-- the group

pub even_refl : (u : Row) → T (rearranged u u)
unfolding evenly
even_refl u = even_i u u (Memᴰ.head refl)

pub even_trans : (t u v : Row) → T (rearranged t u) → T (rearranged u v) → T (rearranged t v)
unfolding evenly rearranged every any
even_trans t u v a b =
    let k = even_places t u a in
    let l = even_places u v b in
    let closed = every_at (λ σ. rearranged (pick l.0 σ) in_order) (evenly in_order)
    (every_at (λ τ. every (λ σ. rearranged (pick τ σ) in_order) (evenly in_order)) (evenly in_order) tt l.1) k.1 in
    let e : t ≡ pick v (pick l.0 k.0) = k.2 ∙ ap (λ w. pick w k.0) l.2 ∙ pick_pick v l.0 k.0 k.1 in
    subst (λ w. T (rearranged w v)) (sym e) (places_even v (pick l.0 k.0) (even_e (pick l.0 k.0) in_order closed))

pub even_sym : (t u : Row) → T (rearranged t u) → T (rearranged u t)
unfolding evenly every any
even_sym t u a =
    let k = even_places t u a in
    let back = any_e (λ ρ. same_row (pick k.0 ρ) in_order) (evenly in_order)
    (every_at (λ σ. any (λ ρ. same_row (pick σ ρ) in_order) (evenly in_order)) (evenly in_order) tt k.1) in
    let ρ = back.0 in
    let e : u ≡ pick t ρ =
    sym (ap (λ w. pick w ρ) k.2 ∙ pick_pick u k.0 ρ back.1 ∙ ap (pick u) (same_row_lem (pick k.0 ρ) in_order back.2)) in
    subst (λ w. T (rearranged w t)) (sym e) (places_even t ρ back.1)

-- rows that are one tetrahedron are so with the same rows
pub even_same : (t u v : Row) → T (rearranged t u) → rearranged v t ≡ rearranged v u
even_same t u v e =
    same_test (rearranged v t) (rearranged v u) (λ h. even_trans v t u h e) (λ h. even_trans v u t h (even_sym t u e))

-- the rearrangement that begins with two numbers of the row: there is one, so no row has to stand in for it

-- two different places are the first two of an even rearrangement
first_two : (i j : ℕ) → i < 4 → j < 4 → (i ≡ j → ⊥) → (σ : Row) × Memᴰ σ (evenly in_order) × T (eqb σ.p i && eqb σ.q j)
unfolding evenly every any numbers_from
first_two i j h k ne = go (or_e (eqb i j) (any (λ σ. eqb σ.p i && eqb σ.q j) (evenly in_order)) found)
  where
    found : T (eqb i j || any (λ σ. eqb σ.p i && eqb σ.q j) (evenly in_order))
    found =
        every_at (λ j. eqb i j || any (λ σ. eqb σ.p i && eqb σ.q j) (evenly in_order)) (numbers_from 0 4)
        (every_at (λ i. every (λ j. eqb i j || any (λ σ. eqb σ.p i && eqb σ.q j) (evenly in_order)) (numbers_from 0 4))
        (numbers_from 0 4) tt
        (numbers_i 0 4 i (omega arith) (omega arith)))
        (numbers_i 0 4 j (omega arith) (omega arith))

    go : T (eqb i j) ⊎ T (any (λ σ. eqb σ.p i && eqb σ.q j) (evenly in_order))
        → (σ : Row) × Memᴰ σ (evenly in_order) × T (eqb σ.p i && eqb σ.q j)
    go (inl e) = absurd (ne (eqb→eq i j e))
    go (inr a) = any_e (λ σ. eqb σ.p i && eqb σ.q j) (evenly in_order) a

pub arranged_from_lem : (x y : ℕ) (row : Row) → T (holds row x) → T (holds row y) → (x ≡ y → ⊥)
    → T (rearranged (arranged_from x y row) row) × ((arranged_from x y row).p ≡ x) × ((arranged_from x y row).q ≡ y)
unfolding arranged_from
arranged_from_lem x y row hx hy ne =
    let begins : Row → Bool = λ t. eqb t.p x && eqb t.q y in
    let a = in_at (numbers row) 0 (has_e (numbers row) x hx) in
    let b = in_at (numbers row) 0 (has_e (numbers row) y hy) in
    let k = first_two a.0 b.0 a.1 b.1 (λ e. ne (sym a.2 ∙ ap (λ i. get_or (numbers row) i 0) e ∙ b.2)) in
    let σ = k.0 in
    let at_p = eqb→eq σ.p a.0 (and_l (eqb σ.p a.0) (eqb σ.q b.0) k.2) in
    let atQ = eqb→eq σ.q b.0 (and_r (eqb σ.p a.0) (eqb σ.q b.0) k.2) in
    let px : get_or (numbers row) σ.p 0 ≡ x = ap (λ i. get_or (numbers row) i 0) at_p ∙ a.2 in
    let qy : get_or (numbers row) σ.q 0 ≡ y = ap (λ i. get_or (numbers row) i 0) atQ ∙ b.2 in
    let it = first_found no_row begins (evenly row)
    (any_i begins (evenly row) (even_e (pick row σ) row (places_even row σ k.1))
    (and_i (eqb (get_or (numbers row) σ.p 0) x) (eqb (get_or (numbers row) σ.q 0) y) (eq_test _ _ px) (eq_test _ _ qy))) in
    let t = first_or no_row begins (evenly row) in (
      even_i t row it.0,
      eqb→eq t.p x (and_l (eqb t.p x) (eqb t.q y) it.1),
      eqb→eq t.q y (and_r (eqb t.p x) (eqb t.q y) it.1),
    )
