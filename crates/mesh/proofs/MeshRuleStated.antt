-- The mesh rule as a test is the mesh rule as a statement. Two rows that use one face are two that are counted,
-- and the test says that at most one is.
use Prim.Native.Nat.{ℕ, ◌≤◌, ◌<◌}
use mathlib.Core.Bool.{not}
use mathlib.Core.List.{List, [], ◌∷◌, Memᴰ}
use mathlib.Core.Path.{◌≡◌, refl}
use native.Mathlib.Decide.{dec_lt}
use native.Mathlib.Omega.{arith}
use lib.Dec.{T, eqb, ltb, eqb→eq, ltb→lt, lt→ltb, not_T}
use lib.ListN.{length, get_or}
use Rattle.lists.specs.Lists.{every, count, different}
use Rattle.lists.proofs.Tests.{and_l, and_r, and_i}
use Rattle.lists.proofs.Lists.{every_at, every_i, every_cons}
use Rattle.lists.proofs.Places.{at_in, in_at}
use Rattle.lists.proofs.Counts.{count_or, count_two, two_places}
use Rattle.lists.proofs.Numbers.{different_head, different_tail, different_cons}
use Rattle.rows.specs.declared.Row.{Row}
use Rattle.rows.specs.Rows.{numbers, no_row}
use Rattle.mesh.specs.Mesh.{Face, uses, uses_either_way, reversed, numbers_fit, faces_apart, keeps_mesh_rule, Proper, MeshRule}
use Rattle.mesh.proofs.FacesCounted.{hits, apart_hits, hits_apart}

-- the numbers of a row

pub fit_proper : (count : ℕ) (row : Row) → T (numbers_fit count row) → Proper count row
unfolding numbers_fit
fit_proper count row h =
    let low = and_l (every (λ n. ltb n count) (numbers row)) (different (numbers row)) h in
    let d = and_r (every (λ n. ltb n count) (numbers row)) (different (numbers row)) h in
    let p = row.p in
    let q = row.q in
    let r = row.r in
    let s = row.s in
    let e = different_tail p (q ∷ r ∷ s ∷ []) d in
    let f = different_tail q (r ∷ s ∷ []) e in
    let below : (n : ℕ) → Memᴰ n (numbers row) → n < count = λ n m. ltb→lt n count (every_at (λ n. ltb n count) (numbers row) low m) in
    record {
      below_p = below p (Memᴰ.head refl);
      below_q = below q (Memᴰ.tail (Memᴰ.head refl));
      below_r = below r (Memᴰ.tail (Memᴰ.tail (Memᴰ.head refl)));
      below_s = below s (Memᴰ.tail (Memᴰ.tail (Memᴰ.tail (Memᴰ.head refl))));
      p_q = different_head p (q ∷ r ∷ s ∷ []) d (Memᴰ.head refl);
      p_r = different_head p (q ∷ r ∷ s ∷ []) d (Memᴰ.tail (Memᴰ.head refl));
      p_s = different_head p (q ∷ r ∷ s ∷ []) d (Memᴰ.tail (Memᴰ.tail (Memᴰ.head refl)));
      q_r = different_head q (r ∷ s ∷ []) e (Memᴰ.head refl);
      q_s = different_head q (r ∷ s ∷ []) e (Memᴰ.tail (Memᴰ.head refl));
      r_s = different_head r (s ∷ []) f (Memᴰ.head refl);
    }

pub proper_fits : (count : ℕ) (row : Row) → Proper count row → T (numbers_fit count row)
unfolding numbers_fit every different
proper_fits count row h =
    let p = row.p in
    let q = row.q in
    let r = row.r in
    let s = row.s in
    and_i (every (λ n. ltb n count) (numbers row)) (different (numbers row))
    (low p (q ∷ r ∷ s ∷ []) h.below_p (low q (r ∷ s ∷ []) h.below_q (low r (s ∷ []) h.below_r (low s [] h.below_s tt))))
    (different_cons p (q ∷ r ∷ s ∷ []) (far p q (r ∷ s ∷ []) h.p_q (far p r (s ∷ []) h.p_r (far p s [] h.p_s tt)))
    (different_cons q (r ∷ s ∷ []) (far q r (s ∷ []) h.q_r (far q s [] h.q_s tt))
    (different_cons r (s ∷ []) (far r s [] h.r_s tt) (different_cons s [] tt tt))))
  where
    low : (n : ℕ) (ns : List ℕ) → n < count → T (every (λ n. ltb n count) ns) → T (every (λ n. ltb n count) (n ∷ ns))
    low n ns h k = every_cons (λ n. ltb n count) n ns (lt→ltb n count h) k

    far : (m n : ℕ) (ns : List ℕ) → (m ≡ n → ⊥) → T (every (λ k. not (eqb m k)) ns) → T (every (λ k. not (eqb m k)) (n ∷ ns))
    far m n ns h k = every_cons (λ k. not (eqb m k)) n ns (not_T (eqb m n) (λ e. h (eqb→eq m n e))) k

-- the halves of the rule

pub keeps_fits : (count : ℕ) (rows : List Row) → T (keeps_mesh_rule count rows) → T (every (numbers_fit count) rows)
unfolding keeps_mesh_rule
keeps_fits count rows h = and_l (every (numbers_fit count) rows) (faces_apart rows) h

keeps_apart : (count : ℕ) (rows : List Row) → T (keeps_mesh_rule count rows) → T (faces_apart rows)
unfolding keeps_mesh_rule
keeps_apart count rows h = and_r (every (numbers_fit count) rows) (faces_apart rows) h

keeps_i : (count : ℕ) (rows : List Row) → T (every (numbers_fit count) rows) → T (faces_apart rows) → T (keeps_mesh_rule count rows)
unfolding keeps_mesh_rule
keeps_i count rows h k = and_i (every (numbers_fit count) rows) (faces_apart rows) h k

-- in a table that keeps the rule, each directed face stands in at most one row
pub keeps_hits : (count : ℕ) (rows : List Row) → T (keeps_mesh_rule count rows) → (f : Face) → hits f rows ≤ 1
keeps_hits count rows h f = apart_hits rows (keeps_apart count rows h) f

pub hits_keep : (count : ℕ) (rows : List Row) → T (every (numbers_fit count) rows) → ((f : Face) → hits f rows ≤ 1)
    → T (keeps_mesh_rule count rows)
hits_keep count rows h k = keeps_i count rows h (hits_apart rows k)

-- the test and the statement

pub rule_stated : (count : ℕ) (rows : List Row) → T (keeps_mesh_rule count rows) → MeshRule count rows
rule_stated count rows h = record {
  proper = λ i l. fit_proper count (get_or rows i no_row) (every_at (numbers_fit count) rows (keeps_fits count rows h) (at_in rows i no_row l));
  apart = λ i j l m f a b. one i j l m f a b (dec_lt i j) (dec_lt j i);
}
  where
    one : (i j : ℕ) → i < length rows → j < length rows → (f : Face) → T (uses f (get_or rows i no_row)) → T (uses f (get_or rows j no_row))
        → Dec (i < j) → Dec (j < i) → i ≡ j
    one i j l m f a b (yes c) d = absurd (omega (arith, count_two (uses f) rows no_row i j c m a b, keeps_hits count rows h f))
    one i j l m f a b (no c) (yes d) = absurd (omega (arith, count_two (uses f) rows no_row j i d l b a, keeps_hits count rows h f))
    one i j l m f a b (no c) (no d) = omega arith

pub rule_tested : (count : ℕ) (rows : List Row) → MeshRule count rows → T (keeps_mesh_rule count rows)
rule_tested count rows h =
    hits_keep count rows (every_i (numbers_fit count) rows fit) (λ f. once f (dec_lt (hits f rows) 2))
  where
    fit : (row : Row) → Memᴰ row rows → T (numbers_fit count row)
    fit row m =
        let k = in_at rows no_row m in
        proper_fits count row (rw k.2 at (h.proper k.0 k.1))

    once : (f : Face) → Dec (hits f rows < 2) → hits f rows ≤ 1
    once f (yes l) = omega arith
    once f (no l) =
        let k = two_places (uses f) rows no_row (omega arith) in
        let e = h.apart k.0 k.1 (omega (arith, k.2, k.3)) k.3 f k.4 k.5 in
        absurd (omega (arith, k.2, e))

-- a face stands in at most two rows, once each way
pub two_rows_lem : (points : ℕ) (rows : List Row) → T (keeps_mesh_rule points rows) → (f : Face) → count (uses_either_way f) rows ≤ 2
two_rows_lem points rows h f =
    omega (arith, count_or (uses f) (uses (reversed f)) rows, keeps_hits points rows h f, keeps_hits points rows h (reversed f))
