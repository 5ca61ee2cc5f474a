-- The link that goes on from a point: it is one of the links, and the only one where a point starts at most one; the link that comes
-- to a point, where a point ends at most one.
use Prim.Native.Nat.{ℕ}
use mathlib.Core.Bool.{Bool, true, false, cond}
use mathlib.Core.List.Memᴰ
use mathlib.Core.List.{List, [], ◌∷◌, Memᴰ}
use mathlib.Core.Option.{some}
use mathlib.Core.Path.{◌≡◌, refl, sym, ap, ◌∙◌}
use borrow.Author.Tests.{eqb-true, eqb-false, eq-eqb, ne_eqb}
use lib.Dec.{T, eqb}
use Rattle.lists.specs.Lists.{different}
use Rattle.lists.proofs.Numbers.{different_head, different_tail}
use Rattle.lists.proofs.Options.{some_is, none_not, pair_is}
use Rattle.lists.proofs.Places.{in_cases}
use Rattle.links.specs.Links.{Link, next, starts, ends}

-- a step goes along a link
pub next_in : (links : List Link) (v : ℕ) {w : ℕ} → next links v ≡ some w → Memᴰ (v, w) links
unfolding next
next_in [] v e = absurd (none_not e)
next_in (l ∷ ls) v {w} e = go (eqb l.0 v) refl (next_in ls v) e
  where
    go : (b : Bool) → eqb l.0 v ≡ b → (next ls v ≡ some w → Memᴰ (v, w) ls) → cond b (some l.1) (next ls v) ≡ some w
        → Memᴰ (v, w) (l ∷ ls)
    go true q f e =
        let a = eqb-true l.0 v q in
        let b = some_is e in
        Memᴰ.head (sym (pair_is l (sym a) (sym b)))
    go false q f e = Memᴰ.tail (f e)

-- and along each link, where a point starts at most one
pub next_is : (links : List Link) {v w : ℕ} → T (different (starts links)) → Memᴰ (v, w) links → next links v ≡ some w
unfolding next
next_is [] h m = absurd (Memᴰ.not-nil m)
next_is (l ∷ ls) {v} {w} h m = go (eqb l.0 v) refl (next_is ls (different_tail l.0 (starts ls) h))
  where
    go : (b : Bool) → eqb l.0 v ≡ b → (Memᴰ (v, w) ls → next ls v ≡ some w) → cond b (some l.1) (next ls v) ≡ some w
    go true q f =
        in_cases m (λ e. ap some (sym (ap (λ (x : Link). x.1) e)))
        (λ k. absurd (different_head l.0 (starts ls) h (Memᴰ.map (λ (x : Link). x.0) k) (eqb-true l.0 v q)))
    go false q f = f (in_cases m (λ e. absurd (eqb-false l.0 v q (sym (ap (λ (x : Link). x.0) e)))) (λ k. k))

-- there is a step from the start of a link
pub next_some : (links : List Link) {v : ℕ} → Memᴰ v (starts links) → (w : ℕ) × (next links v ≡ some w)
unfolding next
next_some [] m = absurd (Memᴰ.not-nil m)
next_some (l ∷ ls) {v} m = go (eqb l.0 v) refl (λ k. next_some ls k)
  where
    go : (b : Bool) → eqb l.0 v ≡ b → (Memᴰ v (starts ls) → (w : ℕ) × (next ls v ≡ some w))
        → (w : ℕ) × (cond b (some l.1) (next ls v) ≡ some w)
    go true q f = (l.1, refl)
    go false q f = f (in_cases m (λ e. absurd (eqb-false l.0 v q (sym e))) (λ k. k))

-- the step, looked for among the links from the front
module _ {links rest : List Link} {s e here : ℕ} (q : links ≡ (s, e) ∷ rest) where
  pub next_here : here ≡ s → next links here ≡ some e
  unfolding next
  next_here h = rw (q, eq-eqb s here (sym h))

  pub next_later : (here ≡ s → ⊥) → next links here ≡ next rest here
  unfolding next
  next_later h = rw (q, ne_eqb s here (λ i. h (sym i)))

-- a point ends at most one link
pub one_before : (links : List Link) {x y z : ℕ} → T (different (ends links)) → Memᴰ (x, z) links → Memᴰ (y, z) links → x ≡ y
one_before [] h m k = absurd (Memᴰ.not-nil m)
one_before (l ∷ ls) {x} {y} {z} h m k =
    let fresh : (u : ℕ) → z ≡ l.1 → Memᴰ (u, z) ls → ⊥ =
    λ u e k. different_head l.1 (ends ls) h (Memᴰ.map (λ (l : Link). l.1) k) (sym e) in
    in_cases m
    (λ e. in_cases k (λ f. ap (λ (l : Link). l.0) (e ∙ sym f)) (λ k. absurd (fresh y (ap (λ (l : Link). l.1) e) k)))
    (λ m. in_cases k (λ f. absurd (fresh x (ap (λ (l : Link). l.1) f) m)) (λ k. one_before ls (different_tail l.1 (ends ls) h) m k))
