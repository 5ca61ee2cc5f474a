-- The badness of an upright quality num / den, num over 0, is the least whole number b with den ≤ b·num; it is 1 at least.
-- Qualities that are one fraction have the same badness.
use Prim.Native.Nat.{ℕ, zero, suc, ◌*◌, ◌≤◌, ◌<◌}
use mathlib.Core.Bool.{cond, not}
use mathlib.Core.Path.{◌≡◌, refl, sym, ap, ◌∙◌, subst}
use native.Mathlib.Nat.{le_trans, mul_comm, mul-le-mul_left}
use native.Mathlib.Omega.{arith}
use lib.Dec.{T}
use Rattle.std.specs.Prelude.{None, Some}
use Rattle.exact.specs.Fractions.{rounded_up}
use Rattle.exact.proofs.RoundedUp.{enough, least, of_equals}
use Rattle.lists.proofs.Tests.{yes_is, no_is}
use Rattle.quality.specs.declared.Kind.{Kind}
use Rattle.quality.specs.declared.Kind.TheVariants.{Upright, Flat, Inverted}
use Rattle.quality.specs.declared.Quality.{Quality}
use Rattle.quality.specs.Quality.{is_upright, is_flat, as_good}
use Rattle.score.specs.Score.{badness, added}
use Rattle.quality.proofs.ConsistentQualities.{Consistent, Same, of_kind, same}

pub badness_upright : (q : Quality) → T (is_upright q) → badness q ≡ Some (rounded_up q.den q.num)
unfolding badness
badness_upright q u = rw (yes_is (is_upright q) u)

pub badness_other : (q : Quality) → T (not (is_upright q)) → badness q ≡ None
unfolding badness
badness_other q u = rw (no_is (is_upright q) u)

module _ (q : Quality) (u : T (is_upright q)) (p : 0 < q.num) where
  pub badness_enough : q.den ≤ added (badness q) * q.num
  badness_enough = rw (badness_upright q u) (enough q.den q.num p)

  pub badness_least : (b : ℕ) → q.den ≤ b * q.num → added (badness q) ≤ b
  badness_least b h = rw (badness_upright q u) (least q.den q.num p b h)

  -- what is enough for a smaller numerator is enough
  pub badness_within : (b n : ℕ) → n ≤ q.num → q.den ≤ b * n → added (badness q) ≤ b
  badness_within b n l h = badness_least b (le_trans h (mul-le-mul_left b l))

  pub badness_over : 0 < q.den → 1 ≤ added (badness q)
  badness_over d = go (added (badness q)) badness_enough
    where
      go : (b : ℕ) → q.den ≤ b * q.num → 1 ≤ b
      go zero h = absurd (omega arith)
      go (suc b) h = omega arith

pub badness_same : (q r : Quality) → Consistent q → Consistent r → T (as_good q r) → badness q ≡ badness r
unfolding badness
badness_same q r p s h =
    go q.kind rounded ∙ ap (λ k. cond (is_upright (of_kind k r)) (Some (rounded_up r.den r.num)) None) e.kind
  where
    e : Same q r
    e = same q r p s h

    rounded : T (not (is_flat q)) → rounded_up q.den q.num ≡ rounded_up r.den r.num
    rounded t =
        of_equals q.den q.num r.den r.num (p.size t) (s.size (subst (λ k. T (not (is_flat (of_kind k r)))) e.kind t))
        (mul_comm q.den r.num ∙ sym (e.size t) ∙ mul_comm q.num r.den)

    go :
        {m n : ℕ} (k : Kind)
        → (T (not (is_flat (of_kind k q))) → m ≡ n)
        → cond (is_upright (of_kind k q)) (Some m) None ≡ cond (is_upright (of_kind k r)) (Some n) None
    go Upright f = ap Some (f tt)
    go Flat f = refl
    go Inverted f = refl
