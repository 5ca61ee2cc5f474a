-- `link_of` finds a among the four numbers: the face opposite, read from b on, is the rest of the even rearrangement that begins with a.
use Prim.Native.Nat.{ℕ}
use native.Mathlib.Omega.{arith}
use mathlib.Core.List.{Memᴰ}
use mathlib.Core.Path.{◌≡◌, sym, ◌∙◌}
use Rattle.lists.proofs.Tests.{and_l, and_r}
use Rattle.lists.proofs.Places.{at_in}
use Rattle.rows.specs.declared.Row.{Row}
use Rattle.rows.specs.Rows.{holds, no_row}
use Rattle.rows.specs.Tetrahedra.{evenly}
use Rattle.mesh.proofs.MeshRuleStated.{fit_proper}
use Rattle.rows.proofs.EvenMoves.{even_i, holds_cases}
use Rattle.links.specs.Links.{link}
use Rattle.links.specs.Steps.{LinkedRow, following}
use Rattle.links.proofs.LinksUnderRule.{link_following}
use Rattle.links.proofs.link_of.Goals as goal

opposite : {a b : ℕ} {row t : Row} → LinkedRow a b row → Memᴰ t (evenly row) → a ≡ t.p
    → following t.q t.r t.s b ≡ link a b row
opposite {a} {b} {row} {t} h m i =
    let proper = fit_proper h.count row h.fits in
    rw i (sym (link_following row t b proper (even_i t row m) (λ j. h.apart (i ∙ j)) (and_r (holds row a) (holds row b) h.held)))

-- a stands in the last place if in none of the others
last_place : {a b : ℕ} {row : Row} → LinkedRow a b row → (a ≡ row.p → ⊥) → (a ≡ row.q → ⊥) → (a ≡ row.r → ⊥) → a ≡ row.s
last_place {a} {b} {row} h p q r =
    holds_cases row a (and_l (holds row a) (holds row b) h.held) (λ i. absurd (p i)) (λ i. absurd (q i)) (λ i. absurd (r i)) (λ i. i)

pub returns-then-a-row : goal.returns-then-a-row
unfolding evenly
returns-then-a-row c = c.after.ensures ∙ opposite c.requires (at_in (evenly _) 0 no_row (omega arith)) c.if-a-row.true

pub returns-then-a-row-2 : goal.returns-then-a-row-2
unfolding evenly
returns-then-a-row-2 c =
    c.after-then-a-row-2.ensures ∙ opposite c.requires
    (at_in (evenly _) 3 no_row (omega arith)) c.if-a-row-2.true

pub returns-then-a-row-3 : goal.returns-then-a-row-3
unfolding evenly
returns-then-a-row-3 c =
    c.after-then-a-row-3.ensures ∙ opposite c.requires
    (at_in (evenly _) 6 no_row (omega arith)) c.if-a-row-3.true

pub returns : goal.returns
unfolding evenly
returns c =
    let pre = c.requires in
    let at_last =
    last_place pre c.if-a-row.false c.if-a-row-2.false c.if-a-row-3.false in
    c.after-2.ensures ∙ opposite pre (at_in (evenly _) 9 no_row (omega arith)) at_last
