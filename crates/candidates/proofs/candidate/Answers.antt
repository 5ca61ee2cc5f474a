-- `candidate` is the definition's, test by test: with a barred side it is the mark, whatever the rest.
use Prim.Native.Nat.{ℕ}
use mathlib.Core.Bool.{Bool, true, false, cond}
use mathlib.Core.List.{List}
use mathlib.Core.Option.{Option, some, none}
use mathlib.Core.Path.{◌≡◌, refl, sym, subst, ◌∙◌}
use Rattle.quality.specs.declared.Quality.{Quality}
use Rattle.candidates.specs.declared.Bipyramid.{Bipyramid}
use Rattle.candidates.specs.declared.Side.{Side}
use Rattle.candidates.specs.declared.Side.TheVariants.{Barred}
use Rattle.kept_faces.specs.Steps.{used_by}
use Rattle.candidates.specs.Steps.{beside_of, worst_over, candidate_over}
use Rattle.candidates.proofs.candidate.Goals as goal

abbrev mark : Option Quality
mark = none

mark_either_way : (b : Bool) → mark ≡ cond b mark mark
mark_either_way true = refl
mark_either_way false = refl

right_marked : (b : Bool) (beside : Option Quality) → mark ≡ cond b mark (elim beside [ none ↦ mark | some q ↦ beside_of Barred q ])
right_marked b none = mark_either_way b
right_marked b (some q) = mark_either_way b

module _ (coordinates keys : List ℕ) (rows : Bipyramid) (left right : Side) where
  left_barred : left ≡ Barred → mark ≡ candidate_over coordinates keys rows left right
  unfolding candidate_over
  left_barred barred = rw barred (mark_either_way (used_by keys (rows.x, rows.y, rows.z)))

  right_barred : right ≡ Barred → mark ≡ candidate_over coordinates keys rows left right
  unfolding candidate_over
  right_barred barred =
      subst (λ (side : Side). mark ≡ candidate_over coordinates keys rows left side) (sym barred)
      (right_marked (used_by keys (rows.x, rows.y, rows.z)) (beside_of left (worst_over coordinates rows)))

pub returns-in-Barred : goal.returns-in-Barred
returns-in-Barred c = left_barred _ _ _ _ _ c.in-Barred.is

pub returns-in-Barred-right : goal.returns-in-Barred-right
returns-in-Barred-right c = right_barred _ _ _ _ _ c.in-Barred-right.is

pub returns-then-uses_either : goal.returns-then-uses_either
unfolding candidate_over
returns-then-uses_either c = rw (sym c.uses_either.ensures ∙ c.if-uses_either.true)

pub returns : goal.returns
unfolding candidate_over
returns c =
    c.beside-2.ensures
    ∙ rw (sym c.uses_either.ensures ∙ c.if-uses_either.false, ← c.worst_of_two.ensures, ← c.beside.ensures, c.in_ok-q.was)
