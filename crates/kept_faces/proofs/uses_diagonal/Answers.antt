-- `uses_diagonal` looks up the face of a, then the face of b.
use mathlib.Core.Path.{sym, ◌∙◌}
use Rattle.kept_faces.proofs.uses_diagonal.Goals as goal

pub returns-then-uses_either : goal.returns-then-uses_either
returns-then-uses_either c = rw (sym c.uses_either.ensures ∙ c.if-uses_either.true)

pub returns : goal.returns
returns c =
    rw (sym c.uses_either.ensures ∙ c.if-uses_either.false) c.uses_either-2.ensures
