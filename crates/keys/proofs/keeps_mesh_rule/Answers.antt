-- `keeps_mesh_rule` joins the two halves of the rule.
use mathlib.Core.Path.{sym, ◌∙◌}
use Rattle.mesh.specs.Mesh.{keeps_mesh_rule}
use Rattle.keys.proofs.keeps_mesh_rule.Goals as goal

pub returns-then-not-all_fit : goal.returns-then-not-all_fit
unfolding keeps_mesh_rule
returns-then-not-all_fit c = rw (sym c.all_fit.ensures ∙ c.if-not-all_fit.true)

pub returns : goal.returns
unfolding keeps_mesh_rule
returns c =
    rw (sym c.all_fit.ensures
    ∙ c.if-not-all_fit.false) c.all_apart.ensures
