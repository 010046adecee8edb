use Rattle.std.proofs.Common.{None, Some, ◌∙◌}
use Rattle.smpl_meta.proofs.IndexLemmas.{var-at-place}
use Rattle.smpl_meta.proofs.variables.var_by.Goals as goal

pub returns-in-None : goal.returns-in-None
returns-in-None c = var-at-place c.args.vars.now c.args.names.now c.args.name.now None c.requires c.in-None.ensures

pub returns-in-Some : goal.returns-in-Some
returns-in-Some c = c.at.ensures ∙ var-at-place c.args.vars.now c.args.names.now c.args.name.now (Some c.in-Some.i) c.requires c.in-Some.ensures
