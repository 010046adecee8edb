use Rattle.std.proofs.Common.{ap, ◌∙◌, List}
use Rattle.smpl_terms.specs.declared.var.Var.{Var as Variable}
use Rattle.smpl_file.specs.Exports.{has_var}
use Rattle.smpl_file.proofs.taken.Taken.has.Goals as goal

pub returns : goal.returns
returns c =
    c.in_ok-there.ensures ∙ c.self.invariant c.args.x.now ∙ ap (λ (vs : List Variable). has_var vs c.args.x.now) c.self.view_is
