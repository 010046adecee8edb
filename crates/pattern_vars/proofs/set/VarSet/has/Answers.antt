use Rattle.std.proofs.Common.{ap, ◌∙◌, List}
use Rattle.smpl_terms.specs.declared.var.Var.{Var}
use Rattle.pattern_vars.specs.Reads.{has}
use Rattle.pattern_vars.proofs.SetLemmas.{looked_up, vars_of}
use Rattle.pattern_vars.proofs.set.VarSet.has.Goals as goal

pub returns : goal.returns
returns c =
    let keys = c.self.inside.set.keys in
    c.contains.ensures ∙ looked_up keys (record { var = c.in_ok-copy.field-0 })
    ∙ ap (λ (x : Var). has (vars_of keys) x) c.in_ok-copy.ensures.same ∙ ap (λ (vs : List Var). has vs c.args.x.now) c.self.view_is
