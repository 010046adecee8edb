use Rattle.std.proofs.Common.{ap, ◌∙◌, List}
use Rattle.smpl_terms.specs.declared.var.Var.{Var}
use Rattle.pattern_vars.specs.Reads.{number_of}
use Rattle.pattern_vars.proofs.SetLemmas.{numbered, vars_of}
use Rattle.pattern_vars.proofs.set.VarSet.number.Goals as goal

pub returns : goal.returns
returns c =
    let keys = c.self.inside.set.keys in
    c.get_index_of.ensures.index ∙ numbered keys (record { var = c.in_ok-copy.field-0 })
    ∙ ap (λ (x : Var). number_of (vars_of keys) x) c.in_ok-copy.ensures.same ∙ ap (λ (vs : List Var). number_of vs c.args.x.now) c.self.view_is
