use Rattle.std.proofs.Common.{ap, ◌∙◌, ◌||◌, List}
use Rattle.smpl_terms.specs.declared.var.Var.{Var}
use Rattle.smpl_terms.specs.Vars.{same_var}
use Rattle.pattern_vars.specs.declared.set.Key.{Key}
use Rattle.pattern_vars.specs.Reads.{has}
use Rattle.pattern_vars.proofs.SetLemmas.{put_more, vars_of}
use Rattle.pattern_vars.proofs.set.VarSet.put.Goals as goal

pub returns : goal.returns
returns c y =
    let keys = c.self.inside.set.keys in
    ap (λ (ks : List Key). has (vars_of ks) y) c.in_ok-insert.ensures.keys ∙ put_more keys (record { var = c.in_ok-copy.field-0 }) y
    ∙ ap (λ (v : Var). has (vars_of keys) y || same_var v y) c.in_ok-copy.ensures.same
    ∙ ap (λ (vs : List Var). has vs y || same_var c.args.x.now y) c.self.view_is
