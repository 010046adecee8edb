use Rattle.std.proofs.Common.{ap, ◌∙◌, cond, Some}
use Rattle.smpl_terms.specs.declared.var.Var.{Var}
use Rattle.smpl_terms.specs.Vars.{same_var}
use Rattle.pattern_vars.specs.Keys.{value_of}
use Rattle.pattern_vars.proofs.MapLemmas.{inserted}
use Rattle.pattern_vars.proofs.var_places.homes.put_home.Goals as goal

pub returns : goal.returns
returns c y =
    let entries = c.args.homes.now.entries in
    ap (λ es. value_of es y) c.in_ok-insert.ensures.entries ∙ inserted (record { var = c.in_ok-copy.field-0 }) c.args.home y entries
    ∙ ap (λ (v : Var). cond (same_var v y) (Some c.args.home) (value_of entries y)) c.in_ok-copy.ensures.same
