use Rattle.std.proofs.Common.{ap, ◌∙◌}
use Rattle.smpl_terms.specs.declared.var.Var.{Var}
use Rattle.pattern_vars.specs.Keys.{value_of}
use Rattle.pattern_vars.proofs.MapLemmas.{looked}
use Rattle.pattern_vars.proofs.var_places.homes.home_of.Goals as goal

pub returns : goal.returns
returns c =
    let entries = c.args.homes.now.entries in
    c.copied.ensures ∙ c.get-found.ensures.value ∙ looked (record { var = c.in_ok-copy.field-0 }) entries
    ∙ ap (λ (v : Var). value_of entries v) c.in_ok-copy.ensures.same
