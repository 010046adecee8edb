use Rattle.std.proofs.Common.{ap, ◌∙◌, List}
use Rattle.std.specs.List.{position_from}
use Rattle.smpl_terms.specs.declared.var.Var.{Var}
use Rattle.smpl_terms.specs.Vars.{same_var}
use Rattle.pattern_vars.proofs.MapLemmas.{looked}
use Rattle.pattern_vars.proofs.var_places.numbered.Numbered.place_of.Goals as goal

pub returns : goal.returns
returns c =
    let x = c.args.x.now in
    c.copied.ensures ∙ c.get.ensures.value ∙ looked x c.self.inside.firsts.entries ∙ c.self.invariant x.var
    ∙ ap (λ (vars : List Var). position_from (λ v. same_var v x.var) 0 vars) c.self.view_is
