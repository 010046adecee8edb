use Rattle.std.proofs.Common.{◌∙◌, ap, take, List}
use Rattle.smpl_terms.specs.declared.var.Var.{Var}
use Rattle.pattern_vars.specs.Reads.{has}
use Rattle.pattern_vars.proofs.VarPlaces.FirstLemmas.{is_before, front-has}
use Rattle.pattern_vars.proofs.var_places.scope.Link.has.Goals as goal

pub returns-in-Some : goal.returns-in-Some
returns-in-Some c =
    let inside = c.self.inside in
    let x = c.args.x.now.var in
    ap (is_before inside.count) (c.in-Some.ensures) ∙ front-has c.get.result.now inside.count x
    ∙ ap (λ (vars : List Var). has (take inside.count vars) x) c.get.ensures.value ∙ ap (λ (vars : List Var). has vars x) c.self.view_is

pub returns-in-None : goal.returns-in-None
returns-in-None c =
    let inside = c.self.inside in
    let x = c.args.x.now.var in
    ap (is_before inside.count) (c.in-None.ensures) ∙ front-has c.get.result.now inside.count x
    ∙ ap (λ (vars : List Var). has (take inside.count vars) x) c.get.ensures.value ∙ ap (λ (vars : List Var). has vars x) c.self.view_is
