use Rattle.std.proofs.Common.{◌≡◌, ◌∙◌, ◌||◌, ap, sym, Bool, true, false, List}
use Rattle.std.specs.List.{list_any}
use Rattle.smpl_terms.specs.declared.var.Var.{Var}
use Rattle.pattern_vars.specs.Reads.{has}
use Rattle.pattern_vars.proofs.VarPlaces.FirstLemmas.{scope-has}
use Rattle.pattern_vars.proofs.var_places.scope.Scope.has.Goals as goal

pub returns-then-is_in_some : goal.returns-then-is_in_some
returns-then-is_in_some c =
    let inside = c.self.inside in
    let x = c.in_ok-copy.field-0 in
    let found : true ≡ list_any (λ link. has link x) inside.outer =
    sym c.if-is_in_some.true ∙ c.is_in_some.ensures ∙ ap (λ (links : List (List Var)). list_any (λ link. has link x) links) c.as_slice.ensures.items in
    ap (λ (b : Bool). b || has inside.last x) found ∙ scope-has inside.outer inside.last x
    ∙ ap (λ (vars : List Var). has vars x) c.self.view_is ∙ ap (λ (v : Var). has c.args.self.now v) c.in_ok-copy.ensures.same

pub returns : goal.returns
returns c =
    let inside = c.self.inside in
    let x = c.in_ok-copy.field-0 in
    let found : false ≡ list_any (λ link. has link x) inside.outer =
    sym c.if-is_in_some.false ∙ c.is_in_some.ensures ∙ ap (λ (links : List (List Var)). list_any (λ link. has link x) links) c.as_slice.ensures.items in
    c.has.ensures ∙ ap (λ (b : Bool). b || has inside.last x) found ∙ scope-has inside.outer inside.last x
    ∙ ap (λ (vars : List Var). has vars x) c.self.view_is ∙ ap (λ (v : Var). has c.args.self.now v) c.in_ok-copy.ensures.same
