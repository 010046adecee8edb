use Rattle.std.proofs.Common.{◌∙◌, ◌++◌, ◌-◌, ap, length, drop, List}
use Rattle.smpl_terms.specs.declared.var.Var.{Var}
use Rattle.pattern_vars.specs.VarPlaces.Scopes.{joined}
use Rattle.pattern_vars.proofs.VarPlaces.SinceLemmas.{since-step}
use Rattle.pattern_vars.proofs.var_places.scope.Scope.since.Goals as goal

pub loop-link-preserved : goal.loop-link-preserved
loop-link-preserved c =
    let links = c.as_slice-link-items.result.now in
    let last = c.self.inside.last in
    let l = c.loop-link in
    since-step links l.link-index c.link-item.result last l.left c.saturating_sub-left.result l.found c.put_since.new.found
    (drop c.args.count (joined links ++ last)) c.loop-link-test.true c.link-item.is
    (c.in_ok-put_since.ensures ∙ ap (λ (z : List Var). l.found ++ drop l.left z) c.as_slice-vars.ensures)
    (c.saturating_sub-left.ensures ∙ ap (λ (z : List Var). l.left - length z) c.as_slice-vars.ensures) l.invariant
