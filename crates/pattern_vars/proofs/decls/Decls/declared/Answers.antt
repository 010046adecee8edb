use Rattle.std.proofs.Common.{◌≡◌, ap, ◌∙◌, Some, slice_get}
use Rattle.smpl_patch.specs.Patterns.{declared_as}
use Rattle.pattern_vars.specs.Index.{number_in, at}
use Rattle.pattern_vars.proofs.IndexLemmas.{found, pairs}
use Rattle.pattern_vars.proofs.decls.Decls.declared.Goals as goal

pub returns-in-Some : goal.returns-in-Some
returns-in-Some c =
    let inside = c.self.inside in
    let name = c.args.name.now in
    let i = c.in-Some.i.now in
    let e : Some i ≡ number_in (pairs (λ k. k.items) inside.numbers.entries) name =
    c.in-Some.ensures.value ∙ found (λ k. k.items) name inside.numbers.entries in
    c.numbered.ensures ∙ ap (λ ds. slice_get ds i) c.as_slice.ensures ∙ ap (at inside.decls) e ∙ c.self.invariant name
    ∙ ap (λ ds. declared_as ds name) c.self.view_is

pub returns-in-None : goal.returns-in-None
returns-in-None c =
    let inside = c.self.inside in
    let name = c.args.name.now in
    ap (at inside.decls) (c.in-None.ensures.value ∙ found (λ k. k.items) name inside.numbers.entries) ∙ c.self.invariant name
    ∙ ap (λ ds. declared_as ds name) c.self.view_is
