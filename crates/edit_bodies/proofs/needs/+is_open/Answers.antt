use Rattle.std.proofs.Common.{sym, ap, ◌∙◌}
use Rattle.c_terms.specs.declared.tree.Tree.TheVariants.{Branch}
use Rattle.edit_bodies.proofs.OpenLemmas.{last_is, last_none, open_last}
use Rattle.edit_bodies.proofs.needs.+is_open.Goals as goal

pub returns-in-Some : goal.returns-in-Some
returns-in-Some t c =
    let cs = c.as_slice.result.now in
    let is = c.in-Branch.is ∙ ap (Branch c.in-Branch.label) (sym c.as_slice.ensures) in
    open_last c.args.tree.now c.in-Branch.label cs c.is_open.result is (sym c.is_if.ensures ∙ c.if-is_if.false) (sym c.goes_on.ensures ∙ c.if-not-goes_on.false)
    (last_is cs c.in-Some.body.now c.in-Some.ensures.value ∙ sym c.is_open.ensures)

pub returns-in-None : goal.returns-in-None
returns-in-None t c =
    let cs = c.as_slice.result.now in
    let is = c.in-Branch.is ∙ ap (Branch c.in-Branch.label) (sym c.as_slice.ensures) in
    open_last c.args.tree.now c.in-Branch.label cs _ is (sym c.is_if.ensures ∙ c.if-is_if.false) (sym c.goes_on.ensures ∙ c.if-not-goes_on.false)
    (last_none cs c.in-None.ensures.value)
