use Rattle.std.proofs.Common.{◌∙◌, ap, subst, List, map}
use Rattle.std.specs.Prelude.{filter}
use Rattle.c_terms.specs.declared.token.Token.{Token}
use Rattle.edit_bodies.specs.declared.braces.Coming.{Coming}
use Rattle.edit_bodies.specs.Rows.{brace, ending_at, same_spot}
use Rattle.edit_bodies.specs.Scenes.{AddsRow}
use Rattle.edit_bodies.proofs.RowLemmas.{adds_none, braces_end, braces_more, map_both}
use Rattle.edit_bodies.proofs.rows.put_braces.Goals as goal

pub loop-opens-init : goal.loop-opens-init
loop-opens-init c = adds_none c.args.row.now

pub loop-opens-preserved : goal.loop-opens-preserved
loop-opens-preserved c =
    braces_more c.args.spot c.deref-opens-items.result.now c.loop-opens.opens-index c.in_ok-sign.sign c.args.row.now c.loop-opens.row c.push.new.row
    c.loop-opens-test.true c.in_ok-sign.ensures c.loop-opens.invariant c.in_ok-push.ensures

pub returns : goal.returns
returns c =
    subst (λ (ts : List Token). AddsRow (ending_at c.args.spot ts) c.args.row.now c.loop-opens.row)
    (ap (map brace) (c.deref-opens-items.ensures.value ∙ c.in_ok-found.ensures)
    ∙ map_both (λ (b : Coming). b.opens) (filter (λ b. same_spot b.spot c.args.spot) c.args.braces.now))
    (braces_end c.args.spot c.deref-opens-items.result.now c.loop-opens.opens-index c.args.row.now c.loop-opens.row
    c.loop-opens-test.false c.loop-opens.invariant)
