use Rattle.std.proofs.Common.{List, get_or, subst}
use Rattle.edit_unparse.specs.declared.tidy.plan.Placed.{Placed}
use Rattle.edit_bodies.specs.Rows.{row_token}
use Rattle.edit_bodies.specs.Scenes.{AddsRow, text_in}
use Rattle.edit_bodies.proofs.RowLemmas.{adds_none, front_end, front_more}
use Rattle.edit_bodies.proofs.rows.put_front.Goals as goal

pub loop-token-init : goal.loop-token-init
loop-token-init c = adds_none c.args.row.now

pub loop-token-preserved : goal.loop-token-preserved
loop-token-preserved c =
    let text = text_in c.args.scene.now in
    let n = get_or c.args.tokens.now c.loop-token.token-index 0 in
    front_more text c.args.braces.now c.args.tokens.now c.loop-token.token-index c.args.row.now c.loop-token.row c.put_token.new.row c.loop-token-test.true
    c.loop-token.invariant
    (subst (λ (ps : List Placed). AddsRow (row_token text c.args.braces.now n ps) c.loop-token.row c.put_token.new.row) c.at-inserts.ensures
    c.in_ok-put_token.ensures)

pub returns : goal.returns
returns c =
    front_end (text_in c.args.scene.now) c.args.braces.now c.args.tokens.now c.loop-token.token-index c.args.row.now c.loop-token.row c.loop-token-test.false
    c.loop-token.invariant
