use Rattle.std.proofs.Common.{◌+◌, List, subst}
use Rattle.c_terms.specs.declared.token.Token.{Token}
use Rattle.edit_bodies.specs.Rows.{ending_at, spot}
use Rattle.edit_bodies.specs.Scenes.{AddsRow, text_in}
use Rattle.edit_bodies.proofs.RowLemmas.{side_end, side_more, side_start}
use Rattle.edit_bodies.proofs.rows.put_side.Goals as goal

pub loop-i-init : goal.loop-i-init
loop-i-init c =
    side_start (text_in c.args.scene.now) c.args.braces.now c.args.side.0 c.args.side.1 c.args.row.now c.put_braces.new.row c.in_ok-put_braces.ensures

pub loop-i-preserved : goal.loop-i-preserved
loop-i-preserved c =
    side_more (text_in c.args.scene.now) c.args.braces.now c.args.side.0 c.args.side.1 c.args.inserts.now c.loop-i.i _ c.args.row.now
    c.loop-i.row c.put_words.new.row c.put_braces-in-loop-i.new.row c.loop-i-test.true c.loop-i.invariant
    (subst (λ (ts : List Token). AddsRow (ending_at (spot c.args.side.0 c.args.side.1 (c.loop-i.i + 1)) ts) c.loop-i.row c.put_words.new.row)
    c.tokens.ensures c.in_ok-put_words.ensures)
    c.in_ok-put_braces-2.ensures

pub returns : goal.returns
returns c =
    side_end (text_in c.args.scene.now) c.args.braces.now c.args.side.0 c.args.side.1 c.args.inserts.now c.loop-i.i c.args.row.now c.loop-i.row
    c.loop-i-test.false c.loop-i.invariant
