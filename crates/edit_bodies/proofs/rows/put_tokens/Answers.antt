use Rattle.std.proofs.Common.{◌-◌, arith, length}
use Rattle.edit_bodies.specs.Scenes.{text_in}
use Rattle.edit_bodies.proofs.RowLemmas.{tokens_both}
use Rattle.edit_bodies.proofs.rows.put_tokens.Goals as goal

pub returns : goal.returns
returns c =
    let tokens = c.args.tokens.now in
    tokens_both (text_in c.args.scene.now) c.args.braces.now c.args.behind.now tokens (length tokens - 1) c.args.row.now c.put_front.new.row c.put_token.new.row
    (omega arith) c.in_ok-put_front.ensures c.in_ok-put_token.ensures
