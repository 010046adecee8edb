use Rattle.std.proofs.Common.{arith}
use Rattle.std.specs.Prelude.{slice_range}
use Rattle.c_lexer.specs.Pieces.{text_of}
use Rattle.edit_marks.proofs.EditWalk.TokenLemmas.{id_more}
use Rattle.edit_marks.proofs.edit_walk.tokens.token_ids.Goals as goal

pub loop-i-preserved : goal.loop-i-preserved
loop-i-preserved c =
    let pieces = c.args.lexed.now in
    let p = c.piece.result in
    record {
      ids = id_more pieces c.loop-i.i (record { kind = p.kind; text = slice_range (text_of pieces) p.start p.end }) c.loop-i.ids.items c.put_id.new.ids.items
          c.piece.ensures.piece c.in_ok-put_id.ensures.ids c.loop-i.invariant.ids;
      few = omega (arith, c.in_ok-put_id.ensures.one, c.loop-i.invariant.few);
    }
