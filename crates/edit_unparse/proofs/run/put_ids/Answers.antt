use Rattle.std.proofs.Common.{sym, arith}
use Rattle.edit_unparse.proofs.RunLemmas.{passes_start, stop_word, ids_start, same_start, same_more, word_there, word_beyond, next_pass, next_ids}
use Rattle.edit_unparse.proofs.run.put_ids.Goals as goal

pub loop-piece-init : goal.loop-piece-init
loop-piece-init c = record {
  passes = passes_start c.args.lexed.now c.args.from c.args.stop c.requires.within c.requires.few c.requires.ahead;
  ids = ids_start c.args.lexed.now c.args.from.piece c.args.draft.now.ids.items;
  same = same_start c.args.draft.now;
  all = c.count-count.ensures.count;
  few = c.count-count.ensures.at_most;
}

-- the piece at which it stops is a token
pub returns-then-stops-clause-run : goal.returns-then-stops-clause-run
returns-then-stops-clause-run c = record {
  passes = c.loop-piece.invariant.passes;
  word = λ p at. word_there c.args.lexed.now c.loop-piece.piece c.piece-here.result.kind _ p c.piece-here.ensures.piece
      (stop_word c.piece-here.result.kind c.loop-piece.token c.args.stop (sym c.if-stops.ensures)) at;
}

pub put_id-requires : goal.put_id-requires
put_id-requires c = omega (arith, c.loop-piece.invariant.passes.few, c.loop-piece-test.true, c.loop-piece.invariant.few)

pub loop-piece-preserved : goal.loop-piece-preserved
loop-piece-preserved c =
    let here = c.piece-here.result.kind in
    record {
      passes = next_pass c.args.lexed.now c.args.from c.args.stop c.loop-piece.piece c.loop-piece.token c.in_ok-token.token here
          _ c.piece-here.ensures.piece (omega (arith, c.loop-piece-test.true, c.loop-piece.invariant.all))
          (sym c.if-stops.ensures) c.in_ok-token.ensures.next c.loop-piece.invariant.passes;
      ids = next_ids c.args.lexed.now c.args.from.piece c.loop-piece.piece here _ c.args.draft.now.ids.items
          c.loop-piece.draft.ids.items c.put_id.new.draft.ids.items c.loop-piece.invariant.passes.on c.piece-here.ensures.piece
          c.in_ok-token.ensures.ids c.loop-piece.invariant.ids;
      same = same_more c.args.draft.now c.loop-piece.draft c.put_id.new.draft c.loop-piece.invariant.same c.in_ok-token.ensures.same;
      all = c.loop-piece.invariant.all;
      few = c.loop-piece.invariant.few;
    }

pub returns-clause-run : goal.returns-clause-run
returns-clause-run c = record {
  passes = c.loop-piece.invariant.passes;
  word = λ p at. word_beyond c.args.lexed.now c.loop-piece.piece p (omega (arith, c.loop-piece-test.false, c.loop-piece.invariant.all)) at;
}
