use Rattle.edit_bodies.proofs.RowLemmas.{adds_none, words_end, words_more}
use Rattle.edit_bodies.proofs.rows.put_words.Goals as goal

pub loop-word-init : goal.loop-word-init
loop-word-init c = adds_none c.args.row.now

pub loop-word-preserved : goal.loop-word-preserved
loop-word-preserved c =
    words_more c.args.spot c.args.words.now c.loop-word.word-index c.word-item.result c.in_ok-own.own c.args.row.now c.loop-word.row c.push.new.row
    c.loop-word-test.true c.word-item.is c.in_ok-own.ensures.same c.loop-word.invariant c.in_ok-push.ensures

pub returns : goal.returns
returns c =
    words_end c.args.spot c.args.words.now c.loop-word.word-index c.args.row.now c.loop-word.row c.loop-word-test.false c.loop-word.invariant
