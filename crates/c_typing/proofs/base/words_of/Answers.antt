use Rattle.std.proofs.Common.{arith, []}
use Rattle.c_typing.specs.Base.{basic_words, times}
use Rattle.c_types.proofs.JoinLemmas.{join-more}
use Rattle.c_typing.proofs.base.words_of.Goals as goal

pub loop-i-preserved : goal.loop-i-preserved
loop-i-preserved c =
    join-more (λ word. times word c.args.children.now) basic_words c.loop-i.i c.basic_word.result.now [] c.loop-i.words c.put_word.new.found (omega arith)
    c.basic_word.ensures c.loop-i.invariant c.in_ok-put_word.ensures
