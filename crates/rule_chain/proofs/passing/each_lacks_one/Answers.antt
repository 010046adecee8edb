use Rattle.std.proofs.Common.{subst, arith}
use Rattle.std.specs.Prelude.{All}
use Rattle.std.proofs.lemmas.List.{take_all}
use Rattle.rule_chain.specs.RuleWords.{LacksOne}
use Rattle.rule_chain.proofs.StandLemmas.{one_more}
use Rattle.rule_chain.proofs.passing.each_lacks_one.Goals as goal

pub loop-list-preserved : goal.loop-list-preserved
loop-list-preserved c =
    one_more c.args.bytes.now c.args.words.now c.loop-list.list-index c.list-item.result c.as_slice.result.now c.lacks_one.result
    c.loop-list-test.true c.list-item.is c.as_slice.ensures c.if-not-lacks_one.false c.lacks_one.ensures c.loop-list.invariant

pub returns : goal.returns
returns c = λ h. subst (All (LacksOne c.args.bytes.now)) (take_all c.loop-list.list-index c.args.words.now (omega arith)) c.loop-list.invariant
