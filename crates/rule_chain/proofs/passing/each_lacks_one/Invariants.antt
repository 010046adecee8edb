use Rattle.std.proofs.Common.{take}
use Rattle.std.specs.Prelude.{All}
use Rattle.rule_chain.specs.RuleWords.{LacksOne}
use Rattle.rule_chain.proofs.passing.each_lacks_one.Given as goal

abbrev pub invariant-loop-list : goal.invariant-loop-list
invariant-loop-list l = All (LacksOne l.bytes) (take l.list-index l.words)
