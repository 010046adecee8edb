use Rattle.rule_chain.proofs.WordLemmas.{Completes}
use Rattle.rule_chain.proofs.rule_words.words_of_rules.Given as goal

abbrev pub invariant-loop-rule : goal.invariant-loop-rule
invariant-loop-rule l = Completes l.prepared.rules l.rule-index l.words.items
