use Rattle.rule_chain.proofs.StandLemmas.{needed_lack, none_lack, not_all_needed, not_all_none}
use Rattle.rule_chain.proofs.passing.is_passed.Goals as goal

pub returns-in-Needed-clause-lack : goal.returns-in-Needed-clause-lack
returns-in-Needed-clause-lack c = λ h.
    needed_lack c.args.bytes.now c.args.rules.now.patch.now.rules c.args.rules.now.prepared.now.rules c.args.rules.now.words.now c.args.rules.now.unread
    c.in-Needed.is c.args.rules.now.prepared_are c.args.rules.now.words_are (c.each_lacks_one.ensures h)

pub returns-in-None-clause-lack : goal.returns-in-None-clause-lack
returns-in-None-clause-lack c = λ h.
    none_lack c.args.bytes.now c.args.rules.now.patch.now.rules c.args.rules.now.prepared.now.rules c.args.rules.now.words.now c.args.rules.now.unread
    c.in-None.is c.args.rules.now.prepared_are c.args.rules.now.words_are (c.each_lacks_one-in-None.ensures h)

pub returns-in-Needed-clause-choice : goal.returns-in-Needed-clause-choice
returns-in-Needed-clause-choice c = λ h all. not_all_needed c.args.rules.now.unread c.in-Needed.is all

pub returns-in-None-clause-choice : goal.returns-in-None-clause-choice
returns-in-None-clause-choice c = λ h all. not_all_none c.args.rules.now.unread c.in-None.is all
