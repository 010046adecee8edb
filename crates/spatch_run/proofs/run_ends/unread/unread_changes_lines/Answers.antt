use Rattle.spatch_run.proofs.RunEnds.UnreadLemmas.{reason_told}
use Rattle.spatch_run.proofs.RunEnds.UnreadWords.{words-told}
use Rattle.spatch_run.proofs.run_ends.unread.unread_changes_lines.Goals as goal

pub returns-clause-acts : goal.returns-clause-acts
returns-clause-acts c = λ words others old acts status same are.
    let left = reason_told words others same old acts status (c.acts_have_a_reason.ensures.reason words old acts status are) in
    (left.0, (c.acts_have_a_reason.ensures.ways others old left.0 status left.1.0, left.1.1))

pub returns-clause-words : goal.returns-clause-words
returns-clause-words c = words-told c.unread_changes_targets.ensures.order
