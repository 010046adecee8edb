use Rattle.spatch_run.proofs.RunEnds.NoteLemmas.{reason_notes}
use Rattle.spatch_run.proofs.run_ends.notes.notes_come_last.Goals as goal

pub returns : goal.returns
returns c = λ words old acts status are. reason_notes words old acts status (c.acts_have_a_reason.ensures.reason words old acts status are)
