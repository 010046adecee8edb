use Rattle.std.proofs.Common.{refl}
use Rattle.spatch_run.proofs.RunEnds.QuietLemmas.{reason_quiet, fault_quiet}
use Rattle.spatch_run.proofs.RunEnds.QuietWords.{words-quiet}
use Rattle.spatch_run.proofs.run_ends.quiet.quiet_leaves_lines_out.Goals as goal

pub returns-clause-acts : goal.returns-clause-acts
returns-clause-acts c = λ words others old acts status same are not.
    c.acts_have_a_reason.ensures.ways others old _ status
    (reason_quiet words others same old acts status (c.acts_have_a_reason.ensures.reason words old acts status are) not)

pub returns-clause-fault : goal.returns-clause-fault
returns-clause-fault c = λ words others old acts same are.
    let left = fault_quiet words others same old acts 2 (c.acts_have_a_reason.ensures.reason words old acts 2 are) refl in
    (left.0, (c.acts_have_a_reason.ensures.ways others old left.0 2 left.1.0, left.1.1))

pub returns-clause-words : goal.returns-clause-words
returns-clause-words c = words-quiet c.flags_change_modes.ensures.order
