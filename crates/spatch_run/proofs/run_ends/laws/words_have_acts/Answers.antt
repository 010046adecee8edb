use Rattle.spatch_run.proofs.RunEnds.ReasonLemmas.{reason_some}
use Rattle.spatch_run.proofs.run_ends.laws.words_have_acts.Goals as goal

pub returns : goal.returns
returns c = λ words old untidy absent.
    reason_some c.bytes_are_read.ensures.patch c.faults_have_places.ensures
    (λ bytes patch is. c.patches_have_notes.ensures bytes is.spelled.text patch is.spelled.is_text)
    c.bytes_are_read.ensures.isos c.patches_get_their_forms.ensures
    c.chains_have_an_end.ensures.read c.chains_have_an_end.ensures.forms words untidy old
    (λ r. absent (r.0, (r.1.0, c.acts_have_a_reason.ensures.ways words old r.0 r.1.0 r.1.1)))
