use Rattle.text_laws.proofs.AgainLaws.BeforeLemmas.{at_rule}
use Rattle.text_laws.proofs.again_laws.laws.patches_leave_their_tokens.Goals as goal

pub returns-clause-read : goal.returns-clause-read
returns-clause-read c = λ bytes patch defined text number rule rest s edits pieces spelled before are is.
    let at = at_rule c.first_states_are_sound.ensures c.states_stay_sound.ensures defined patch.rules text
    (c.read_plus_code_is_sound.ensures.read bytes patch spelled) number rule rest s before in
    c.new_texts_are_of_their_tokens.ensures.tokens defined number rule s edits pieces at.1 at.0 are is

pub returns-clause-forms : goal.returns-clause-forms
returns-clause-forms c = λ bytes isos patch whole defined text number rule rest s edits pieces spelled expanded before are is.
    let at = at_rule c.first_states_are_sound.ensures c.states_stay_sound.ensures defined whole.rules text
    (c.read_plus_code_is_sound.ensures.forms bytes isos patch whole spelled expanded) number rule rest s before in
    c.new_texts_are_of_their_tokens.ensures.tokens defined number rule s edits pieces at.1 at.0 are is
