use Rattle.text_laws.proofs.ChainTotal.RunLemmas.{chain_some}
use Rattle.text_laws.proofs.chain_total.laws.chains_have_an_end.Goals as goal

pub returns-clause-read : goal.returns-clause-read
returns-clause-read c = λ bytes patch defined text s.
    chain_some c.every_text_is_cut.ensures.pieces c.states_stay_sound.ensures c.new_texts_are_cut.ensures.pieces defined c.first_states_are_sound.ensures
    patch.rules (c.read_plus_code_is_sound.ensures.read bytes patch s) text

pub returns-clause-forms : goal.returns-clause-forms
returns-clause-forms c = λ bytes isos patch whole defined text s is.
    chain_some c.every_text_is_cut.ensures.pieces c.states_stay_sound.ensures c.new_texts_are_cut.ensures.pieces defined c.first_states_are_sound.ensures
    whole.rules (c.read_plus_code_is_sound.ensures.forms bytes isos patch whole s is) text
