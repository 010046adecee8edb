use Rattle.text_laws.proofs.TokenLaws.StateLemmas.{first_sound}
use Rattle.text_laws.proofs.token_laws.laws.first_states_are_sound.Goals as goal

pub returns : goal.returns
returns c = λ bytes pieces items lexes reads.
    first_sound bytes pieces items lexes reads (c.ids_differ.ensures.first bytes pieces lexes) (c.ids_differ.ensures.below bytes pieces lexes)
