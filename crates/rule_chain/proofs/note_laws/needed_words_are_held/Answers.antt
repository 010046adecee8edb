use Rattle.rule_chain.proofs.WordLemmas.{each_held, all_held}
use Rattle.rule_chain.proofs.note_laws.needed_words_are_held.Goals as goal

pub returns : goal.returns
returns c = λ file span rule. (each_held file span rule, all_held file span rule)
