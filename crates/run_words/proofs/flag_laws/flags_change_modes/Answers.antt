use Rattle.run_words.proofs.FlagLaws.FlagLemmas.{fault_same, order_same}
use Rattle.run_words.proofs.flag_laws.flags_change_modes.Goals as goal

pub returns : goal.returns
returns c = record { order = order_same; fault = fault_same }
