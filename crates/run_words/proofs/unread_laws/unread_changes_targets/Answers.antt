use Rattle.run_words.proofs.UnreadLaws.ChoiceLemmas.{fault_same, order_same}
use Rattle.run_words.proofs.unread_laws.unread_changes_targets.Goals as goal

pub returns : goal.returns
returns c = record { order = order_same; fault = fault_same }
