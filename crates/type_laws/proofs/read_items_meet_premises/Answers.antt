use Rattle.type_laws.proofs.ReadLemmas.{numbered_distinct, item_ids, item_levels, item_tokens}
use Rattle.type_laws.proofs.read_items_meet_premises.Goals as goal

pub returns : goal.returns
returns c = record { texts = numbered_distinct; ids = item_ids; levels = item_levels; tokens = item_tokens }
