use Rattle.c_places.proofs.WithinLemmas.{within, where_its_id_says}
use Rattle.c_places.proofs.laws.tokens_are_placed.Goals as goal

pub returns-clause-ids : goal.returns-clause-ids
returns-clause-ids c = where_its_id_says c.cut_once.ensures.whole

pub returns-clause-within : goal.returns-clause-within
returns-clause-within c = within
