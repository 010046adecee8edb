use Rattle.text_laws.proofs.PageIds.{page_few, page_next}
use Rattle.text_laws.proofs.laws.ids_stay_few.Goals as goal

pub returns-clause-ids : goal.returns-clause-ids
returns-clause-ids c = page_few

pub returns-clause-next : goal.returns-clause-next
returns-clause-next c = page_next
