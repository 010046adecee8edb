use Rattle.text_laws.proofs.PageIds.{page_apart}
use Rattle.text_laws.proofs.laws.ids_stay_apart.Goals as goal

pub returns : goal.returns
returns c = page_apart
