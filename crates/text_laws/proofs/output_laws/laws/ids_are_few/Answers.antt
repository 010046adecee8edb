use Rattle.text_laws.proofs.OutputLaws.Filled.{pieces_few, output_few, fresh_few}
use Rattle.text_laws.proofs.output_laws.laws.ids_are_few.Goals as goal

pub returns-clause-old : goal.returns-clause-old
returns-clause-old c = pieces_few

pub returns-clause-new : goal.returns-clause-new
returns-clause-new c = output_few

pub returns-clause-next : goal.returns-clause-next
returns-clause-next c = fresh_few
