use Rattle.text_laws.proofs.OutputLaws.DifferentIds.{output_apart, first_ids_apart, first_ids_below}
use Rattle.text_laws.proofs.output_laws.laws.ids_differ.Goals as goal

pub returns-clause-after : goal.returns-clause-after
returns-clause-after c = output_apart

pub returns-clause-first : goal.returns-clause-first
returns-clause-first c = first_ids_apart

pub returns-clause-below : goal.returns-clause-below
returns-clause-below c = first_ids_below
