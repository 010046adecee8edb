use Rattle.type_laws.proofs.Examples.{tokens_needed, ids_needed}
use Rattle.type_laws.proofs.premises_are_needed.Goals as goal

pub returns : goal.returns
returns c = record { tokens = tokens_needed; ids = ids_needed }
