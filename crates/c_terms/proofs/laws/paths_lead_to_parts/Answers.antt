use Rattle.c_terms.specs.Shapes.{is_expression_part}
use Rattle.c_terms.proofs.FoundLaws.{parts-found}
use Rattle.c_terms.proofs.laws.paths_lead_to_parts.Goals as goal

pub returns : goal.returns
returns c = parts-found is_expression_part
