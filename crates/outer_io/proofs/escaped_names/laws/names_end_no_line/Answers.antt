use Rattle.outer_io.proofs.EscapedNames.ReadLemmas.{none-shown}
use Rattle.outer_io.proofs.escaped_names.laws.names_end_no_line.Goals as goal

pub returns : goal.returns
returns c = none-shown
