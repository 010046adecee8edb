use Rattle.outer_io.proofs.EscapedNames.ReadLemmas.{read-back}
use Rattle.outer_io.proofs.escaped_names.laws.names_read_back.Goals as goal

pub returns : goal.returns
returns c = read-back
