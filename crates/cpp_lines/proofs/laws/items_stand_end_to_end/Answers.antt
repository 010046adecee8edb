use Rattle.cpp_lines.proofs.Choice.{stand}
use Rattle.cpp_lines.proofs.laws.items_stand_end_to_end.Goals as goal

pub returns : goal.returns
returns c = stand
