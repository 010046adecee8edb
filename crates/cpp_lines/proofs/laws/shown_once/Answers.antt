use Rattle.cpp_lines.proofs.Choice.{shown_once}
use Rattle.cpp_lines.proofs.laws.shown_once.Goals as goal

pub returns : goal.returns
returns c = shown_once
