use Rattle.smpl_lexer.proofs.Before.{line_is_told, stop_is_told}
use Rattle.smpl_lexer.proofs.virtual_lines_are_spelled.Goals as goal

pub returns : goal.returns
returns c = record { whole = line_is_told; stop = stop_is_told }
