use Rattle.c_rows.proofs.RangeLemmas.{tree_leaves}
use Rattle.c_rows.proofs.laws.leaves_are_the_tokens.Goals as goal

pub returns : goal.returns
returns c = λ kind names tokens t is. tree_leaves kind names tokens t is
