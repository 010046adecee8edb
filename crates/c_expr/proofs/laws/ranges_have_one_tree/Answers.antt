use Rattle.c_expr.proofs.RangeTree.{one_of_range}
use Rattle.c_expr.proofs.laws.ranges_have_one_tree.Goals as goal

pub returns : goal.returns
returns c = λ kind names tokens t u o h g. one_of_range kind names tokens t u o h g
