use Rattle.c_expr.proofs.memo.Memo.recall.Given as goal

abbrev pub decreases-loop-number : goal.decreases-loop-number
decreases-loop-number l = l.number
