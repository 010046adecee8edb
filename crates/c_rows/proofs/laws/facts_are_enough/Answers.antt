use Rattle.c_rows.proofs.FactLemmas.{leaf_same, allows_same, branch_same}
use Rattle.c_rows.proofs.laws.facts_are_enough.Goals as goal

pub returns-clause-leaf : goal.returns-clause-leaf
returns-clause-leaf c = leaf_same

pub returns-clause-allows : goal.returns-clause-allows
returns-clause-allows c = allows_same

pub returns-clause-branch : goal.returns-clause-branch
returns-clause-branch c = branch_same
