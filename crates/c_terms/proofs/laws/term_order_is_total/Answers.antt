use Rattle.c_terms.proofs.OrderLaws.{tree_order_total, order-same, either_way}
use Rattle.c_terms.proofs.laws.term_order_is_total.Goals as goal

pub returns-clause-equal : goal.returns-clause-equal
returns-clause-equal c = λ t u. ((order-same t u).0, (order-same t u).1)

pub returns-clause-antisymmetric : goal.returns-clause-antisymmetric
returns-clause-antisymmetric c = tree_order_total.antisymm

pub returns-clause-transitive : goal.returns-clause-transitive
returns-clause-transitive c = tree_order_total.trans

pub returns-clause-total : goal.returns-clause-total
returns-clause-total c = either_way

pub returns-clause-same_place : goal.returns-clause-same_place
returns-clause-same_place c = λ t u v h. tree_order_total.congr t u v ((order-same t u).1 h)
