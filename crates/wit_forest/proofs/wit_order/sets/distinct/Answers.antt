use Rattle.std.proofs.Common.{sym, ◌∙◌, rules}
use Rattle.std.proofs.lemmas.Result.{IfOk-weaker}
use Rattle.std.proofs.lemmas.Fn.{always_returns_same}
use Rattle.std.proofs.lemmas.List.Sorted.{list_any-IsPermutation}
use Rattle.std.proofs.lemmas.List.MinMax.{ranks_by}
use Rattle.std.specs.Ordering.{is_lt}
use Rattle.wit_forest.specs.WitOrder.Same.{same_witness}
use Rattle.wit_forest.specs.WitOrder.Forests.{HaveSame}
use Rattle.wit_forest.specs.WitOrder.Order.{witness_order}
use Rattle.wit_forest.proofs.WitOrder.OrderLaws.{witness_order_total}
use Rattle.wit_forest.proofs.wit_order.sets.distinct.Goals as goal

pub without_repeats-requires : goal.without_repeats-requires
without_repeats-requires c = record {
  sorted = c.sort_unstable_by.ensures.sorted (λ v w. is_lt (witness_order c.args.decls.now v w))
      (ranks_by (witness_order_total c.args.decls.now) (λ v. v)) (always_returns_same _ _ _ (λ a r f k. search rules));
}

pub returns-clause-trees : goal.returns-clause-trees
returns-clause-trees c =
    IfOk-weaker c.without_repeats.result (λ r. HaveSame r.items c.sort_unstable_by.new.self.items) (λ r. HaveSame r.items c.args.trees.items)
    (λ r h z. h z ∙ sym (list_any-IsPermutation
    (λ u. same_witness u z) c.args.trees.items c.sort_unstable_by.new.self.items c.sort_unstable_by.ensures.permutation))
    c.without_repeats.ensures.trees
