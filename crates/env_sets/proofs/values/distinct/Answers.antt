use Rattle.std.proofs.Common.{sym, ap, ◌∙◌, rules}
use Rattle.std.specs.List.{list_any}
use Rattle.std.proofs.lemmas.List.Sorted.{list_any-IsPermutation, answers_always}
use Rattle.std.proofs.lemmas.List.MinMax.{ranks_by}
use Rattle.std.specs.Ordering.{is_lt}
use Rattle.smpl_terms.specs.Values.{same, value_order}
use Rattle.smpl_terms.proofs.ValueLaws.{value_order_total}
use Rattle.env_sets.proofs.values.distinct.Goals as goal

pub without_repeats-requires : goal.without_repeats-requires
without_repeats-requires c = record {
  sorted = c.sort_unstable_by.ensures.sorted (λ v w. is_lt (value_order v w)) (ranks_by value_order_total (λ v. v))
      (answers_always _ _ _ (λ f a r g h. search rules));
}

pub returns-clause-meaning : goal.returns-clause-meaning
returns-clause-meaning c = λ z. ap (list_any (λ v. same v z)) c.of.ensures.items ∙ c.in_ok-kept.ensures.meaning z
    ∙ sym (list_any-IsPermutation (λ v. same v z) c.args.values.items c.sort_unstable_by.new.self.items c.sort_unstable_by.ensures.permutation)
