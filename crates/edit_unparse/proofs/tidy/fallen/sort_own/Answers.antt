use Rattle.std.proofs.Common.{sym, rules}
use Rattle.std.proofs.lemmas.List.Sorted.{IsNonDecreasingBy-from_sort, answers_always, list_any-IsPermutation}
use Rattle.edit_unparse.specs.Tidy.Fallen.{is_here, origin_number}
use Rattle.edit_unparse.proofs.tidy.fallen.sort_own.Goals as goal

pub returns-clause-same : goal.returns-clause-same
returns-clause-same c = λ insert offset.
    sym (list_any-IsPermutation (is_here insert offset) c.args.own.now.items c.sort_by_key.new.self.items c.sort_by_key.ensures.permutation)

pub returns-clause-rise : goal.returns-clause-rise
returns-clause-rise c =
    IsNonDecreasingBy-from_sort origin_number c.sort_by_key.new.self.items
    (c.in_ok-sort_by_key.ensures.sorted origin_number (answers_always _ _ _ (λ f a r g h. search rules)))
