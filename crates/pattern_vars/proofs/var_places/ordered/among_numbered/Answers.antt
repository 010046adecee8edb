use Rattle.std.proofs.Common.{subst, sym}
use Rattle.std.specs.List.Sorted.{IsNonDecreasing}
use Rattle.std.proofs.lemmas.List.Sorted.{IsNonDecreasingBy-from_sort}
use Rattle.std.proofs.lemmas.Result.{IfOk-weaker}
use Rattle.pattern_vars.specs.Reads.{has}
use Rattle.pattern_vars.proofs.VarPlaces.OrderedLemmas.{sorted-places, places-within}
use Rattle.pattern_vars.proofs.var_places.ordered.among_numbered.Goals as goal

pub at_places-requires-clause-in_order : goal.at_places-requires-clause-in_order
at_places-requires-clause-in_order c =
    subst IsNonDecreasing (sym c.as_slice.ensures.value)
    (IsNonDecreasingBy-from_sort (λ x. x) c.sort_unstable.new.self.items c.sort_unstable.ensures.sorted)

pub at_places-requires-clause-within : goal.at_places-requires-clause-within
at_places-requires-clause-within c =
    places-within (has c.args.set.now) c.args.vars.now c.as_slice.result.now
    (sorted-places c.args.numbers.now c.args.vars.now c.requires c.args.set.now c.in_ok-places.places.items
    c.sort_unstable.new.self.items c.as_slice.result.now c.in_ok-places.ensures c.sort_unstable.ensures.permutation c.as_slice.ensures.value)

pub returns : goal.returns
returns c =
    IfOk-weaker c.at_places.result _ _
    (λ found h. h (has c.args.set.now)
    (sorted-places c.args.numbers.now c.args.vars.now c.requires c.args.set.now c.in_ok-places.places.items
    c.sort_unstable.new.self.items c.as_slice.result.now c.in_ok-places.ensures c.sort_unstable.ensures.permutation c.as_slice.ensures.value))
    c.at_places.ensures
