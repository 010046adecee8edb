use Rattle.std.proofs.Common.{◌<◌, nat_eq, refl, length, arith}
use Rattle.std.specs.List.{list_any}
use Rattle.pattern_vars.proofs.SetLemmas.{any-step}
use Rattle.pattern_vars.proofs.SureLemmas.{element_at}
use Rattle.pattern_vars.specs.VarPlaces.Ordered.{has_number}
use Rattle.pattern_vars.proofs.var_places.ordered.numbers_in.Goals as goal

pub loop-k-preserved : goal.loop-k-preserved
loop-k-preserved c i =
    let set = c.args.set.now in
    let numbers = c.args.numbers.now in
    let places = c.loop-k.places.items in
    let within : c.loop-k.k < length set = omega arith in
    any-step (has_number numbers i) (list_any (has_number numbers i)) (λ x xs. refl) set c.loop-k.k c.at.result.now
    (list_any (nat_eq i) places) (list_any (nat_eq i) c.put_number.new.places.items) _ within
    (element_at set c.loop-k.k c.at.result.now within c.at.ensures) (c.in_ok-put_number.ensures i) (c.loop-k.invariant i)
