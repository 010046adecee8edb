use Rattle.std.proofs.Common.{◌≡◌, ◌||◌, ℕ, nat_eq, drop}
use Rattle.std.specs.List.{list_any}
use Rattle.pattern_vars.specs.VarPlaces.Ordered.{has_number}
use Rattle.pattern_vars.proofs.var_places.ordered.numbers_in.Given as goal

abbrev pub invariant-loop-k : goal.invariant-loop-k
invariant-loop-k l = (i : ℕ) →
    (list_any (nat_eq i) l.places.items || list_any (has_number l.numbers i) (drop l.k l.set))
    ≡ list_any (has_number l.numbers i) l.set
