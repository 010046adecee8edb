use Rattle.std.proofs.Common.{◌≡◌, ℕ, List, map, take}
use Rattle.std.specs.List.{list_any}
use Rattle.c_terms.specs.Same.{same_bytes}
use Rattle.c_terms.specs.Names.{has_name}
use Rattle.wit_print.proofs.rules.names_of.Given as goal

abbrev pub invariant-loop-x : goal.invariant-loop-x
invariant-loop-x l = (name : List ℕ) → has_name (map (λ key. key.items) l.names.keys) name ≡ list_any (λ x. same_bytes x.name name) (take l.x-index l.vars)
