use Rattle.std.proofs.Common.{◌≡◌, ◌||◌, drop}
use Rattle.std.specs.List.{list_any}
use Rattle.smpl_meta.specs.TypeNames.{names_type, is_named_in}
use Rattle.smpl_meta.proofs.type_names.TypeNames.+is_named_in.Given as goal

abbrev pub invariant-loop-child : goal.invariant-loop-child
invariant-loop-child l = list_any (λ c. names_type l.self l.label c || is_named_in l.self c) (drop l.child-index l.child-items) ≡ is_named_in l.self l.tree
