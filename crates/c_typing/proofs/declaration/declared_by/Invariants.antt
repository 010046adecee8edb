use Rattle.std.proofs.Common.{◌≡◌, ◌++◌, drop}
use Rattle.std.specs.List.{filter_map}
use Rattle.c_typing.specs.Declarations.{binding_of}
use Rattle.c_typing.proofs.declaration.declared_by.Given as goal

abbrev pub invariant-loop-declarator : goal.invariant-loop-declarator
invariant-loop-declarator l =
    l.found.items ++ filter_map (binding_of l.specs) (drop l.declarator-index l.declarators) ≡ filter_map (binding_of l.specs) l.declarators
