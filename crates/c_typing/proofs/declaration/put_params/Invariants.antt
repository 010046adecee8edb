use Rattle.std.proofs.Common.{◌≡◌, ◌++◌, map}
use Rattle.c_typing.specs.Declarations.{as_param}
use Rattle.c_typing.proofs.declaration.put_params.Given as goal

abbrev pub invariant-loop-binding : goal.invariant-loop-binding
invariant-loop-binding l = l.found.items ≡ l.initial.found.items ++ map as_param l.yielded
