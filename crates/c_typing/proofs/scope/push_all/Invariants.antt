use Rattle.std.proofs.Common.{◌≡◌, ◌++◌}
use Rattle.c_typing.proofs.scope.push_all.Given as goal

abbrev pub invariant-loop-binding : goal.invariant-loop-binding
invariant-loop-binding l = l.bindings ≡ l.initial.bindings ++ l.yielded
