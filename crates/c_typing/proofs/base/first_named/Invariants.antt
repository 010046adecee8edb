use Rattle.std.proofs.Common.{◌≡◌, drop}
use Rattle.c_typing.specs.Base.{first_named}
use Rattle.c_typing.proofs.base.first_named.Given as goal

abbrev pub invariant-loop-child : goal.invariant-loop-child
invariant-loop-child l = first_named (drop l.child-index l.children) ≡ first_named l.children
