use Rattle.std.proofs.Common.{◌≡◌, take}
use Rattle.c_typing.specs.Declarations.{params_of}
use Rattle.c_typing.proofs.declaration.params_of.Given as goal

abbrev pub invariant-loop-member : goal.invariant-loop-member
invariant-loop-member l = l.found.items ≡ params_of (take l.member-index l.members)
