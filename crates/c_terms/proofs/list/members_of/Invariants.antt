use Rattle.std.proofs.Common.{◌≡◌, ◌++◌, drop}
use Rattle.c_terms.specs.Lists.{members, members_from}
use Rattle.c_terms.proofs.list.members_of.Given as goal

abbrev pub invariant-loop-child : goal.invariant-loop-child
invariant-loop-child l = l.found ++ members_from l.before (drop l.child-index l.children) ≡ members l.children
