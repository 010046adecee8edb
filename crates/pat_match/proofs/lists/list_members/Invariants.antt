use Rattle.std.proofs.Common.{◌≡◌, ◌++◌, drop}
use Rattle.std.specs.Option.{option_copied}
use Rattle.c_terms.specs.Lists.{members, members_from}
use Rattle.pat_match.proofs.lists.list_members.Given as goal

abbrev pub invariant-loop-child : goal.invariant-loop-child
invariant-loop-child l = l.found.items ++ members_from (option_copied l.before) (drop l.child-index l.children) ≡ members l.children
