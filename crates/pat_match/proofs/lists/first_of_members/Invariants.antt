use Rattle.std.proofs.Common.{◌≡◌, drop}
use Rattle.pat_match.specs.Rows.{first_of_members}
use Rattle.pat_match.proofs.lists.first_of_members.Given as goal

abbrev pub invariant-loop-member : goal.invariant-loop-member
invariant-loop-member l = first_of_members (drop l.member-index l.members) ≡ first_of_members l.members
