use Rattle.std.proofs.Common.{◌≡◌, [], fold, take}
use Rattle.c_terms.specs.Names.{with_name, listed_names}
use Rattle.c_terms.proofs.names.Names.listed.Given as goal

abbrev pub invariant-loop-i : goal.invariant-loop-i
invariant-loop-i l = l.names ≡ fold with_name [] (take l.i listed_names)
