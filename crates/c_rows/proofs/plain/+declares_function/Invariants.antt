use Rattle.std.proofs.Common.{◌≡◌, drop, map}
use Rattle.c_rows.specs.Branches.{declares_function, any_of}
use Rattle.c_rows.proofs.plain.+declares_function.Given as goal

abbrev pub invariant-loop-child : goal.invariant-loop-child
invariant-loop-child l = any_of (map declares_function (drop l.child-index l.child-items)) ≡ declares_function l.fn.declarator
