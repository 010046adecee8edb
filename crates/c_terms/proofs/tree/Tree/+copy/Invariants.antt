use Rattle.std.proofs.Common.{◌≡◌, take, length, vec_capacity}
use Rattle.c_terms.proofs.tree.Tree.+copy.Given as goal

abbrev pub invariant-loop-child : goal.invariant-loop-child
invariant-loop-child l = record { room : vec_capacity l.copies ≡ length l.child-items; same : l.copies.items ≡ take l.child-index l.child-items }
