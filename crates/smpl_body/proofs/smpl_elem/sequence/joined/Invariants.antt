use Rattle.std.proofs.Common.{◌≡◌}
use Rattle.c_terms.specs.Trees.{join}
use Rattle.smpl_body.proofs.smpl_elem.sequence.joined.Given as goal

abbrev pub invariant-loop-part : goal.invariant-loop-part
invariant-loop-part l = l.all ≡ join l.yielded
