use Rattle.std.proofs.Common.{◌≡◌, ◌++◌, drop}
use Rattle.smpl_body.specs.Bodies.{whens_of}
use Rattle.smpl_body.proofs.clauses.whens_of.Given as goal

abbrev pub invariant-loop-k : goal.invariant-loop-k
invariant-loop-k l = l.whens ++ whens_of l.said l.trees l.starts (drop l.k-index l.codes) ≡ whens_of l.said l.trees l.starts l.codes
