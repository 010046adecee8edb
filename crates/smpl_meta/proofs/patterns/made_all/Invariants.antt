use Rattle.std.proofs.Common.{◌≡◌, ◌++◌, map, drop}
use Rattle.smpl_meta.specs.Patterns.{made}
use Rattle.smpl_meta.proofs.patterns.made_all.Given as goal

abbrev pub invariant-loop-t : goal.invariant-loop-t
invariant-loop-t l = l.out ++ map (made l.vars 0) (drop l.t-index l.tokens) ≡ map (made l.vars 0) l.tokens
