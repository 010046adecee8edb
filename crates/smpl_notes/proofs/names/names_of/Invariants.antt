use Rattle.std.proofs.Common.{◌≡◌, ◌++◌, drop, map}
use Rattle.smpl_notes.specs.Names.{names_of}
use Rattle.smpl_notes.proofs.names.names_of.Given as goal

abbrev pub invariant-loop-pattern : goal.invariant-loop-pattern
invariant-loop-pattern l = l.found ++ names_of (map (λ p. p.now) (drop l.pattern-index l.patterns)) ≡ names_of (map (λ p. p.now) l.patterns)
