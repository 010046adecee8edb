use Rattle.std.proofs.Common.{◌≡◌, map, take}
use Rattle.edit_marks.proofs.edit_walk.walk.atoms_of.Given as goal

abbrev pub invariant-loop-pattern : goal.invariant-loop-pattern
invariant-loop-pattern l = l.atoms.items ≡ map (λ p. p.atom) (map (λ p. p.now) (take l.pattern-index l.patterns))
