use Rattle.std.proofs.Common.{◌≡◌, ◌++◌, drop, map}
use Rattle.smpl_notes.specs.Minus.{minus_slips}
use Rattle.smpl_notes.proofs.minus.put_minuses.Given as goal

abbrev pub invariant-loop-pattern : goal.invariant-loop-pattern
invariant-loop-pattern l =
    l.found ++ minus_slips l.placed (map (λ p. p.now) (drop l.pattern-index l.patterns))
    ≡ l.initial.found ++ minus_slips l.placed (map (λ p. p.now) l.patterns)
