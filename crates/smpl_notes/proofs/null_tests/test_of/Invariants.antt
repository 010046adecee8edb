use Rattle.std.proofs.Common.{◌≡◌, drop, map}
use Rattle.smpl_notes.specs.NullTests.{test_of}
use Rattle.smpl_notes.proofs.null_tests.test_of.Given as goal

abbrev pub invariant-loop-pattern : goal.invariant-loop-pattern
invariant-loop-pattern l = test_of (map (λ p. p.now) (drop l.pattern-index l.patterns)) ≡ test_of (map (λ p. p.now) l.patterns)
