use Rattle.std.proofs.Common.{refl, map}
use Rattle.smpl_notes.specs.NullTests.{test_of_first, test_of}
use Rattle.smpl_notes.proofs.LoopLemmas.{first-found, first-skipped}
use Rattle.smpl_notes.proofs.null_tests.test_of.Goals as goal

pub returns-in-Some : goal.returns-in-Some
returns-in-Some c =
    first-found c.args.patterns.now (λ p. test_of_first p.now.forms) (λ ps. test_of (map (λ p. p.now) ps)) (λ p ps. refl)
    c.loop-pattern.pattern-index c.pattern-item.result c.in-Some.sign.now _ c.loop-pattern-test.true c.pattern-item.is c.loop-pattern.invariant
    c.in-Some.ensures

pub loop-pattern-preserved : goal.loop-pattern-preserved
loop-pattern-preserved c =
    first-skipped c.args.patterns.now (λ p. test_of_first p.now.forms) (λ ps. test_of (map (λ p. p.now) ps)) (λ p ps. refl)
    c.loop-pattern.pattern-index c.pattern-item.result _ c.loop-pattern-test.true c.pattern-item.is c.loop-pattern.invariant c.in_default.ensures
