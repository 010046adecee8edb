use Rattle.std.proofs.Common.{◌≡◌, drop, map}
use Rattle.smpl_notes.specs.NullTests.{tested, first_test}
use Rattle.smpl_notes.proofs.null_tests.+null_tests.Given as goal

abbrev pub invariant-first_test-loop-tree : goal.invariant-first_test-loop-tree
invariant-first_test-loop-tree l = first_test (map tested (drop l.tree-index l.trees)) ≡ first_test (map tested l.trees)
