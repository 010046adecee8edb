use Rattle.std.proofs.Common.{refl, List, map}
use Rattle.c_terms.specs.declared.tree.Tree.{Tree}
use Rattle.smpl_notes.specs.NullTests.{tested, first_test}
use Rattle.smpl_notes.proofs.LoopLemmas.{first-found, first-skipped}
use Rattle.smpl_notes.proofs.null_tests.+null_tests.Goals as goal

pub first_test-returns-in-Some : goal.first_test-returns-in-Some
first_test-returns-in-Some t c =
    first-found c.args.trees.now (λ (u : Tree). (tested u).test) (λ (us : List Tree). first_test (map tested us)) (λ u us. refl)
    c.loop-tree.tree-index c.tree-item.result c.in-Some.sign.now _ c.loop-tree-test.true c.tree-item.is c.loop-tree.invariant c.in-Some.ensures

pub first_test-loop-tree-preserved : goal.first_test-loop-tree-preserved
first_test-loop-tree-preserved t c =
    first-skipped c.args.trees.now (λ (u : Tree). (tested u).test) (λ (us : List Tree). first_test (map tested us)) (λ u us. refl)
    c.loop-tree.tree-index c.tree-item.result _ c.loop-tree-test.true c.tree-item.is c.loop-tree.invariant c.in_default.ensures
