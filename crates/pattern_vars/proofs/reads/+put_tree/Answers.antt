use Rattle.std.proofs.Common.{refl, arith, List, map}
use Rattle.std.specs.List.{list_any}
use Rattle.c_terms.specs.declared.tree.Tree.{Tree}
use Rattle.c_terms.specs.Trees.{join, leaves}
use Rattle.std.proofs.lemmas.List.Folds.{list_any-append}
use Rattle.pattern_vars.specs.Reads.{has, reads_token}
use Rattle.pattern_vars.proofs.SetLemmas.{any-step, any-end}
use Rattle.pattern_vars.proofs.reads.+put_tree.Goals as goal

pub loop-child-preserved : goal.loop-child-preserved
loop-child-preserved t c y =
    let test = reads_token c.args.decls.now c.args.tokens.now c.args.plus y in
    any-step (λ (t : Tree). list_any test (leaves t)) (λ (ts : List Tree). list_any test (join (map leaves ts)))
    (λ t ts. list_any-append test (leaves t) (join (map leaves ts))) c.as_slice-child-items.result.now c.loop-child.child-index c.child-item.result
    (has c.loop-child.set y) (has c.put_tree.new.set y) _ c.loop-child-test.true c.child-item.is
    (c.in_ok-put_tree-in-Branch.ensures y) (c.loop-child.invariant y)

pub returns-after-loop-child : goal.returns-after-loop-child
returns-after-loop-child t c y =
    let test = reads_token c.args.decls.now c.args.tokens.now c.args.plus y in
    any-end (λ (ts : List Tree). list_any test (join (map leaves ts))) refl c.as_slice-child-items.result.now c.loop-child.child-index
    (has c.loop-child.set y) _ (omega arith) (c.loop-child.invariant y)
