use Rattle.std.proofs.Common.{arith, sym, ap, ◌∙◌, ◌+◌}
use Rattle.std.specs.Option.{option_copied}
use Rattle.pat_match.proofs.LengthLemmas.{count_comma, count_member}
use Rattle.pat_match.proofs.lengths.has_more_members.Goals as goal
use Rattle.pat_match.proofs.lengths.has_more_members.Goals.{in-Some, in-None+else-left-eq0}

pub loop-tree-preserved : goal.loop-tree-preserved
loop-tree-preserved c = elim c.match-comma.branch [
  | in-Some w ↦
      let e = count_comma c.args.trees.now c.loop-tree.tree-index (c.loop-tree.tree-index + 1) c.tree-item.result _
      (omega arith) c.loop-tree-test.true c.tree-item.is
      (sym c.comma.ensures.value ∙ ap option_copied w.in-Some.is) in
      omega (arith, e, w.left-is, c.loop-tree.invariant)
  | in-None+else-left-eq0 w ↦
      let e = count_member c.args.trees.now c.loop-tree.tree-index (c.loop-tree.tree-index + 1) c.tree-item.result
      (omega arith) c.loop-tree-test.true c.tree-item.is
      (sym c.comma.ensures.value ∙ ap option_copied w.in-None.is) in
      omega (arith, e, w.left-is, w.if-left-eq0.false, c.loop-tree.invariant)
]
