use Rattle.std.proofs.Common.{Bool, ◌||◌, ◌&&◌, ap, ◌∙◌, arith, length}
use Rattle.smpl_patch.specs.Held.{is_held}
use Rattle.pattern_vars.specs.Reads.{has, reads_tree}
use Rattle.pattern_vars.proofs.SetLemmas.{kept-step, kept-end}
use Rattle.pattern_vars.proofs.reads.put_kept.Goals as goal

pub loop-i-preserved : goal.loop-i-preserved
loop-i-preserved c y =
    kept-step (reads_tree c.args.decls.now c.args.tokens.now c.args.plus y) (is_held c.args.spot c.args.label (length c.args.trees.now)) c.args.trees.now
    c.loop-i.i c.index-trees-i.result (has c.loop-i.set y) (has c.put_where.new.set y) _ (omega arith) c.index-trees-i.is
    (c.in_ok-put_where.ensures y ∙ ap (λ (b : Bool). has c.loop-i.set y
    || (b && reads_tree c.args.decls.now c.args.tokens.now c.args.plus y c.index-trees-i.result)) c.is_held-here.ensures.value)
    (c.loop-i.invariant y)

pub returns : goal.returns
returns c y =
    kept-end (reads_tree c.args.decls.now c.args.tokens.now c.args.plus y) (is_held c.args.spot c.args.label (length c.args.trees.now)) c.args.trees.now
    c.loop-i.i (has c.loop-i.set y) _ (omega arith) (c.loop-i.invariant y)
