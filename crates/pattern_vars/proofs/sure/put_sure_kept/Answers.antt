use Rattle.std.proofs.Common.{Bool, ◌||◌, ◌&&◌, ap, ◌∙◌, length, arith}
use Rattle.smpl_patch.specs.Held.{is_held}
use Rattle.smpl_patch.specs.Patterns.{is_sure}
use Rattle.pattern_vars.specs.Reads.{has}
use Rattle.pattern_vars.proofs.SetLemmas.{kept-step, kept-end}
use Rattle.pattern_vars.proofs.sure.put_sure_kept.Goals as goal

pub loop-i-preserved : goal.loop-i-preserved
loop-i-preserved c y d =
    let test = is_sure c.args.decls.now c.args.tokens.now y in
    let there = is_held c.args.spot c.args.label (length c.args.trees.now) in
    kept-step test there c.args.trees.now c.loop-i.i c.index-trees-i.result (has c.loop-i.set y)
    (has c.put_sure_where.new.set y) _ (omega arith) c.index-trees-i.is
    (c.in_ok-put_sure_where.ensures y d
    ∙ ap (λ (b : Bool). has c.loop-i.set y || (b && test c.index-trees-i.result)) c.is_held-here.ensures.value)
    (c.loop-i.invariant y d)

pub returns : goal.returns
returns c y d =
    kept-end (is_sure c.args.decls.now c.args.tokens.now y) (is_held c.args.spot c.args.label (length c.args.trees.now))
    c.args.trees.now c.loop-i.i (has c.loop-i.set y) _ (omega arith) (c.loop-i.invariant y d)
