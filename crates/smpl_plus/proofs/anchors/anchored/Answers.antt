use Rattle.std.proofs.Common.{subst, take, arith}
use Rattle.smpl_plus.specs.Blocks.{Blocks, put_lines, no_blocks}
use Rattle.smpl_plus.specs.SoFar.{SoFar}
use Rattle.smpl_plus.proofs.Ordered.{at-step}
use Rattle.smpl_plus.proofs.Ending.{lines-more}
use Rattle.smpl_plus.proofs.anchors.anchored.Goals as goal

pub loop-l-preserved : goal.loop-l-preserved
loop-l-preserved c =
    let ps = c.args.placed.now in
    let body = c.args.body.now in
    let i = c.loop-l.l-index in
    record {
      index = omega (arith, c.loop-l.invariant.index);
      at = at-step c.loop-l.number c.loop-l.before c.run.result ps c.run.ensures.value c.loop-l.invariant.at;
      so_far = subst (λ (b : Blocks). SoFar c.args.vars.now ps b c.in_ok-s.s)
          (lines-more ps body i c.loop-l.number c.l-item.result c.loop-l.invariant.index c.loop-l-test.true c.l-item.is)
          (c.in_ok-s.ensures (put_lines ps 0 no_blocks (take i body)) c.loop-l.invariant.so_far);
    }
