use Rattle.std.proofs.Common.{sym, ◌∙◌, arith}
use Rattle.smpl_meta.proofs.Placing.{lines_more}
use Rattle.smpl_meta.proofs.patterns.pattern_tokens.Goals as goal

pub loop-l-preserved : goal.loop-l-preserved
loop-l-preserved c = record {
  index = omega (arith, c.loop-l.invariant.index);
  same = rw (c.in_ok-out.ensures, c.in_ok-table.ensures)
      (sym (lines_more c.args.vars.now c.args.body.now c.loop-l.l-index c.loop-l.line c.l-item.result c.loop-l.out
      c.loop-l-test.true c.l-item.is) ∙ c.loop-l.invariant.same);
}
