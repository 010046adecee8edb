use Rattle.std.proofs.Common.{refl}
use Rattle.smpl_plus.proofs.Ordered.{at-count, at-yes, at-no}
use Rattle.smpl_plus.proofs.Closing.{plus-line, break-line, plain-line}
use Rattle.smpl_plus.proofs.anchors.with_line.Goals as goal

pub returns-then-l-eq43 : goal.returns-then-l-eq43
returns-then-l-eq43 c = λ b s.
    let vars = c.args.vars.now in
    let ps = c.args.placed.now in
    let n = c.args.number in
    let l = c.args.l.now in
    plus-line vars ps b c.args.s _ n l c.in_ok-with_plus.field-0 c.if-l-eq43.true refl refl refl
    (c.in_ok-with_plus.ensures vars ps b.last n s.last (at-count n c.args.before ps c.requires.at) c.in_ok-line.ensures) s

pub returns-then-run-gt0 : goal.returns-then-run-gt0
returns-then-run-gt0 c = λ b s.
    break-line c.args.vars.now c.args.placed.now b c.closed.result c.args.number c.args.l.now c.if-l-eq43.false
    (at-yes c.args.number c.args.before c.run.result c.args.placed.now c.requires.at c.run.ensures.value c.if-run-gt0.true)
    (c.closed.ensures c.args.vars.now c.args.placed.now b c.requires.may s)

pub returns : goal.returns
returns c = λ b s.
    plain-line c.args.vars.now c.args.placed.now b c.args.s c.args.number c.args.l.now c.if-l-eq43.false
    (at-no c.args.number c.args.before c.run.result c.args.placed.now c.requires.at c.run.ensures.value c.if-run-gt0.false) s
