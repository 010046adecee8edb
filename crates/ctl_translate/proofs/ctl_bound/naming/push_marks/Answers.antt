use Rattle.std.proofs.Common.{◌<◌, arith, length}
use Rattle.std.specs.Prelude.{nat_eq}
use Rattle.ctl_translate.specs.CtlBound.Naming.{is_marked}
use Rattle.ctl_translate.proofs.CtlBound.NamingLemmas.{marks-more}
use Rattle.ctl_translate.proofs.ctl_bound.naming.push_marks.Goals as goal

pub loop-j-preserved : goal.loop-j-preserved
loop-j-preserved c = λ x i k number.
    let within : c.loop-j.j < length c.args.set.now = omega arith in
    marks-more c.args.vars.now c.args.set.now c.loop-j.j c.at.result.now x k (nat_eq c.args.part i)
    (is_marked c.args.marks.now.items i k) (is_marked c.loop-j.marks.items i k)
    (is_marked c.push_mark.new.marks.items i k) within c.at.ensures number (c.loop-j.invariant x i k number)
    (c.in_ok-push_mark.ensures i k)
