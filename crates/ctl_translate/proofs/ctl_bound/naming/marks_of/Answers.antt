use Rattle.std.proofs.Common.{◌<◌, ◌≤◌, arith, length, get_or}
use Rattle.std.proofs.lemmas.Option.{slice_get-get_or}
use Rattle.smpl_patch.specs.Patterns.{sure}
use Rattle.ctl_formula.specs.declared.node.Node.{Node}
use Rattle.ctl_translate.specs.CtlBound.Naming.{names, is_marked}
use Rattle.ctl_translate.proofs.CtlBound.NamingLemmas.{parts-more, parts-all}
use Rattle.ctl_translate.proofs.ctl_bound.naming.marks_of.Goals as goal

pub loop-part-preserved : goal.loop-part-preserved
loop-part-preserved c = λ x k number i n is.
    let within : c.loop-part.part < length c.args.parts.now = omega arith in
    let here = slice_get-get_or c.args.parts.now c.loop-part.part n within in
    parts-more c.args.parts.now c.loop-part.part i n (get_or c.args.parts.now c.loop-part.part n)
    (λ (z : Node). names (sure c.args.decls.now c.args.tokens.now) z x) (is_marked c.loop-part.marks.items i k)
    (is_marked c.push_part.new.marks.items i k) is here (c.loop-part.invariant x k number i n is)
    (c.in_ok-push_part.ensures x i k (get_or c.args.parts.now c.loop-part.part n) number here)

pub returns : goal.returns
returns c = λ x k number i n is.
    let all : length c.args.parts.now ≤ c.loop-part.part = omega arith in
    parts-all c.args.parts.now c.loop-part.part i n (λ (z : Node). names (sure c.args.decls.now c.args.tokens.now) z x)
    (is_marked c.loop-part.marks.items i k) all is (c.loop-part.invariant x k number i n is)
