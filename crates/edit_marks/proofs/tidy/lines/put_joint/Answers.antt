use Rattle.std.proofs.Common.{◌++◌, ap, sym, ◌∙◌, ℕ, List, arith}
use Rattle.std.proofs.lemmas.List.{append-nil}
use Rattle.edit_marks.proofs.Tidied.WordLemmas.{joint_none, joint_some}
use Rattle.edit_marks.proofs.tidy.lines.put_joint.Goals as goal

pub returns-then-number-eq0 : goal.returns-then-number-eq0
returns-then-number-eq0 c =
    sym (ap (λ (l : List ℕ). c.args.out.now.items ++ l) (joint_none c.args.number c.args.joint.now c.if-number-eq0.true) ∙ append-nil c.args.out.now.items)

pub returns : goal.returns
returns c =
    c.in_ok-extend_from_slice.ensures.items
    ∙ ap (λ (l : List ℕ). c.args.out.now.items ++ l) (sym (joint_some c.args.number c.args.joint.now (omega (arith, c.if-number-eq0.false))))
