use Rattle.std.proofs.Common.{arith}
use Rattle.edit_marks.specs.Tidy.Bodies.{acts_in}
use Rattle.edit_marks.proofs.Tidied.FlagLemmas.{bare_between}
use Rattle.edit_marks.proofs.tidy.bodies.is_bare.Goals as goal

pub overflow_sub-result : goal.overflow_sub-result
overflow_sub-result c =
    let both = bare_between (acts_in c.args.changes.now) c.args.leaves.now c.args.bare.now c.args.from c.args.to c.min-end.result c.requires
    (omega arith) (omega arith) c.min-end.ensures in
    both.0

pub returns : goal.returns
returns c =
    let both = bare_between (acts_in c.args.changes.now) c.args.leaves.now c.args.bare.now c.args.from c.args.to c.min-end.result c.requires
    (omega arith) (omega arith) c.min-end.ensures in
    both.1
