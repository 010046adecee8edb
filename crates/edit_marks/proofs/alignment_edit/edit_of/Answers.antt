use Rattle.edit_marks.proofs.Edited.{edit_plain}
use Rattle.edit_marks.proofs.alignment_edit.edit_of.Goals as goal

pub returns-clause-plain : goal.returns-clause-plain
returns-clause-plain c = λ sound blank. edit_plain c.args.decls.now c.args.tokens.now c.args.env.now c.args.files.now
    c.args.pairs.now c.in_ok-edit.edit c.in_ok-edit.ensures sound blank
