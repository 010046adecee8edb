use Rattle.std.proofs.Common.{sym, subst}
use Rattle.std.specs.Prelude.{None}
use Rattle.edit_marks.specs.Blocks.{last_of_lines, block_ends}
use Rattle.c_show.specs.PlainText.{IsPlainText}
use Rattle.edit_marks.proofs.Sound.{insert_plain}
use Rattle.edit_marks.proofs.insert.insert_text.Goals as goal

pub returns-clause-plain : goal.returns-clause-plain
returns-clause-plain c = λ joint sound.
    let ends = block_ends (last_of_lines c.args.decls.now c.args.env.now None c.args.block.now.lines) in
    subst IsPlainText (sym c.in_ok-text.ensures) (insert_plain c.args.decls.now c.args.env.now c.args.joint.now c.args.block.now c.args.anchor ends joint sound)
