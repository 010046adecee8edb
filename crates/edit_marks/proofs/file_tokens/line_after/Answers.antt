use Rattle.std.proofs.Common.{sym, ◌∙◌}
use Rattle.edit_marks.proofs.TokenLemmas.{same_line}
use Rattle.edit_marks.proofs.file_tokens.line_after.Goals as goal

pub returns : goal.returns
returns c =
    c.requires.line ∙ same_line c.args.bytes.now c.args.start c.args.end c.requires.rise (sym c.has_newline.ensures ∙ c.if-has_newline.false)
