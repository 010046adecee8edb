use Rattle.std.proofs.Common.{sym, ◌∙◌}
use Rattle.edit_marks.proofs.EditConflict.Scans.{met_less}
use Rattle.edit_marks.proofs.edit_conflict.clash.first_met_but.Goals as goal

pub returns-then-are_among : goal.returns-then-are_among
returns-then-are_among c =
    sym (met_less c.args.known c.args.acts c.args.token c.args.marks.now (sym c.are_among.ensures ∙ c.if-are_among.true) c.requires)
