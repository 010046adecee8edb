use Rattle.std.proofs.Common.{refl, sym, ◌∙◌}
use Rattle.std.specs.Prelude.{is_some}
use Rattle.run_words.specs.Shown.{shown_isos}
use Rattle.smpl_notes.specs.Notes.{notes}
use Rattle.spatch_run.proofs.notes.lines_on.Goals as goal

pub returns-then-not-may_tell : goal.returns-then-not-may_tell
returns-then-not-may_tell c =
    let spelled = c.requires.read.spelled in
    let found = notes c.args.bytes.now spelled.text c.args.patch.now.rules in
    let none = c.if-not-may_tell.ensures.none refl c.args.order.now.patch.now (is_some (shown_isos c.args.order.now.isos)) found in
    record { lines = (found, (record { text = spelled.text; is_text = spelled.is_text; are = refl }, c.none.ensures ∙ sym none)) }
