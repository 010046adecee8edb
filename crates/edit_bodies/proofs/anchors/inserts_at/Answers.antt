use Rattle.std.proofs.Common.{ap, ◌∙◌, List}
use Rattle.std.specs.List.{list_any}
use Rattle.edit_marks.specs.declared.edit_conflict.mark.Mark.{Mark}
use Rattle.edit_bodies.specs.Scenes.{is_insert}
use Rattle.edit_bodies.proofs.AnchorLemmas.{some_inserts}
use Rattle.edit_bodies.proofs.anchors.inserts_at.Goals as goal

pub returns : goal.returns
returns c =
    c.some_insert.ensures ∙ ap (λ (ms : List Mark). list_any (λ m. is_insert m.act) ms) c.marks_at.ensures
    ∙ some_inserts c.args.token c.args.edits.now
