use Rattle.std.proofs.Common.{List, subst}
use Rattle.edit_marks.specs.declared.edit_conflict.edit.Edit.{Edit}
use Rattle.edit_bodies.specs.Scenes.{AreInsertWords}
use Rattle.edit_bodies.proofs.OutcomeLemmas.{seen_all}
use Rattle.edit_bodies.proofs.lay.all_seen.Goals as goal

pub returns : goal.returns
returns c = λ lists falls.
    seen_all _ c.args.items.now lists _ c.in_ok-bodies.ensures c.requires falls
    (subst (λ (es : List Edit). AreInsertWords c.args.fallen.now es c.in_ok-inserts.inserts.items) c.edits-all.ensures.edits c.in_ok-inserts.ensures)
