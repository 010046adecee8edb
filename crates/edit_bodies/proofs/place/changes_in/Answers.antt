use Rattle.std.proofs.Common.{◌-◌, arith, length}
use Rattle.edit_bodies.specs.Scenes.{text_in}
use Rattle.edit_bodies.proofs.LookLemmas.{changes_front, changes_last}
use Rattle.edit_bodies.proofs.place.changes_in.Goals as goal

pub returns-then-some_changes : goal.returns-then-some_changes
returns-then-some_changes c =
    let tokens = c.args.tokens.now in
    changes_front (text_in c.args.scene.now) c.args.behind.now tokens (length tokens - 1) c.some_changes.result (omega arith) c.some_changes.ensures
    c.if-some_changes.true

pub returns-else-some_changes : goal.returns-else-some_changes
returns-else-some_changes c =
    let tokens = c.args.tokens.now in
    changes_last (text_in c.args.scene.now) c.args.behind.now tokens (length tokens - 1) c.some_changes.result c.last_changes.result (omega arith)
    c.some_changes.ensures c.if-some_changes.false c.last_changes.ensures
