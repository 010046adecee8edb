use Rattle.std.proofs.Common.{◌≡◌, Some, sym, ap, ◌∙◌}
use Rattle.std.specs.Prelude.{slice_get}
use Rattle.iso_expand.proofs.RoomLemmas.{no_room_at_all}
use Rattle.iso_expand.proofs.bodies.forms_of_first.Goals as goal

pub returns-then-room-eq0-clause-refused : goal.returns-then-room-eq0-clause-refused
returns-then-room-eq0-clause-refused c =
    no_room_at_all c.args.isos.now c.args.tokens.now c.args.written.now c.in-Some.tree.now c.args.room (sym c.in-Some.ensures.value) c.if-room-eq0.true
