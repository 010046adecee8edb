use Rattle.std.proofs.Common.{◌≡◌, take}
use Rattle.std.specs.Prelude.{filter}
use Rattle.edit_bodies.specs.Calm.{is_calm}
use Rattle.edit_bodies.proofs.calm.calm_lists.Given as goal

abbrev pub invariant-loop-list : goal.invariant-loop-list
invariant-loop-list l = l.calm.items ≡ filter (is_calm l.lexed) (take l.list-index l.lists)
