use Rattle.std.proofs.Common.{◌≡◌, drop}
use Rattle.std.specs.List.{flat_map}
use Rattle.edit_bodies.specs.Scenes.{first_else, words_at}
use Rattle.edit_bodies.proofs.next.else_in_inserts.Given as goal

abbrev pub invariant-loop-placed : goal.invariant-loop-placed
invariant-loop-placed l =
    first_else (flat_map (words_at l.scene.inserts.items) l.inserts) ≡ first_else (flat_map (words_at l.scene.inserts.items) (drop l.placed-index l.inserts))
