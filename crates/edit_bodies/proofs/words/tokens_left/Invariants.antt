use Rattle.std.proofs.Common.{◌≡◌, take}
use Rattle.edit_bodies.specs.Scenes.{falls_in, tokens_left}
use Rattle.edit_bodies.proofs.words.tokens_left.Given as goal

abbrev pub invariant-loop-number : goal.invariant-loop-number
invariant-loop-number l = l.words.items ≡ tokens_left (falls_in l.fallen l.edit l.insert) l.visible.pieces (take l.number-index l.shown)
