use Rattle.std.proofs.Common.{[]}
use Rattle.edit_bodies.specs.Scenes.{AreEditWords}
use Rattle.edit_bodies.proofs.SceneLemmas.{AreFirst}
use Rattle.edit_bodies.proofs.words.tokens_of_inserts.Given as goal

abbrev pub invariant-loop-number : goal.invariant-loop-number
invariant-loop-number l = AreFirst (AreEditWords l.fallen) [] l.edits l.all.items l.number
