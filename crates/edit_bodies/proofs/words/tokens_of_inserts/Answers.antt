use Rattle.std.proofs.Common.{[], refl}
use Rattle.edit_bodies.specs.Scenes.{AreEditWords}
use Rattle.edit_bodies.proofs.SceneLemmas.{first_all}
use Rattle.edit_bodies.proofs.words.tokens_of_inserts.Goals as goal

pub returns : goal.returns
returns c =
    first_all (AreEditWords c.args.fallen.now) [] c.args.edits.now c.loop-number.all.items c.loop-number.number c.loop-number-test.false
    c.loop-number.invariant (λ k insert. refl)
