use Rattle.text_laws.proofs.FairEdits.{fair}
use Rattle.text_laws.proofs.laws.edits_are_fair.Goals as goal

pub returns : goal.returns
returns c = λ found rule items nodes pieces edits cuts reads differ sound are.
    fair found rule items nodes pieces edits are (c.trees_are_sound.ensures pieces items cuts reads) differ sound
