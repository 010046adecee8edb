use Rattle.text_laws.proofs.FairEdits.{fair}
use Rattle.text_laws.proofs.Again.{page_counted}
use Rattle.text_laws.proofs.laws.text_keeps_its_tokens.Goals as goal

pub returns : goal.returns
returns c = λ found rule items nodes pieces edits next again cuts reads differ sound are lexes.
    page_counted next pieces edits again cuts (fair found rule items nodes pieces edits are
    (c.trees_are_sound.ensures pieces items cuts reads) differ sound) lexes
