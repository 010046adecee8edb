use Rattle.text_laws.proofs.ChainTotal.ReadLemmas.{reads_some}
use Rattle.text_laws.proofs.chain_total.laws.texts_are_read.Goals as goal

pub returns : goal.returns
returns c = reads_some c.every_text_is_cut.ensures.pieces
