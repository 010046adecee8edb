use Rattle.run_words.proofs.Told.{not_text}
use Rattle.run_words.proofs.faults.text_fault.Goals as goal

pub returns : goal.returns
returns c = record { fault = not_text c.args.words.now c.requires c.texts_before.result c.texts_before.ensures.first }
