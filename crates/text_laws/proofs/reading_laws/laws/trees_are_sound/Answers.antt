use Rattle.text_laws.proofs.ReadingLaws.Tokens.{sound_items}
use Rattle.text_laws.proofs.reading_laws.laws.trees_are_sound.Goals as goal

pub returns : goal.returns
returns c = sound_items
