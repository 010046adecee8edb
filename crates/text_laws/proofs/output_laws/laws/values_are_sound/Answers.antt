use Rattle.text_laws.proofs.OutputLaws.GraphValues.{sound_values}
use Rattle.text_laws.proofs.output_laws.laws.values_are_sound.Goals as goal

pub returns : goal.returns
returns c = sound_values
