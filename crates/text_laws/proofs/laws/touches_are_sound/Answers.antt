use Rattle.text_laws.proofs.SoundTouches.{sound_touches}
use Rattle.text_laws.proofs.laws.touches_are_sound.Goals as goal

pub returns : goal.returns
returns c = sound_touches
