use Rattle.sound_laws.proofs.IsoWellformed.FineLemmas.{file-fine}
use Rattle.sound_laws.proofs.iso_wellformed.laws.read_isomorphisms_are_fine.Goals as goal

pub returns : goal.returns
returns c = record {
  fine = file-fine;
  sound = λ bytes isos p q of is sound. c.expanded_patches_are_sound.ensures.sound isos p q (file-fine bytes isos of) is sound;
}
