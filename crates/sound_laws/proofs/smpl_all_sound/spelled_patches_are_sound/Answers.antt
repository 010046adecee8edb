use Rattle.sound_laws.proofs.SmplAllSound.PatchLemmas.{patch-sound}
use Rattle.sound_laws.proofs.smpl_all_sound.spelled_patches_are_sound.Goals as goal

pub returns : goal.returns
returns c = record {
  sound = λ bytes patch s.
      let e = c.patches_are_sound.ensures in
      patch-sound c.blank_texts.ensures bytes patch s (e.virtuals bytes patch s) (e.count bytes patch s) (record {
        names = e.names bytes patch s;
        exports = e.exports bytes patch s;
        vars = e.vars bytes patch s;
        wanted = e.wanted bytes patch s;
        depends = e.depends bytes patch s;
        atoms = e.atoms bytes patch s;
        patterns = e.patterns bytes patch s;
        formed = e.formed bytes patch s;
        few = e.few bytes patch s;
        positions = e.positions bytes patch s;
        leads = e.leads bytes patch s;
        whole = e.whole bytes patch s;
        gaps = e.gaps bytes patch s;
      });
}
