use Rattle.std.proofs.Common.{List}
use Rattle.smpl_patch.specs.declared.rule.Iso.{Iso}
use Rattle.smpl_patch.specs.declared.rule.Patch.{Patch}
use Rattle.smpl_patch.specs.Sound.{IsSound}
use Rattle.iso_expand.specs.Patches.{IsExpanded}
use Rattle.sound_laws.specs.IsoLaws.Fine.{AreFine}
use Rattle.sound_laws.proofs.IsoLaws.PatchLaws.{patch_sound}
use Rattle.sound_laws.proofs.iso_laws.expanded_patches_are_sound.Goals as goal

law : (isos : List Iso) (p q : Patch) → AreFine isos → IsExpanded isos p q → IsSound p → IsSound q
law isos p q f h s = patch_sound isos f p q h s

pub returns : goal.returns
returns c = record { sound = law }
