-- Witnesses without the ids of their terms' tokens, as they are compared.
use Rattle.std.specs.Prelude.{map}
use Rattle.smpl_patch.specs.declared.witness.Witness.{Witness}
use Rattle.smpl_patch.specs.declared.witness.Witness.TheOpen.{Witness-F}
use Rattle.smpl_patch.specs.declared.witness.Witness.TheVariants.{Touch, Bind}
use Rattle.smpl_patch.specs.declared.witness.Witness.TheFolds.{fold-Witness}
use Rattle.smpl_patch.specs.declared.witness.RuleWitness.{RuleWitness}
use Rattle.env_parts.specs.Parts.{bare_value, bare_env}

abbrev pub bare_step : Witness-F Witness → Witness
bare_step (Witness-F.Touch n a p) = Touch n a p
bare_step (Witness-F.Bind n x v ws) = Bind n x (bare_value v) ws

abbrev pub bare_tree : Witness → Witness
bare_tree = fold-Witness Witness bare_step

abbrev pub bare_witness : RuleWitness → RuleWitness
bare_witness w = record w { env = bare_env w.env; forest = map bare_tree w.forest }
