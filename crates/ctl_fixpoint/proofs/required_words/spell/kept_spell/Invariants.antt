use Rattle.std.proofs.Common.{◌≡◌, drop, length}
use Rattle.std.specs.List.{list_any}
use Rattle.smpl_patch.specs.Held.{is_held, kept}
use Rattle.ctl_fixpoint.specs.RequiredWords.Words.{spells}
use Rattle.ctl_fixpoint.proofs.required_words.spell.kept_spell.Given as goal

abbrev pub invariant-loop-i : goal.invariant-loop-i
invariant-loop-i l = list_any (spells l.word) (kept (is_held l.spot l.label (length l.trees)) l.i (drop l.i l.trees))
    ≡ list_any (spells l.word) (kept (is_held l.spot l.label (length l.trees)) 0 l.trees)
