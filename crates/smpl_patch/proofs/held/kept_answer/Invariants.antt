use Rattle.std.proofs.Common.{◌≡◌, drop, length}
use Rattle.std.specs.List.{list_any}
use Rattle.smpl_patch.specs.Held.{is_held, kept}
use Rattle.smpl_patch.specs.Patterns.{answer}
use Rattle.smpl_patch.proofs.held.kept_answer.Given as goal

abbrev pub invariant-loop-i : goal.invariant-loop-i
invariant-loop-i l = list_any (answer l.decls l.tokens l.question l.x) (kept (is_held l.spot l.label (length l.trees)) l.i (drop l.i l.trees))
    ≡ list_any (answer l.decls l.tokens l.question l.x) (kept (is_held l.spot l.label (length l.trees)) 0 l.trees)
