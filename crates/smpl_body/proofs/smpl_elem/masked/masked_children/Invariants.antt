use Rattle.std.proofs.Common.{◌≡◌, ◌++◌, drop, length}
use Rattle.smpl_patch.specs.Held.{is_held}
use Rattle.smpl_body.specs.SmplElem.Forms.{masked_from}
use Rattle.smpl_body.proofs.smpl_elem.masked.masked_children.Given as goal

abbrev pub invariant-loop-i : goal.invariant-loop-i
invariant-loop-i l = l.kept.items ++ masked_from (is_held l.spot l.label (length l.trees)) l.i (drop l.i l.trees)
    ≡ masked_from (is_held l.spot l.label (length l.trees)) 0 l.trees
