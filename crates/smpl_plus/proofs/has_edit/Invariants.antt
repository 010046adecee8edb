use Rattle.std.proofs.Common.{◌≡◌, drop}
use Rattle.smpl_meta.specs.Heads.{has_edit}
use Rattle.smpl_plus.proofs.has_edit.Given as goal

abbrev pub invariant-loop-l : goal.invariant-loop-l
invariant-loop-l l = has_edit (drop l.l-index l.body) ≡ has_edit l.body
