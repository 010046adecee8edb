use Rattle.std.proofs.Common.{◌≡◌, take}
use Rattle.smpl_patch.proofs.copies.copy_decls.Given as goal

abbrev pub invariant-loop-d : goal.invariant-loop-d
invariant-loop-d l = l.copies.items ≡ take l.d-index l.decls
