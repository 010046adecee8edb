use Rattle.std.proofs.Common.{◌≡◌, take, length, vec_capacity}
use Rattle.smpl_patch.proofs.witness.Witness.+copy.Given as goal

abbrev pub invariant-loop-w : goal.invariant-loop-w
invariant-loop-w l = record { room : vec_capacity l.copies ≡ length l.w-items; same : l.copies.items ≡ take l.w-index l.w-items }
