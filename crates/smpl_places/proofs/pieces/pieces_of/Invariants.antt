use Rattle.std.proofs.Common.{◌≡◌, take}
use Rattle.std.specs.Prelude.{fold}
use Rattle.smpl_places.specs.Pieces.{step, begun}
use Rattle.smpl_places.proofs.pieces.pieces_of.Given as goal

abbrev pub invariant-loop-p : goal.invariant-loop-p
invariant-loop-p l = l.parting ≡ fold step begun (take l.p-index l.placed)
