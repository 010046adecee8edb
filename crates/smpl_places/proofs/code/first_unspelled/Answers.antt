use Rattle.std.proofs.Common.{◌<◌, length, arith}
use Rattle.smpl_places.proofs.UnspelledLemmas.{found_here, tells_not}
use Rattle.smpl_places.proofs.code.first_unspelled.Goals as goal

pub returns-then-not-branch : goal.returns-then-not-branch
returns-then-not-branch c =
    let within : c.loop-piece.piece-index < length c.args.pieces.now = omega arith in
    found_here c.args.pieces.now c.args.all c.loop-piece.piece-index c.piece-item.result within c.piece-item.is c.loop-piece.invariant
    (tells_not c.in_ok-is_spelled.field-0 c.piece-item.result.tokens (rw c.as_slice.ensures at c.in_ok-is_spelled.ensures) c.if-not-branch.true)
