use Rattle.std.proofs.Common.{drop}
use Rattle.smpl_places.proofs.UnspelledLemmas.{Left}
use Rattle.smpl_places.proofs.code.first_unspelled.Given as goal

abbrev pub invariant-loop-piece : goal.invariant-loop-piece
invariant-loop-piece l = Left l.pieces l.all (drop l.piece-index l.pieces)
