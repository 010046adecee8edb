use Rattle.std.proofs.Common.{◌+◌, ◌≡◌}
use Rattle.edit_marks.specs.Tidy.Searches.{rank, found_left, IsLeftSearch}
use Rattle.edit_marks.proofs.tidy.edges.left_token.Given as goal

abbrev pub invariant-steps : goal.invariant-steps
invariant-steps l = record {
  place : IsLeftSearch l.files l.removed l.blocks l.at;
  same : found_left l.files l.removed l.blocks l.at ≡ found_left l.files l.removed l.blocks l.fn.from;
}

abbrev pub decreases-steps : goal.decreases-steps
decreases-steps l = l.at.next + rank l.at
