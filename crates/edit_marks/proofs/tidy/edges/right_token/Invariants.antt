use Rattle.std.proofs.Common.{◌+◌, ◌-◌, ◌*◌, length, ◌≡◌}
use Rattle.edit_marks.specs.Tidy.Searches.{rank, found_right, IsRightSearch}
use Rattle.edit_marks.proofs.tidy.edges.right_token.Given as goal

abbrev pub invariant-steps : goal.invariant-steps
invariant-steps l = record {
  place : IsRightSearch l.files l.removed l.blocks l.at;
  same : found_right l.files l.removed l.blocks l.at ≡ found_right l.files l.removed l.blocks l.fn.from;
}

abbrev pub decreases-steps : goal.decreases-steps
decreases-steps l = (length l.blocks - l.at.next) + (2 * length l.files - rank l.at)
