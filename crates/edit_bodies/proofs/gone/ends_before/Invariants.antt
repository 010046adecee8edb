use Rattle.std.proofs.Common.{◌≡◌, List, length}
use Rattle.edit_marks.specs.declared.tidy.shape.LeafRange.{LeafRange}
use Rattle.edit_bodies.specs.Gone.{AreEnds}
use Rattle.edit_bodies.proofs.GoneLemmas.{EndsSoFar}
use Rattle.edit_bodies.proofs.gone.ends_before.Given as goal

abbrev pub invariant-loop-end : goal.invariant-loop-end
invariant-loop-end l = record {
  len : length l.before.items ≡ l.end-index;
  ends : (ranges : List LeafRange) → AreEnds ranges l.ends → EndsSoFar ranges l.end-index l.before.items l.farthest;
}
