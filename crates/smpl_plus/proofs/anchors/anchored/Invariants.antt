use Rattle.std.proofs.Common.{◌≡◌, take}
use Rattle.smpl_plus.specs.Blocks.{put_lines, no_blocks}
use Rattle.smpl_plus.specs.SoFar.{SoFar, AtLine}
use Rattle.smpl_plus.proofs.anchors.anchored.Given as goal

abbrev pub invariant-loop-l : goal.invariant-loop-l
invariant-loop-l l = record {
  index : l.number ≡ l.l-index;
  at : AtLine l.number l.before l.placed;
  so_far : SoFar l.vars l.placed (put_lines l.placed 0 no_blocks (take l.l-index l.body)) l.s;
}
