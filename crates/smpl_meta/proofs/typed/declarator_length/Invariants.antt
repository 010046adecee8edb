use Rattle.std.proofs.Common.{◌≡◌, ◌≤◌, ◌+◌, drop}
use Rattle.smpl_meta.specs.Typed.{declarator_length}
use Rattle.smpl_meta.proofs.typed.declarator_length.Given as goal

abbrev pub invariant-loop-i : goal.invariant-loop-i
invariant-loop-i l = record {
  depth : l.depth ≤ l.i;
  same : l.i + declarator_length l.depth (drop l.i l.tokens) ≡ declarator_length 0 l.tokens;
}
