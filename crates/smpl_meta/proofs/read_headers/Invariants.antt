use Rattle.std.proofs.Common.{◌≡◌, [], length, take}
use Rattle.smpl_meta.specs.Heads.{AreHeads}
use Rattle.smpl_meta.proofs.read_headers.Given as goal

abbrev pub invariant-loop-i : goal.invariant-loop-i
invariant-loop-i l = record {
  virtuals : l.earlier.virtuals ≡ l.text.virtuals;
  count : length l.earlier.heads ≡ l.i;
  heads : AreHeads l.text [] (take l.i l.rules) l.earlier.heads;
}
