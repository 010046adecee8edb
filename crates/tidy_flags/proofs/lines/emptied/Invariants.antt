use Rattle.std.proofs.Common.{◌≡◌, ◌≤◌, ◌-◌, ◌++◌, take, drop}
use Rattle.tidy_flags.specs.Lines.{emptied, emptied_from}
use Rattle.tidy_flags.proofs.lines.emptied.Given as goal

abbrev pub invariant-loop-at : goal.invariant-loop-at
invariant-loop-at l = record {
  rise : l.start ≤ l.at;
  flags : l.flags.items ++ emptied_from (take (l.at - l.start) (drop l.start l.bytes)) (drop l.at l.bytes) ≡ emptied l.bytes;
}
