use Rattle.std.proofs.Common.{◌≡◌, ◌≤◌, ◌++◌, drop, take, length}
use Rattle.tidy_flags.specs.Signs.{list_start}
use Rattle.tidy_flags.specs.Clearing.{early_flags}
use Rattle.tidy_flags.proofs.clear.clear_early.Given as goal

abbrev pub invariant-loop-at : goal.invariant-loop-at
invariant-loop-at l = record {
  depth : l.state.depth ≤ l.at;
  flags : take l.at l.stays ++ early_flags l.state (drop l.at l.signs) (drop l.at l.stays) ≡ early_flags list_start l.signs l.initial.stays;
}
