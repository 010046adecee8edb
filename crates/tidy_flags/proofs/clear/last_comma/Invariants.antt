use Rattle.std.proofs.Common.{◌≡◌, ◌≤◌, ◌<◌, drop}
use Rattle.std.specs.Prelude.{IfSome, None}
use Rattle.tidy_flags.specs.Clearing.{last_from}
use Rattle.tidy_flags.proofs.clear.last_comma.Given as goal

abbrev pub invariant-loop-at : goal.invariant-loop-at
invariant-loop-at l = record {
  depth : l.last.depth ≤ l.at;
  within : IfSome l.last.found (λ k. k < l.at);
  found : last_from l.at l.last.depth l.last.found (drop l.at l.signs) (drop l.at l.stays) ≡ last_from 0 0 None l.signs l.stays;
}
