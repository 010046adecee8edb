use Rattle.std.proofs.Common.{ℕ, ◌<◌, ◌≤◌, ◌-◌, IsSome, None}
use Rattle.iso_file.specs.Stepped.{IsLostFrom}
use Rattle.iso_file.proofs.lost.least_lost.Given as goal

abbrev pub invariant-loop-low : goal.invariant-loop-low
invariant-loop-low l = record {
  order : l.low ≤ l.high;
  within : l.high ≤ l.last;
  below : (n : ℕ) → n < l.low → IsLostFrom l.vars l.sides l.both n None;
  here : IsLostFrom l.vars l.sides l.both l.high l.found;
  some : IsSome l.found;
}

abbrev pub decreases-loop-low : goal.decreases-loop-low
decreases-loop-low l = l.high - l.low
