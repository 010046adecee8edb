use Rattle.std.proofs.Common.{◌≡◌, ℕ, ◌≤◌, ◌<◌, take, Contains}
use Rattle.ctl_fixpoint.specs.Sweeps.{time_at}
use Rattle.ctl_fixpoint.proofs.sweeps.Sweep.is_stale.Given as goal

abbrev pub invariant-loop-k : goal.invariant-loop-k
invariant-loop-k l = (k : ℕ) → Contains (take l.k-index l.k-items) k → time_at l.self.changed k ≤ l.seen
