use Rattle.std.proofs.Common.{◌≡◌, [], length, All}
use Rattle.ctl_fixpoint.proofs.sweeps.Sweep.new.Given as goal

abbrev pub invariant-loop-n : goal.invariant-loop-n
invariant-loop-n l = record {
  sets_len : length l.sets.items ≡ l._n;
  seen_len : length l.seen.items ≡ l._n;
  changed_len : length l.changed.items ≡ l._n;
  sets_none : All (λ e. e ≡ []) l.sets.items;
  seen_none : All (λ t. t ≡ 0) l.seen.items;
  changed_one : All (λ t. t ≡ 1) l.changed.items;
}
