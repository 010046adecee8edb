use Rattle.std.proofs.Common.{◌≡◌, ◌-◌}
use Rattle.pat_match.specs.Wants.{is_pointer}
use Rattle.pat_match.proofs.wants.is_pointer.Given as goal

abbrev pub invariant-loop : goal.invariant-loop
invariant-loop l = is_pointer (l.times - l.counter) l.inner ≡ is_pointer l.times l.ty
