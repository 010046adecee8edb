use Rattle.std.proofs.Common.{◌≡◌, ℕ, ◌≤◌, ◌-◌, take, drop}
use Rattle.std.specs.Prelude.{not, nat_lt}
use Rattle.std.specs.List.{list_all}
use Rattle.iso_expand.proofs.iso_forms.arrows.lowest.Given as goal

abbrev pub invariant-loop-k : goal.invariant-loop-k
invariant-loop-k l = (j : ℕ) → j ≤ l.k → list_all (λ b. b) (take (l.k - j) (drop j l.both)) ≡ not (nat_lt j l.low)
