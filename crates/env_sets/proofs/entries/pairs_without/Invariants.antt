use Rattle.std.proofs.Common.{◌≡◌, take, not}
use Rattle.std.specs.List.{filter}
use Rattle.smpl_terms.specs.Vars.{same_var}
use Rattle.env_sets.proofs.entries.pairs_without.Given as goal

abbrev pub invariant-loop-p : goal.invariant-loop-p
invariant-loop-p l = l.kept.items ≡ filter (λ p. not (same_var p.0 l.v)) (take l.p-index l.pairs)
