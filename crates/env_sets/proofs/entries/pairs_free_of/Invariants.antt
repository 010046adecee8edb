use Rattle.std.proofs.Common.{◌≡◌, take, not}
use Rattle.std.specs.List.{filter}
use Rattle.smpl_terms.specs.Environments.{has_value}
use Rattle.env_sets.proofs.entries.pairs_free_of.Given as goal

abbrev pub invariant-loop-p : goal.invariant-loop-p
invariant-loop-p l = l.kept.items ≡ filter (λ p. not (has_value l.env p.0)) (take l.p-index l.pairs)
