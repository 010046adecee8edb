use Rattle.std.proofs.Common.{◌≡◌, take, true}
use Rattle.std.specs.List.{list_all}
use Rattle.smpl_terms.specs.Environments.{value_in}
use Rattle.env_sets.specs.Splits.{fits_if}
use Rattle.env_sets.proofs.algebra.entry_agrees.Given as goal

abbrev pub invariant-loop-p : goal.invariant-loop-p
invariant-loop-p l = list_all (λ p. fits_if (value_in l.env p.0) p.1) (take l.p-index l.p-items) ≡ true
