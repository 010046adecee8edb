use Rattle.std.proofs.Common.{◌≡◌, ◌||◌, map, take}
use Rattle.std.specs.List.{list_any}
use Rattle.smpl_terms.specs.declared.var.Var.{Var}
use Rattle.pattern_vars.specs.Reads.{has}
use Rattle.ctl_table.specs.EndAtoms.{names_in}
use Rattle.ctl_table.proofs.EndAtomLemmas.{levels}
use Rattle.ctl_table.proofs.end_atoms.+put_names.Given as goal

abbrev pub decreases-put_names : goal.decreases-put_names
decreases-put_names l = levels l.end_atoms.now

abbrev pub invariant-loop-one : goal.invariant-loop-one
invariant-loop-one l =
    (y : Var) → has l.names y ≡ (has l.initial.names y || list_any (λ f. f y) (map names_in (take l.one-index l.one-items)))
