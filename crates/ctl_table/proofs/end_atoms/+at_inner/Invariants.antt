use Rattle.std.proofs.Common.{take}
use Rattle.ctl_formula.specs.Tables.{plains}
use Rattle.ctl_table.specs.Settings.{MakesAll}
use Rattle.ctl_table.specs.EndAtoms.{each_end_atoms_at}
use Rattle.ctl_table.proofs.EndAtomLemmas.{levels}
use Rattle.ctl_table.proofs.end_atoms.+at_inner.Given as goal

abbrev pub decreases-at_inner : goal.decreases-at_inner
decreases-at_inner l = levels l.end_atoms.now

abbrev pub invariant-loop-one : goal.invariant-loop-one
invariant-loop-one l =
    MakesAll l.initial.parts l.parts l.found.items (each_end_atoms_at (plains l.initial.parts) (take l.one-index l.one-items) l.inner)
