use Rattle.std.proofs.Common.{◌+◌}
use Rattle.c_terms.specs.Trees.{levels}
use Rattle.smpl_body.specs.SmplElem.Forms.{before}
use Rattle.smpl_body.specs.SmplElem.Elements.{total}
use Rattle.smpl_body.proofs.SmplElem.PartLemmas.{parts_from}
use Rattle.smpl_body.proofs.SmplElem.CountLemmas.{Counts}
use Rattle.smpl_body.proofs.smpl_elem.count.+count_atoms.Given as goal

abbrev pub invariant-loop-i : goal.invariant-loop-i
invariant-loop-i l = Counts l.form l.label l.tree l.count l.i (before l.form + total (parts_from l.form l.label l.tree 0))

abbrev pub decreases-count_atoms : goal.decreases-count_atoms
decreases-count_atoms l = levels l.tree.now
