use Rattle.std.proofs.Common.{◌≡◌, ◌+◌}
use Rattle.c_terms.specs.Trees.{levels}
use Rattle.smpl_body.specs.SmplElem.Forms.{before}
use Rattle.smpl_body.specs.SmplElem.Elements.{total, seqs}
use Rattle.smpl_body.proofs.SmplElem.PartLemmas.{parts_from}
use Rattle.smpl_body.proofs.SmplElem.CountLemmas.{Counts, Makes}
use Rattle.smpl_body.proofs.smpl_elem.sequence.+elements.Given as goal

abbrev pub invariant-loop-i : goal.invariant-loop-i
invariant-loop-i g l = record {
  counts : Counts l.form l.label l.tree l.next l.i (l.first + before l.form + total (parts_from l.form l.label l.tree 0));
  makes : Makes l.form l.label l.tree (g.C.DotsSource.dots_at l.clauses) l.next l.i l.parts.items
      (seqs (g.C.DotsSource.dots_at l.clauses) (l.first + before l.form) (parts_from l.form l.label l.tree 0));
}

abbrev pub decreases-elements : goal.decreases-elements
decreases-elements g l = levels l.tree.now
