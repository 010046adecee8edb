use Rattle.ctl_fixpoint.specs.Steps.{AreRowsTo}
use Rattle.ctl_fixpoint.proofs.part.sat.Given as goal

abbrev pub invariant-loop-i : goal.invariant-loop-i
invariant-loop-i l = AreRowsTo l.g.graph.now l.f.nodes l.f.decls l.f.tokens l.i l.rows.items
