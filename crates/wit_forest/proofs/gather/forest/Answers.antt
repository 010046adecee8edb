use Rattle.std.proofs.Common.{sym, subst, arith}
use Rattle.ctl_formula.specs.Tables.{at, plains}
use Rattle.ctl_formula.specs.Formulas.{plain}
use Rattle.ctl_fixpoint.specs.CtlHolds.Parts.{IsPart}
use Rattle.wit_forest.proofs.PartLemmas.{part_itself}
use Rattle.wit_forest.proofs.gather.forest.Goals as goal

pub forest_at-requires-clause-range : goal.forest_at-requires-clause-range
forest_at-requires-clause-range c =
    let f = c.args.f.now in
    record {
      within = c.root.ensures.within;
      low = omega arith;
      part = subst (λ i. IsPart (at (plains f.nodes) i) (plain f)) (sym c.root.ensures.root) (part_itself (plain f));
      node = c.requires.node;
    }
