use Rattle.std.proofs.Common.{◌<◌, length, sym, subst, arith, below_more}
use Rattle.ctl_formula.specs.Tables.{at, plains}
use Rattle.ctl_fixpoint.specs.CtlHolds.Parts.{OwnPattern, EachPattern}
use Rattle.ctl_fixpoint.specs.CtlHolds.BoundLaw.{SureStand}
use Rattle.ctl_fixpoint.proofs.CtlHolds.StandLemmas.{each_step}
use Rattle.ctl_fixpoint.proofs.ctl_holds.stands.sure_variables_stand.Goals as goal

pub loop-i-preserved : goal.loop-i-preserved
loop-i-preserved c =
    let f = c.args.f.now in
    let node = c.node.result.now in
    let own : OwnPattern (SureStand f.decls f.tokens) node =
    subst (λ tokens. OwnPattern (SureStand f.decls tokens) node) c.tokens.ensures.tokens
    (subst (λ decls. OwnPattern (SureStand decls c.tokens.result.now) node) c.decls.ensures.decls
    (c.node_stands.ensures c.if-not-node_stands.false)) in
    below_more (λ k. EachPattern (SureStand f.decls f.tokens) (at (plains f.nodes) k)) c.loop-i.i c.loop-i.invariant
    (subst (EachPattern (SureStand f.decls f.tokens)) (sym c.node.ensures.is)
    (each_step (SureStand f.decls f.tokens) node (plains f.nodes) c.loop-i.i c.node.ensures.kids own c.loop-i.invariant))

pub returns : goal.returns
returns c = record {
  stand = λ e.
      let lt : c.args.f.now.root < c.loop-i.i =
      omega (arith, c.root-root.ensures.within, c.root-root.ensures.root, c.len-i-end.ensures.len) in
      c.loop-i.invariant c.args.f.now.root lt;
}
