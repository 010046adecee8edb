use Rattle.std.proofs.Common.{arith, refl, ap, ◌∙◌, ◌++◌, cond, [], length}
use Rattle.smpl_terms.specs.Environments.{total}
use Rattle.cfg_build.specs.CfgGraph.Own.{is_own}
use Rattle.pat_match.specs.Fitting.{piece, alignment}
use Rattle.pat_match.specs.PatPairs.Pairs.{numbers}
use Rattle.pat_match.proofs.PatPairs.PairLemmas.{own_fit-even, own_next, own_pairs_step}
use Rattle.pat_match.proofs.pat_pairs.own.put_own_all.Goals as goal

pub loop-i-init : goal.loop-i-init
loop-i-init c = record {
  even = own_fit-even (is_own c.args.kind c.args.label (length c.args.forms.now)) 0
      (piece c.args.bound.now.context.now.decls.now c.args.bound.now.context.now.tokens.now c.args.bound.now.context.now.types.now
      (total c.args.bound.now.env.now))
      c.args.forms.now c.args.trees.now c.requires.fits;
  fits = c.requires.fits;
  found = refl;
}

pub loop-i-preserved : goal.loop-i-preserved
loop-i-preserved c = record {
  even = c.loop-i.invariant.even;
  fits = own_next c.args.bound.now.context.now.decls.now c.args.bound.now.context.now.tokens.now c.args.bound.now.context.now.types.now
      (total c.args.bound.now.env.now) (is_own c.args.kind c.args.label (length c.args.forms.now))
      c.args.forms.now c.args.trees.now c.loop-i.i _ c.index-forms-i.result c.index-trees-i.result (omega arith) (omega arith)
      c.loop-i.invariant.even c.index-forms-i.is c.index-trees-i.is c.loop-i.invariant.fits;
  found = own_pairs_step c.args.bound.now.context.now.decls.now c.args.bound.now.context.now.tokens.now c.args.bound.now.context.now.types.now
      (total c.args.bound.now.env.now)
      (is_own c.args.kind c.args.label (length c.args.forms.now)) c.args.forms.now c.args.trees.now c.loop-i.i _
      c.index-forms-i.result c.index-trees-i.result c.loop-i.found.items _ _ (omega arith) (omega arith)
      (omega (arith, c.loop-i.invariant.even)) c.index-forms-i.is c.index-trees-i.is
      (c.in_ok-put_own_child.ensures ∙ ap (λ o. c.loop-i.found.items
      ++ numbers (cond o (alignment c.args.bound.now.context.now.decls.now c.args.bound.now.context.now.tokens.now c.args.bound.now.context.now.types.now
      (total c.args.bound.now.env.now) c.index-forms-i.result c.index-trees-i.result) []))
      c.is_own-own.ensures.value) c.loop-i.invariant.found;
}
