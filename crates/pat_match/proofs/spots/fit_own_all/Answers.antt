use Rattle.std.proofs.Common.{arith, ap, sym, ◌∙◌, not, ◌||◌, length}
use Rattle.env_sets.specs.Sets.{set_denotes}
use Rattle.cfg_build.specs.CfgGraph.Own.{is_own}
use Rattle.pat_match.specs.Fitting.{piece, fits_tree}
use Rattle.pat_match.specs.Vars.{form_vars}
use Rattle.pat_match.proofs.SpotLemmas.{own_fit-uneven_map, own_fit_step}
use Rattle.pat_match.proofs.VarLemmas.{all_at}
use Rattle.pat_match.proofs.spots.fit_own_all.Goals as goal

pub returns-then-forms-trees-clause-meaning : goal.returns-then-forms-trees-clause-meaning
returns-then-forms-trees-clause-meaning c = λ env. c.none.ensures.meaning env
    ∙ sym (own_fit-uneven_map (is_own c.args.kind c.args.label (length c.args.forms.now))
    (piece c.args.context.now.decls.now c.args.context.now.tokens.now c.args.context.now.types.now env) c.args.forms.now c.args.trees.now
    (λ e. omega (arith, e, c.if-forms-trees.true)))

pub loop-i-preserved : goal.loop-i-preserved
loop-i-preserved c = record {
  even = c.loop-i.invariant.even;
  rest = λ env. own_fit_step c.args.context.now.decls.now c.args.context.now.tokens.now c.args.context.now.types.now env
      (is_own c.args.kind c.args.label (length c.args.forms.now))
      c.args.forms.now c.args.trees.now c.loop-i.i _ c.index-forms-i.result c.index-trees-i.result _
      (set_denotes c.loop-i.out env) (set_denotes c.in_ok-here.here env) _ (omega arith) (omega arith) c.loop-i.invariant.even
      c.index-forms-i.is c.index-trees-i.is (c.in_ok-out-2.ensures.meaning env) (c.in_ok-here.ensures.meaning env
      ∙ ap (λ o. not o || fits_tree c.args.context.now.decls.now c.args.context.now.tokens.now c.args.context.now.types.now env c.index-forms-i.result
      c.index-trees-i.result) c.is_own-own.ensures.value)
      (c.loop-i.invariant.rest env);
  vars = λ v all. c.in_ok-out-2.ensures.vars v (c.loop-i.invariant.vars v all)
      (c.in_ok-here.ensures.vars v (all_at (form_vars c.args.context.now.decls.now c.args.context.now.tokens.now v) c.args.forms.now
      c.loop-i.i _ (omega arith) c.index-forms-i.is all));
}
