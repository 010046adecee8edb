use Rattle.std.proofs.Common.{◌≡◌, ◌<◌, Some, length, slice_get, arith}
use Rattle.pat_match.specs.Vars.{form_vars}
use Rattle.ctl_fixpoint.specs.RequiredWords.FormGroups.{fits_some}
use Rattle.ctl_fixpoint.proofs.RequiredWords.FormGroupLemmas.{read-at, all-at, tried-more}
use Rattle.ctl_fixpoint.proofs.required_words.solving.put_forms.Goals as goal

pub loop-i-preserved : goal.loop-i-preserved
loop-i-preserved c =
    let forms = c.args.target.now.p.now.forms in
    let lt : c.loop-i.i < length forms = omega (arith, c.loop-i-test.true, c.requires.within) in
    let g : slice_get forms c.loop-i.i ≡ Some c.index-forms-i.result =
    read-at forms c.as_slice-forms.result.now c.loop-i.i c.index-forms-i.result c.as_slice-forms.ensures lt c.index-forms-i.is in
    record {
      meaning = λ env. tried-more (fits_some c.args.target.now.context.now.decls.now c.args.target.now.context.now.tokens.now
          c.args.target.now.context.now.types.now
          env c.args.target.now.p.now c.args.target.now.role c.args.target.now.tree.now)
          forms c.loop-i.i c.index-forms-i.result _ _ _ _ g
          (c.in_ok-put_set.ensures.meaning env) (c.in_ok-here.ensures.meaning env) (c.loop-i.invariant.meaning env);
      vars = λ t all old. c.in_ok-put_set.ensures.vars t (c.loop-i.invariant.vars t all old)
          (c.in_ok-here.ensures.vars t (all-at (form_vars c.args.target.now.context.now.decls.now
          c.args.target.now.context.now.tokens.now t) forms c.loop-i.i c.index-forms-i.result all g));
    }
