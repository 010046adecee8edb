use Rattle.std.proofs.Common.{arith, refl, sym, ap, ap₂, ◌∙◌, ◌+◌, ◌++◌}
use Rattle.std.proofs.lemmas.Result.{IfOk-weaker}
use Rattle.std.specs.Option.{option_copied}
use Rattle.smpl_terms.specs.Environments.{total}
use Rattle.pat_match.specs.Fitting.{piece, alignment}
use Rattle.pat_match.specs.PatPairs.Pairs.{numbers}
use Rattle.pat_match.proofs.PatPairs.PairLemmas.{all_fit-even, all_next, zip_step, first_none, first_here, first_past}
use Rattle.pat_match.proofs.PatPairs.PairLemmas.{next_fits, next_found, next_comma, next_single}
use Rattle.pat_match.proofs.pat_pairs.pairing.+pair.Goals as goal

pub put_all-loop-i-init : goal.put_all-loop-i-init
put_all-loop-i-init t c = record {
  even = all_fit-even (piece c.args.bound.now.context.now.decls.now c.args.bound.now.context.now.tokens.now c.args.bound.now.context.now.types.now
      (total c.args.bound.now.env.now)) c.args.forms.now c.args.trees.now c.requires.fits;
  fits = c.requires.fits;
  found = refl;
}

pub put_all-loop-i-preserved : goal.put_all-loop-i-preserved
put_all-loop-i-preserved t c = record {
  even = c.loop-i.invariant.even;
  fits = all_next c.args.bound.now.context.now.decls.now c.args.bound.now.context.now.tokens.now c.args.bound.now.context.now.types.now
      (total c.args.bound.now.env.now) c.args.forms.now c.args.trees.now c.loop-i.i _
      c.index-forms-i.result c.index-trees-i.result (omega arith) (omega arith) c.loop-i.invariant.even
      c.index-forms-i.is c.index-trees-i.is c.loop-i.invariant.fits;
  found = zip_step c.args.bound.now.context.now.decls.now c.args.bound.now.context.now.tokens.now c.args.bound.now.context.now.types.now
      (total c.args.bound.now.env.now) c.args.forms.now c.args.trees.now c.loop-i.i _
      c.index-forms-i.result c.index-trees-i.result c.loop-i.found.items _ _ (omega arith) (omega arith)
      (omega (arith, c.loop-i.invariant.even)) c.index-forms-i.is c.index-trees-i.is
      c.in_ok-put_pairs.ensures c.loop-i.invariant.found;
}

pub put_first-returns-then-branch : goal.put_first-returns-then-branch
put_first-returns-then-branch t c = IfOk-weaker c.put_pairs.result _ _
    (λ r h. h ∙ ap₂ (λ xs ps. xs ++ numbers ps) c.loop-form.invariant.same
    (first_here c.args.bound.now.context.now.decls.now c.args.bound.now.context.now.tokens.now c.args.bound.now.context.now.types.now
    (total c.args.bound.now.env.now) c.args.forms.now c.args.tree.now
    c.loop-form.form-index c.form-item.result _ (omega arith) c.form-item.is
    (sym c.in_ok-does_fit.ensures ∙ c.if-branch.true) c.loop-form.invariant.first))
    c.put_pairs.ensures

pub put_first-loop-form-preserved : goal.put_first-loop-form-preserved
put_first-loop-form-preserved t c = record {
  same = c.loop-form.invariant.same;
  first = first_none c.args.bound.now.context.now.decls.now c.args.bound.now.context.now.tokens.now c.args.bound.now.context.now.types.now
      (total c.args.bound.now.env.now) c.args.forms.now c.args.tree.now
      c.loop-form.form-index (c.loop-form.form-index + 1) c.form-item.result _ (omega arith) (omega arith) c.form-item.is
      (sym c.in_ok-does_fit.ensures ∙ c.if-branch.false) c.loop-form.invariant.first;
}

pub put_first-returns : goal.put_first-returns
put_first-returns t c = c.loop-form.invariant.same
    ∙ first_past c.args.bound.now.context.now.decls.now c.args.bound.now.context.now.tokens.now c.args.bound.now.context.now.types.now
    (total c.args.bound.now.env.now) c.args.forms.now c.args.tree.now
    c.loop-form.form-index _ _ c.loop-form-test.false c.loop-form.invariant.first

pub put_members-loop-i-preserved : goal.put_members-loop-i-preserved
put_members-loop-i-preserved t c = record {
  left = c.in_ok-taken.ensures.within;
  fits = next_fits c.args.bound.now.context.now.decls.now c.args.bound.now.context.now.tokens.now c.args.bound.now.context.now.types.now
      (total c.args.bound.now.env.now) c.args.label c.args.forms.now c.loop-i.i
      (c.loop-i.i + 1) c.loop-i.taken c.in_ok-taken.taken c.args.members.now c.loop-i.found.items c.put_next.new.found.items
      (omega arith) c.in_ok-taken.ensures;
  found = next_found c.args.bound.now.context.now.decls.now c.args.bound.now.context.now.tokens.now c.args.bound.now.context.now.types.now
      (total c.args.bound.now.env.now) c.args.label c.args.forms.now c.loop-i.i
      (c.loop-i.i + 1) c.loop-i.taken c.in_ok-taken.taken c.args.members.now c.loop-i.found.items c.put_next.new.found.items _
      (omega arith) c.in_ok-taken.ensures c.loop-i.invariant.found;
}

pub put_next-returns-in_ok-put_comma_before-in-Some :
    goal.put_next-returns-in_ok-put_comma_before-in-Some
put_next-returns-in_ok-put_comma_before-in-Some t c =
    next_comma c.args.bound.now.context.now.decls.now c.args.bound.now.context.now.tokens.now c.args.bound.now.context.now.types.now
    (total c.args.bound.now.env.now) c.args.label c.args.forms.now c.args.i c.args.taken
    c.index-forms-i.result _ c.args.members.now _ _ c.requires.within c.index-forms-i.is
    (sym c.comma.ensures.value ∙ ap option_copied c.in-Some.is) c.requires.left c.requires.fits
    c.in_ok-put_comma_before-in-Some.ensures

pub put_single-returns : goal.put_single-returns
put_single-returns t c =
    next_single c.args.bound.now.context.now.decls.now c.args.bound.now.context.now.tokens.now c.args.bound.now.context.now.types.now
    (total c.args.bound.now.env.now) c.args.label c.args.forms.now c.args.i c.args.taken
    (c.args.taken + 1) c.args.form.now c.taken_member-member.result.now c.args.members.now _ _ _ _ c.requires.within
    c.requires.child c.requires.member c.requires.single c.requires.left c.requires.fits
    c.taken_member-member.ensures.less c.taken_member-member.ensures.item refl refl c.in_ok-put_comma_before.ensures
    (c.in_ok-put_pairs.ensures ∙ ap (λ u. c.put_comma_before.new.found.items
    ++ numbers (alignment c.args.bound.now.context.now.decls.now c.args.bound.now.context.now.tokens.now c.args.bound.now.context.now.types.now
    (total c.args.bound.now.env.now) c.args.form.now u)) c.tree.ensures)
