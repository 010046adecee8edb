use Rattle.std.proofs.Common.{arith, sym, ap, ◌∙◌, ◌||◌}
use Rattle.std.specs.List.{list_any}
use Rattle.c_terms.specs.declared.tree.Tree.TheVariants.{Branch}
use Rattle.c_terms.specs.Places.{Place}
use Rattle.c_terms.proofs.PathLemmas.{child-levels}
use Rattle.env_sets.specs.Sets.{set_denotes}
use Rattle.pat_match.specs.Fitting.{fits_tree}
use Rattle.pat_match.proofs.InsideLemmas.{kids_of, any_child_done}
use Rattle.pat_match.proofs.inside.+put_child.Goals as goal

pub loop-j-init : goal.loop-j-init
loop-j-init t c = record {
  meaning = λ env. ap (λ ps. set_denotes c.put_part.new.entries.items env
      || list_any (λ (s : Place). fits_tree c.args.context.now.decls.now c.args.context.now.tokens.now c.args.context.now.types.now env c.args.form.now s.tree)
      ps)
      (sym (kids_of c.args.child.now c.in-Branch.inner _ c.as_slice-below-items.result.now c.in-Branch.is c.as_slice-below-items.ensures));
  vars = λ v all before. before;
}

pub put_child-requires : goal.put_child-requires
put_child-requires t c =
    let e = c.in-Branch.is ∙ ap (Branch c.in-Branch.inner) (sym c.as_slice-below-items.ensures) in
    let d = child-levels c.args.child.now c.in-Branch.inner c.as_slice-below-items.result.now c.loop-j.j c.below-item.result e
    c.loop-j-test.true c.below-item.is in
    (omega arith, tt)

pub returns-after-loop-j-clause-meaning : goal.returns-after-loop-j-clause-meaning
returns-after-loop-j-clause-meaning t c = λ env.
    any_child_done (λ u. fits_tree c.args.context.now.decls.now c.args.context.now.tokens.now c.args.context.now.types.now env c.args.form.now u) c.args.label
    c.args.i c.args.child.now
    c.in-Branch.inner c.as_slice-below-items.result.now c.loop-j.j c.is_expression_part-asked.result _ _ _ c.loop-j-test.false
    c.is_expression_part-asked.ensures.value (c.in_ok-put_part.ensures.meaning env) (c.loop-j.invariant.meaning env)
