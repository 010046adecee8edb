use Rattle.std.proofs.Common.{◌≡◌, ◌<◌, ◌||◌, Bool, ap, ap₂, sym, ◌∙◌, arith, length, take}
use Rattle.std.specs.List.{list_any, list_all}
use Rattle.std.proofs.lemmas.Result.{IfOk-weaker}
use Rattle.c_terms.specs.Places.{Place}
use Rattle.env_sets.proofs.LoopLemmas.{any_step, all_step, both_parts}
use Rattle.pat_match.specs.Spots.{seats}
use Rattle.pat_match.specs.Roles.{role_of}
use Rattle.pat_match.specs.Matching.{fits_seat}
use Rattle.pat_match.specs.Vars.{form_vars}
use Rattle.pat_match.proofs.CountLemmas.{take_all}
use Rattle.pat_match.proofs.solving.solve.Goals as goal

pub loop-i-preserved : goal.loop-i-preserved
loop-i-preserved c =
    let forms = c.as_slice-forms.result.now in
    let lt : c.loop-i.i < length c.as_slice-forms.result.now = omega arith in
    record {
      meaning = λ env.
          c.in_ok-put_set.ensures.meaning env
          ∙ (λ k. c.loop-i.invariant.meaning env k || (c.in_ok-here.ensures.meaning env
          ∙ ap₂ (λ r t. list_any (λ (s : Place). fits_seat c.args.context.now.decls.now c.args.context.now.tokens.now c.args.context.now.types.now env
          c.args.p.now r c.index-forms-i.result s.tree)
          (seats c.args.p.now.spot r.kind t)) c.role_of-role.ensures c.as_tree-tree.ensures.value) k)
          ∙ sym (any_step (λ f. list_any (λ (s : Place). fits_seat c.args.context.now.decls.now c.args.context.now.tokens.now c.args.context.now.types.now
          env c.args.p.now (role_of c.args.node.now) f s.tree)
          (seats c.args.p.now.spot c.args.node.now.kind c.args.node.now.tree)) forms c.loop-i.i c.index-forms-i.result lt c.index-forms-i.is);
      vars = λ t all.
          let parts = both_parts (list_all (form_vars c.args.context.now.decls.now c.args.context.now.tokens.now t) (take c.loop-i.i forms))
          (form_vars c.args.context.now.decls.now c.args.context.now.tokens.now t c.index-forms-i.result)
          (sym (all_step (form_vars c.args.context.now.decls.now c.args.context.now.tokens.now t) forms c.loop-i.i
          c.index-forms-i.result lt c.index-forms-i.is) ∙ all) in
          c.in_ok-put_set.ensures.vars t (c.loop-i.invariant.vars t parts.0) (c.in_ok-here.ensures.vars t parts.1);
    }

pub returns-clause-meaning : goal.returns-clause-meaning
returns-clause-meaning c = IfOk-weaker c.union.result _ _
    (λ r h env. h env ∙ c.loop-i.invariant.meaning env
    ∙ ap (list_any (λ f. list_any (λ (s : Place). fits_seat c.args.context.now.decls.now c.args.context.now.tokens.now c.args.context.now.types.now env
    c.args.p.now (role_of c.args.node.now) f s.tree)
    (seats c.args.p.now.spot c.args.node.now.kind c.args.node.now.tree)))
    (take_all c.as_slice-forms.result.now c.loop-i.i c.loop-i-test.false ∙ c.as_slice-forms.ensures))
    c.union.ensures.meaning

pub returns-clause-vars : goal.returns-clause-vars
returns-clause-vars c = IfOk-weaker c.union.result _ _
    (λ r h t all. h t (c.loop-i.invariant.vars t (ap (list_all (form_vars c.args.context.now.decls.now c.args.context.now.tokens.now t))
    (take_all c.as_slice-forms.result.now c.loop-i.i c.loop-i-test.false ∙ c.as_slice-forms.ensures) ∙ all)))
    c.union.ensures.vars
