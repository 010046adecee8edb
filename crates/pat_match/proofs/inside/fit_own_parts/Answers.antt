use Rattle.std.proofs.Common.{◌∙◌, length}
use Rattle.std.proofs.lemmas.Result.{IfOk-weaker}
use Rattle.cfg_build.specs.CfgGraph.Own.{is_own}
use Rattle.pat_match.specs.Fitting.{fits_tree}
use Rattle.pat_match.proofs.InsideLemmas.{any_own_done}
use Rattle.pat_match.proofs.inside.fit_own_parts.Goals as goal

pub returns-clause-meaning : goal.returns-clause-meaning
returns-clause-meaning c = IfOk-weaker c.union.result _ _
    (λ r h env. h env ∙ any_own_done (λ u. fits_tree c.args.context.now.decls.now c.args.context.now.tokens.now c.args.context.now.types.now env c.args.form.now
    u)
    (is_own c.args.kind c.args.label (length c.args.children.now)) c.args.label c.args.children.now c.loop-i.i _ _ c.loop-i-test.false
    (c.loop-i.invariant.meaning env))
    c.union.ensures.meaning

pub returns-clause-vars : goal.returns-clause-vars
returns-clause-vars c = IfOk-weaker c.union.result _ _ (λ r h t all. h t (c.loop-i.invariant.vars t all)) c.union.ensures.vars
