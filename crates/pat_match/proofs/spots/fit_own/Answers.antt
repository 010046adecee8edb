use Rattle.std.proofs.lemmas.Result.{IfOk-weaker}
use Rattle.pat_match.proofs.VarLemmas.{kids-vars}
use Rattle.pat_match.proofs.spots.fit_own.Goals as goal

pub returns-else-is_disjunction-clause-vars : goal.returns-else-is_disjunction-clause-vars
returns-else-is_disjunction-clause-vars c = IfOk-weaker c.fit_own_kids.result _ _
    (λ r h v all. h v (kids-vars c.args.context.now.decls.now c.args.context.now.tokens.now v c.args.form.now c.in-Branch.label _
    c.as_slice.result.now c.in-Branch.is c.as_slice.ensures all)) c.fit_own_kids.ensures.vars
