use Rattle.std.proofs.Common.{◌∙◌}
use Rattle.std.proofs.lemmas.Result.{IfOk-weaker}
use Rattle.pat_match.proofs.FirstLemmas.{dots_fit}
use Rattle.pat_match.proofs.lists.fit_dots.Goals as goal

pub returns-clause-meaning : goal.returns-clause-meaning
returns-clause-meaning c = IfOk-weaker c.with_stand.result _ _
    (λ r h label env. h env ∙ dots_fit c.args.context.now.decls.now c.args.context.now.tokens.now env label c.args.token.now c.args.run.now _ _
    c.requires (c.in_ok-all.ensures.meaning env) c.first_of_run-first.ensures)
    c.with_stand.ensures.meaning
