use Rattle.std.proofs.Common.{ap₂, ◌∙◌}
use Rattle.std.specs.List.{list_any}
use Rattle.std.proofs.lemmas.Result.{IfOk-weaker}
use Rattle.ctl_fixpoint.specs.RequiredWords.FormGroups.{fits_some}
use Rattle.ctl_fixpoint.proofs.required_words.solving.solve_by.Goals as goal

pub returns-clause-meaning : goal.returns-clause-meaning
returns-clause-meaning c = IfOk-weaker c.solve_runs.result _ _
    (λ r h env. h env
    ∙ ap₂ (λ role t. list_any (fits_some c.args.context.now.decls.now c.args.context.now.tokens.now c.args.context.now.types.now env c.args.p.now role t)
    c.args.p.now.forms)
    c.role_of.ensures c.as_tree.ensures.value)
    c.solve_runs.ensures.meaning
