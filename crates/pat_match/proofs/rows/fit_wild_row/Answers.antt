use Rattle.std.proofs.Common.{arith, ◌∙◌}
use Rattle.std.proofs.lemmas.Result.{IfOk-weaker}
use Rattle.pat_match.specs.Rows.{comma_before}
use Rattle.pat_match.proofs.EveryLemmas.{every_step}
use Rattle.pat_match.proofs.rows.fit_wild_row.Goals as goal

pub returns-then-is_free-clause-meaning : goal.returns-then-is_free-clause-meaning
returns-then-is_free-clause-meaning c = IfOk-weaker c.fit_every_row.result _ _
    (λ r h n less env. h n env (omega (arith, less))
    ∙ every_step c.args.context.now.decls.now c.args.context.now.tokens.now c.args.context.now.types.now c.args.child.now.label
    (comma_before c.args.child.now.forms.now c.args.child.now.i) c.args.child.now.form.now
    c.args.members.now c.args.row.now n env c.requires.wild (c.is_free.ensures.comma c.if-is_free.true)
    (c.is_free.ensures.run c.if-is_free.true c.args.context.now.decls.now env c.args.child.now.label) (omega (arith, less)))
    c.fit_every_row.ensures.meaning

pub returns-then-is_free-clause-vars : goal.returns-then-is_free-clause-vars
returns-then-is_free-clause-vars c = IfOk-weaker c.fit_every_row.result _ _
    (λ r h t all here rest. h t rest) c.fit_every_row.ensures.vars
