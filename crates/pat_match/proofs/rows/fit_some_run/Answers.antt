use Rattle.std.proofs.Common.{ap, ◌∙◌}
use Rattle.std.specs.List.{list_any}
use Rattle.std.proofs.lemmas.Result.{IfOk-weaker}
use Rattle.pat_match.specs.Rows.{comma_before, row_vars, wild_entry}
use Rattle.pat_match.proofs.RowLemmas.{wild_step}
use Rattle.pat_match.proofs.CountLemmas.{take_all}
use Rattle.pat_match.proofs.rows.fit_some_run.Goals as goal

pub returns-clause-meaning : goal.returns-clause-meaning
returns-clause-meaning c = IfOk-weaker c.union.result _ _
    (λ r h env. h env ∙ c.loop-entry.invariant.meaning env
    ∙ ap (list_any (wild_entry c.args.context.now.decls.now c.args.context.now.tokens.now c.args.context.now.types.now c.args.child.now.label
    (comma_before c.args.child.now.forms.now c.args.child.now.i) c.args.child.now.form.now c.args.members.now c.args.from env))
    (take_all c.args.row.now c.loop-entry.entry-index c.loop-entry-test.false)
    ∙ wild_step c.args.context.now.decls.now c.args.context.now.tokens.now c.args.context.now.types.now c.args.child.now.label
    (comma_before c.args.child.now.forms.now c.args.child.now.i) c.args.child.now.form.now c.args.members.now c.args.row.now c.args.from env
    c.requires.wild c.requires.left)
    c.union.ensures.meaning

pub returns-clause-vars : goal.returns-clause-vars
returns-clause-vars c = IfOk-weaker c.union.result _ _
    (λ r h t all here rest. h t (c.loop-entry.invariant.vars t all here
    (ap (row_vars t) (take_all c.args.row.now c.loop-entry.entry-index c.loop-entry-test.false) ∙ rest)))
    c.union.ensures.vars
