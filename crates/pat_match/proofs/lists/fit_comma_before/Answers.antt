use Rattle.std.proofs.Common.{arith, ap, sym, ◌∙◌, ◌-◌}
use Rattle.std.proofs.lemmas.Result.{IfOk-weaker}
use Rattle.std.specs.Option.{option_copied}
use Rattle.pat_match.specs.Runs.{comma_fits}
use Rattle.pat_match.proofs.CountLemmas.{comma_before_at}
use Rattle.pat_match.proofs.VarLemmas.{comma-at}
use Rattle.pat_match.proofs.lists.fit_comma_before.Goals as goal

pub returns-in-Some-clause-meaning : goal.returns-in-Some-clause-meaning
returns-in-Some-clause-meaning c =
    let here = comma_before_at c.args.forms.now c.args.i (c.args.i - 1) c.index-forms-i.result (omega (arith, c.if-i-eq0.false))
    (omega (arith, c.if-i-eq0.false)) c.index-forms-i.is in
    IfOk-weaker c.fit_comma.result _ _
    (λ r h env. h env ∙ ap (λ o. comma_fits c.args.context.now.decls.now c.args.context.now.tokens.now env o c.args.run.now)
    (ap option_copied (sym c.in-Some.is) ∙ c.comma.ensures.value ∙ sym here))
    c.fit_comma.ensures.meaning

pub returns-in-Some-clause-vars : goal.returns-in-Some-clause-vars
returns-in-Some-clause-vars c =
    IfOk-weaker c.fit_comma.result _ _
    (λ r h t all. h t (comma-at c.args.context.now.decls.now c.args.context.now.tokens.now t c.args.forms.now (c.args.i - 1) c.index-forms-i.result _
    (omega (arith, c.if-i-eq0.false)) c.index-forms-i.is
    (ap option_copied (sym c.in-Some.is) ∙ c.comma.ensures.value) all))
    c.fit_comma.ensures.vars

pub returns-in-None-clause-meaning : goal.returns-in-None-clause-meaning
returns-in-None-clause-meaning c =
    let here = comma_before_at c.args.forms.now c.args.i (c.args.i - 1) c.index-forms-i.result (omega (arith, c.if-i-eq0.false))
    (omega (arith, c.if-i-eq0.false)) c.index-forms-i.is in
    IfOk-weaker c.all-in-None.result _ _
    (λ r h env. h env ∙ ap (λ o. comma_fits c.args.context.now.decls.now c.args.context.now.tokens.now env o c.args.run.now)
    (ap option_copied (sym c.in-None.is) ∙ c.comma.ensures.value ∙ sym here))
    c.all-in-None.ensures.meaning
