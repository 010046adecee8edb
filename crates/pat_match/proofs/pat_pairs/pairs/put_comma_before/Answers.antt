use Rattle.std.proofs.Common.{arith, ap, sym, ◌∙◌, ◌-◌, ◌++◌, append-nil}
use Rattle.std.proofs.lemmas.Result.{IfOk-weaker}
use Rattle.std.specs.Option.{option_copied}
use Rattle.pat_match.specs.Runs.{comma_pairs}
use Rattle.pat_match.specs.PatPairs.Pairs.{numbers}
use Rattle.pat_match.proofs.CountLemmas.{comma_before_at}
use Rattle.pat_match.proofs.pat_pairs.pairs.put_comma_before.Goals as goal

pub returns-in-Some : goal.returns-in-Some
returns-in-Some c =
    let here = comma_before_at c.args.forms.now c.args.i (c.args.i - 1) c.index-forms-i.result (omega (arith, c.if-i-eq0.false))
    (omega (arith, c.if-i-eq0.false)) c.index-forms-i.is in
    IfOk-weaker c.put_comma.result _ _
    (λ r h. h ∙ ap (λ o. c.args.found.now.items ++ numbers (comma_pairs o c.args.run.now))
    (ap option_copied (sym c.in-Some.is) ∙ c.comma.ensures.value ∙ sym here))
    c.put_comma.ensures

pub returns-in-None : goal.returns-in-None
returns-in-None c =
    let here = comma_before_at c.args.forms.now c.args.i (c.args.i - 1) c.index-forms-i.result (omega (arith, c.if-i-eq0.false))
    (omega (arith, c.if-i-eq0.false)) c.index-forms-i.is in
    sym (append-nil c.args.found.now.items)
    ∙ ap (λ o. c.args.found.now.items ++ numbers (comma_pairs o c.args.run.now)) (ap option_copied (sym c.in-None.is) ∙ c.comma.ensures.value ∙ sym here)
