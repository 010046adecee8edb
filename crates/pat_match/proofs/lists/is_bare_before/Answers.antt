use Rattle.std.proofs.Common.{arith, ap, sym, ◌∙◌, ◌-◌}
use Rattle.std.specs.Option.{option_copied}
use Rattle.pat_match.specs.Runs.{is_bare_comma}
use Rattle.pat_match.proofs.CountLemmas.{comma_before_at}
use Rattle.pat_match.proofs.lists.is_bare_before.Goals as goal

pub returns-in-Some : goal.returns-in-Some
returns-in-Some c =
    let here = comma_before_at c.args.forms.now c.args.i (c.args.i - 1) c.index-forms-i.result (omega (arith, c.if-i-eq0.false))
    (omega (arith, c.if-i-eq0.false)) c.index-forms-i.is in
    c.is_bare_token.ensures ∙ ap (is_bare_comma c.args.tokens.now) (ap option_copied (sym c.in-Some.is) ∙ c.comma.ensures.value ∙ sym here)

pub returns-in-None : goal.returns-in-None
returns-in-None c =
    let here = comma_before_at c.args.forms.now c.args.i (c.args.i - 1) c.index-forms-i.result (omega (arith, c.if-i-eq0.false))
    (omega (arith, c.if-i-eq0.false)) c.index-forms-i.is in
    ap (is_bare_comma c.args.tokens.now) (ap option_copied (sym c.in-None.is) ∙ c.comma.ensures.value ∙ sym here)
