use Rattle.std.proofs.Common.{◌∙◌, ap}
use Rattle.ctl_formula.specs.Plain.{fits}
use Rattle.ctl_formula.specs.Tables.{at, plains}
use Rattle.ctl_translate.proofs.RuleLemmas.{root-guarded, is-formula}
use Rattle.ctl_translate.proofs.rule.formula.Goals as goal

pub of-requires-clause-fits : goal.of-requires-clause-fits
of-requires-clause-fits c = ap fits c.requires.root ∙ c.requires.fits

pub of-requires-clause-guarded : goal.of-requires-clause-guarded
of-requires-clause-guarded c =
    root-guarded c.args.rule.now c.in_ok-decls.decls c.in_ok-tokens.tokens (at (plains c.args.parts) c.args.root)
    (c.in_ok-decls.ensures ∙ c.as_slice.ensures) (c.in_ok-tokens.ensures ∙ c.as_slice-2.ensures) c.requires.root c.requires.bound

pub returns : goal.returns
returns c =
    is-formula c.args.rule.now c.of.result c.args.parts c.args.root c.in_ok-decls.decls c.in_ok-tokens.tokens
    c.of.ensures.nodes c.of.ensures.root c.of.ensures.decls c.of.ensures.tokens
    (c.in_ok-decls.ensures ∙ c.as_slice.ensures) (c.in_ok-tokens.ensures ∙ c.as_slice-2.ensures) c.requires.root c.requires.fits c.requires.bound
