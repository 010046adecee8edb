use Rattle.std.proofs.Common.{◌≡◌, List, get_or, sym, ap, ◌∙◌, subst}
use Rattle.smpl_lexer.specs.declared.text.BodyLine.{BodyLine}
use Rattle.smpl_lexer.specs.declared.text.RuleText.{RuleText}
use Rattle.smpl_plus.specs.Anchors.{IsShort}
use Rattle.smpl_plus.proofs.Short.{body-short}
use Rattle.smpl_plus.proofs.anchor.Goals as goal

pub anchor_body-requires : goal.anchor_body-requires
anchor_body-requires c =
    let r = c.index-rules-rule.result in
    let is : r ≡ get_or c.args.text.now.rules c.args.rule r
    = c.index-rules-rule.is ∙ ap (λ (rs : List RuleText). get_or rs c.args.rule c.index-rules-rule.result) c.as_slice-rules.ensures in
    subst (λ (body : List BodyLine). IsShort body) (sym c.as_slice-2.ensures) (body-short c.args.text.now c.args.rule r c.requires.small c.requires.within is)
