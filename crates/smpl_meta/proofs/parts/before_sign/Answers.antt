use Rattle.std.proofs.Common.{◌-◌, length, ap, ◌∙◌, sym, Some, None, take, Bool, if◌then◌else◌, arith}
use Rattle.smpl_meta.proofs.SplitLemmas.{before_last}
use Rattle.smpl_meta.proofs.parts.before_sign.Goals as goal

pub returns-then-is_sign : goal.returns-then-is_sign
returns-then-is_sign c =
    before_last c.args.text.now c.last-item.result c.args.tokens.now (length c.args.tokens.now - 1) (omega (arith, c.in-len1-up.len_at_least)) c.last-item.is
    ∙ ap (λ (b : Bool). if b then Some (take (length c.args.tokens.now - 1) c.args.tokens.now) else None) (sym c.is_sign.ensures.value ∙ c.if-is_sign.true)

pub returns-else-is_sign : goal.returns-else-is_sign
returns-else-is_sign c =
    before_last c.args.text.now c.last-item.result c.args.tokens.now (length c.args.tokens.now - 1) (omega (arith, c.in-len1-up.len_at_least)) c.last-item.is
    ∙ ap (λ (b : Bool). if b then Some (take (length c.args.tokens.now - 1) c.args.tokens.now) else None) (sym c.is_sign.ensures.value ∙ c.if-is_sign.false)
