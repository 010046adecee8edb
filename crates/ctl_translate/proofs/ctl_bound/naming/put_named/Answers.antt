use Rattle.std.proofs.Common.{◌∙◌, ap, get_or, length, arith, rules}
use Rattle.std.proofs.lemmas.List.{get_or-replicate}
use Rattle.ctl_translate.specs.CtlBound.Bits.{is_bit}
use Rattle.ctl_translate.proofs.CtlBound.BitLemmas.{is_bit-zero}
use Rattle.ctl_translate.proofs.ctl_bound.naming.put_named.Goals as goal

pub loop-mark-init : goal.loop-mark-init
loop-mark-init c = (
  search rules,
  λ i k l h.
      ap (λ z. is_bit (get_or z i 0) k) (c.fill.ensures.after (λ y same. same))
      ∙ ap (λ z. is_bit z k) (get_or-replicate (length c.args.named.now) i 0 0 (omega (arith, l, c.fill.ensures.len))) ∙ is_bit-zero k,
)
