use Rattle.std.proofs.Common.{◌∙◌, ap, ◌&&◌, ◌||◌, Bool, w64}
use Rattle.std.specs.Prelude.{bit_or}
use Rattle.std.specs.Int.{bit_not}
use Rattle.ctl_translate.specs.CtlBound.Bits.{is_bit}
use Rattle.ctl_translate.proofs.CtlBound.BitLemmas.{is_bit-and, is_bit-or, is_bit-not}
use Rattle.ctl_translate.proofs.ctl_bound.masks.exists.Goals as goal

pub returns : goal.returns
returns c = λ k h.
    let f = c.args.f in let own = c.args.own in
    let others = is_bit-not own k c.ranges.own.fits h in
    let holding = is_bit-and f.holding (bit_not w64 own) k ∙ ap (λ (z : Bool). is_bit f.holding k && z) others in
    let failing = is_bit-and f.failing (bit_not w64 own) k ∙ ap (λ (z : Bool). is_bit f.failing k && z) others in
    let guarded = is_bit-and (bit_or (bit_not w64 own) f.holding) f.guarded k
    ∙ ap (λ (z : Bool). z && is_bit f.guarded k) (is_bit-or (bit_not w64 own) f.holding k
    ∙ ap (λ (z : Bool). z || is_bit f.holding k) others) in
    λ i. record { holding = holding i; failing = failing i; guarded = guarded i }
