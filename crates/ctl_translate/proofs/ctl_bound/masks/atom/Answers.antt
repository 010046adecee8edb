use Rattle.ctl_translate.specs.CtlBound.Bits.{is_bit}
use Rattle.ctl_translate.proofs.CtlBound.BitLemmas.{is_bit-zero, is_bit-ones}
use Rattle.ctl_translate.proofs.ctl_bound.masks.atom.Goals as goal

pub returns : goal.returns
returns c = λ k h i. record { holding = is_bit c.args.own k; failing = is_bit-zero k i; guarded = is_bit-ones k h i }
