use Rattle.ctl_translate.proofs.CtlBound.BitLemmas.{is_bit-zero, is_bit-ones}
use Rattle.ctl_translate.proofs.ctl_bound.masks.always.Goals as goal

pub returns : goal.returns
returns c = λ k h i. record { holding = is_bit-zero k i; failing = is_bit-ones k h i; guarded = is_bit-ones k h i }
