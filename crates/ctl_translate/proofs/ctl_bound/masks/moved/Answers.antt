use Rattle.ctl_translate.specs.CtlBound.Bits.{is_bit}
use Rattle.ctl_translate.proofs.CtlBound.BitLemmas.{is_bit-zero}
use Rattle.ctl_translate.proofs.ctl_bound.masks.moved.Goals as goal

pub returns : goal.returns
returns c = λ k i. record {
  holding = is_bit c.args.f.holding k;
  failing = is_bit-zero k i;
  guarded = is_bit c.args.f.guarded k;
}
