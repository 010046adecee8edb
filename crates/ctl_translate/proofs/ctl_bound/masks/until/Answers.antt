use Rattle.ctl_translate.specs.CtlBound.Bits.{is_bit}
use Rattle.ctl_translate.proofs.CtlBound.BitLemmas.{is_bit-and}
use Rattle.ctl_translate.proofs.ctl_bound.masks.until.Goals as goal

pub returns : goal.returns
returns c = λ k i. record {
  holding = is_bit c.args.g.holding k;
  failing = is_bit c.args.g.failing k;
  guarded = is_bit-and c.args.f.guarded c.args.g.guarded k i;
}
