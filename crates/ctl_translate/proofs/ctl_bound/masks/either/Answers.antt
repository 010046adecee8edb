use Rattle.ctl_translate.proofs.CtlBound.BitLemmas.{is_bit-and, is_bit-or}
use Rattle.ctl_translate.proofs.ctl_bound.masks.either.Goals as goal

pub returns : goal.returns
returns c = λ k i. record {
  holding = is_bit-and c.args.f.holding c.args.g.holding k i;
  failing = is_bit-or c.args.f.failing c.args.g.failing k i;
  guarded = is_bit-and c.args.f.guarded c.args.g.guarded k i;
}
