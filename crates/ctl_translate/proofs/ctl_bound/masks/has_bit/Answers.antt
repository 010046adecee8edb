use Rattle.std.proofs.Common.{ap}
use Rattle.std.specs.Prelude.{nat_eq}
use Rattle.std.proofs.lemmas.Nat.Bits.{shr_and_one}
use Rattle.ctl_translate.specs.CtlBound.Bits.{is_bit}
use Rattle.ctl_translate.proofs.ctl_bound.masks.has_bit.Goals as goal

pub returns : goal.returns
unfolding is_bit
returns c = ap (λ z. nat_eq z 1) (shr_and_one c.args.mask c.args.k)
