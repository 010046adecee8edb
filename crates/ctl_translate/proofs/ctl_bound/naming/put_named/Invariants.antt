use Rattle.std.proofs.Common.{◌≡◌, ℕ, ◌+◌, ◌*◌, ◌<◌, length, take, get_or}
use Rattle.ctl_translate.specs.CtlBound.Bits.{is_bit}
use Rattle.ctl_translate.specs.CtlBound.Naming.{is_marked}
use Rattle.ctl_translate.proofs.ctl_bound.naming.put_named.Given as goal

abbrev pub invariant-loop-mark : goal.invariant-loop-mark
invariant-loop-mark l = (length l.named ≡ length l.initial.named)
    × ((i k : ℕ) → i < length l.initial.named → k < 64
    → is_bit (get_or l.named i 0) k ≡ is_marked (take l.mark-index l.marks) i (64 * l.group + k))
