use Rattle.std.proofs.Common.{arith, add-one}
use Rattle.cpp_lines.proofs.Rising.{rise_within, rise_next, rise_length}
use Rattle.cpp_lines.proofs.visible.Visible.shown.Goals as goal

pub returns-clause-rising : goal.returns-clause-rising
returns-clause-rising c = rw c.as_slice.ensures.value (λ k less. rw add-one (rise_next 0 _ _ k c.self.invariant.rise (omega (arith, less))))

pub returns-clause-within : goal.returns-clause-within
returns-clause-within c = rw (c.as_slice.ensures.value, ← c.self.view_is) (λ k d less. (rise_within 0 _ _ k d c.self.invariant.rise less).1)

pub returns-clause-at_most : goal.returns-clause-at_most
returns-clause-at_most c = rw c.as_slice.ensures.value (omega (arith, rise_length 0 _ _ c.self.invariant.rise (omega arith), c.self.invariant.short))
