use Rattle.std.proofs.Common.{◌≡◌, take}
use Rattle.iso_expand.proofs.iso_forms.choices.copied.Given as goal

abbrev pub invariant-loop-t : goal.invariant-loop-t
invariant-loop-t l = l.copies.items ≡ take l.t-index l.trees
