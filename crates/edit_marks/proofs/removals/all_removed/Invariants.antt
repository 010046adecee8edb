use Rattle.std.proofs.Common.{◌≡◌, ◌++◌, drop}
use Rattle.edit_marks.specs.Removals.{minus_tokens}
use Rattle.edit_marks.proofs.removals.all_removed.Given as goal

abbrev pub invariant-loop-pair : goal.invariant-loop-pair
invariant-loop-pair l = l.removed.items ++ minus_tokens l.tokens (drop l.pair-index l.pairs) ≡ minus_tokens l.tokens l.pairs
