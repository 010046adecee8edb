use Rattle.std.proofs.Common.{◌≡◌, length}
use Rattle.c_rows.specs.Tokens.{holds_for_each}
use Rattle.c_rows.proofs.words.holds_for_each.Given as goal

abbrev pub invariant-loop-rest : goal.invariant-loop-rest
invariant-loop-rest l = holds_for_each l.rest ≡ holds_for_each l.fn.text

abbrev pub decreases-loop-rest : goal.decreases-loop-rest
decreases-loop-rest l = length l.rest
