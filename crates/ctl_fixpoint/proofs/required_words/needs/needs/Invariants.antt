use Rattle.std.proofs.Common.{◌≡◌, take, map}
use Rattle.ctl_formula.specs.Tables.{plains}
use Rattle.ctl_fixpoint.specs.RequiredWords.Words.{needs}
use Rattle.ctl_fixpoint.proofs.required_words.needs.needs.Given as goal

abbrev pub invariant-loop-i : goal.invariant-loop-i
invariant-loop-i l = l.known.items ≡ map (needs l.word) (take l.i (plains l.f.nodes))
