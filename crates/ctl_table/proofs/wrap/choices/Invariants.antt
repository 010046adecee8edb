use Rattle.ctl_table.proofs.ChoiceLemmas.{IsChosen}
use Rattle.ctl_table.proofs.wrap.choices.Given as goal

abbrev pub invariant-loop-i : goal.invariant-loop-i
invariant-loop-i l = IsChosen l.initial.parts l.parts l.with l.alone l.made.items l.earlier.items l.i
