use Rattle.std.proofs.Common.{◌≡◌, ◌++◌, drop}
use Rattle.rule_chain.specs.RuleRun.Notes.{notes_from, notes_on}
use Rattle.rule_chain.proofs.notes.with_notes.Given as goal

abbrev pub invariant-loop-at : goal.invariant-loop-at
invariant-loop-at l =
    l.skipped ++ notes_from l.loaded l.reading l.file l.at (drop l.at l.items) ≡ l.initial.skipped ++ notes_on l.loaded l.reading l.file
