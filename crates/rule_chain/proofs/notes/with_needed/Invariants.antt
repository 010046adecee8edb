use Rattle.std.proofs.Common.{◌≡◌, ◌++◌, drop}
use Rattle.rule_chain.specs.RuleRun.Needed.{notes_where}
use Rattle.rule_chain.specs.RuleWords.{holds_some, kept_on}
use Rattle.rule_chain.proofs.notes.with_needed.Given as goal

abbrev pub invariant-loop-at : goal.invariant-loop-at
invariant-loop-at l =
    l.skipped ++ notes_where (holds_some l.words l.ran l.reading.file.now) l.reading.loaded l.reading.number l.reading.file.now l.at (drop l.at l.items)
    ≡ l.initial.skipped ++ kept_on l.words l.ran l.reading.loaded l.reading.number l.reading.file.now
