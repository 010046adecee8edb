use Rattle.std.proofs.Common.{◌≡◌}
use Rattle.std.specs.Prelude.{slice_range}
use Rattle.rule_chain.specs.RuleRun.Notes.{first_loaded, item_token}
use Rattle.rule_chain.proofs.notes.item_token.Given as goal

abbrev pub invariant-loop-place : goal.invariant-loop-place
invariant-loop-place l =
    first_loaded l.loaded l.file.pieces (slice_range l.shown l.place l.fn.span.last) ≡ item_token l.loaded l.file l.fn.span
