use Rattle.std.proofs.Common.{◌≡◌, ◌-◌, ◌+◌}
use Rattle.std.specs.List.{list_any, range_with_len}
use Rattle.edit_unparse.specs.Tidy.Text.{changes}
use Rattle.edit_unparse.specs.Tidy.Plans.{placement_in}
use Rattle.edit_unparse.proofs.tidy.commas.changes_between.Given as goal

abbrev pub invariant-loop-token : goal.invariant-loop-token
invariant-loop-token l = list_any (changes (placement_in l.edits l.plan)) (range_with_len l.token (l.last + 1 - l.token))
    ≡ list_any (changes (placement_in l.edits l.plan)) (range_with_len l.first (l.last + 1 - l.first))
