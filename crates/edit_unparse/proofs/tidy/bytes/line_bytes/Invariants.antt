use Rattle.std.proofs.Common.{◌≡◌, ◌≤◌, ◌++◌, drop}
use Rattle.edit_unparse.specs.Tidy.Text.{line_bytes}
use Rattle.edit_unparse.specs.Tidy.Plans.{placement_in}
use Rattle.edit_unparse.proofs.tidy.bytes.line_bytes.Given as goal

abbrev pub invariant-loop-i : goal.invariant-loop-i
invariant-loop-i l = record {
  token : l.token ≤ l.i;
  lines : l.lines.items ++ line_bytes (placement_in l.edits l.plan) l.token (drop l.i l.lexed) ≡ line_bytes (placement_in l.edits l.plan) 0 l.lexed;
}
