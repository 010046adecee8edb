use Rattle.std.proofs.Common.{◌≡◌, ◌++◌, drop}
use Rattle.edit_unparse.specs.Tidy.Found.{all_inserts}
use Rattle.edit_unparse.proofs.Cursor.{Ahead}
use Rattle.edit_unparse.proofs.tidy.places.found_inserts.Given as goal

abbrev pub invariant-loop-token : goal.invariant-loop-token
invariant-loop-token l = record {
  acts : Ahead l.edits l.marks l.at l.token;
  found : l.found.items ++ all_inserts l.edits l.removed l.depths l.token l.start (drop l.token l.joined) ≡ all_inserts l.edits l.removed l.depths 0 0 l.joined;
}
