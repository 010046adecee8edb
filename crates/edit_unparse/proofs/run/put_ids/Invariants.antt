use Rattle.std.proofs.Common.{◌≡◌, ◌≤◌, ◌-◌, ◌++◌, length}
use Rattle.c_lexer.specs.Pieces.{most_bytes}
use Rattle.c_lexer.specs.Ids.{ids_of}
use Rattle.edit_unparse.specs.Runs.{run_of, Passes, SameButIds}
use Rattle.edit_unparse.proofs.run.put_ids.Given as goal

abbrev pub invariant-loop-piece : goal.invariant-loop-piece
invariant-loop-piece l = record {
  passes : Passes l.lexed l.fn.from l.stop l.piece l.token;
  ids : l.draft.ids.items ≡ l.initial.draft.ids.items ++ ids_of (run_of l.lexed l.fn.from.piece l.piece);
  same : SameButIds l.initial.draft l.draft;
  all : l.count ≡ length l.lexed;
  few : l.count ≤ most_bytes;
}

abbrev pub decreases-loop-piece : goal.decreases-loop-piece
decreases-loop-piece l = length l.lexed - l.piece
