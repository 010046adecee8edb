use Rattle.std.proofs.Common.{◌+◌, ◌*◌, drop, length}
use Rattle.std.specs.Prelude.{IsTrue}
use Rattle.c_rows.specs.Choice.{row_fine, weight}
use Rattle.c_expr.specs.Recognizers.{AreRight, Moves}
use Rattle.c_expr.proofs.RecognizerLemmas.{Grew}
use Rattle.c_expr.proofs.recognizer.+recognizer.Given as goal

abbrev pub decreases-grow : goal.decreases-grow
decreases-grow l = 7 * l.most + 1

abbrev pub decreases-begin : goal.decreases-begin
decreases-begin l = 7 * l.most + 1

abbrev pub decreases-read : goal.decreases-read
decreases-read l = 7 * l.most + 2

abbrev pub decreases-recognizer : goal.decreases-recognizer
decreases-recognizer l = 7 * l.most + 3

abbrev pub decreases-pass_child : goal.decreases-pass_child
decreases-pass_child l = 7 * l.most + 4

abbrev pub decreases-pass_argument : goal.decreases-pass_argument
decreases-pass_argument l = 7 * l.most + 4

abbrev pub decreases-pass : goal.decreases-pass
decreases-pass l = 7 * l.most + 5

abbrev pub decreases-pass_row : goal.decreases-pass_row
decreases-pass_row l = 7 * l.most + 6

abbrev pub invariant-read-loop-rule : goal.invariant-read-loop-rule
invariant-read-loop-rule l = record {
  grew : Grew l.most l.seen l.kind l.at l.sketch;
  right : AreRight l.from l.seen l.memo.entries.items;
}

abbrev pub decreases-read-loop-rule : goal.decreases-read-loop-rule
decreases-read-loop-rule l = length (drop l.sketch.recognizer.end l.seen)

abbrev pub invariant-pass_row-loop-spot : goal.invariant-pass_row-loop-spot
invariant-pass_row-loop-spot l = record {
  moves : Moves l.most l.seen l.fn.spot.row.now l.fn.spot l.spot;
  fine : IsTrue (row_fine l.spot.row.now);
  right : AreRight l.from l.seen l.memo.entries.items;
}

abbrev pub decreases-pass_row-loop-spot : goal.decreases-pass_row-loop-spot
decreases-pass_row-loop-spot l = 3 * length (drop l.spot.at l.seen) + weight l.spot.row.now
