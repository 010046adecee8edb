use Rattle.std.proofs.Common.{◌+◌, ◌*◌, length}
use Rattle.c_rows.specs.Choice.{weight}
use Rattle.c_expr.specs.Steps.{Leads, place_of, Sound, HasLevels}
use Rattle.c_expr.proofs.Growing.{Growing}
use Rattle.c_expr.proofs.parse.+parse.Given as goal

abbrev pub decreases-grow : goal.decreases-grow
decreases-grow l = 6 * l.most + 1

abbrev pub decreases-operand : goal.decreases-operand
decreases-operand l = 6 * l.most + 1

abbrev pub decreases-parse : goal.decreases-parse
decreases-parse l = 6 * l.most + 2

abbrev pub decreases-run : goal.decreases-run
decreases-run l = 6 * l.most + 5

abbrev pub decreases-take : goal.decreases-take
decreases-take l = 6 * l.most + 4

abbrev pub decreases-take_child : goal.decreases-take_child
decreases-take_child l = 6 * l.most + 3

abbrev pub invariant-parse-loop-rule : goal.invariant-parse-loop-rule
invariant-parse-loop-rule l = record {
  growing : Growing l.most l.kind l.rest l.grown.root l.grown.tree l.grown.rest.now;
  deep : HasLevels l.grown.tree l.grown.levels l.most;
}

abbrev pub decreases-parse-loop-rule : goal.decreases-parse-loop-rule
decreases-parse-loop-rule l = length l.grown.rest.now

abbrev pub invariant-run-loop-at : goal.invariant-run-loop-at
invariant-run-loop-at l = record {
  led : Leads l.most (place_of l.fn.at) (place_of l.at);
  sound : Sound l.at.row.now l.at;
}

abbrev pub decreases-run-loop-at : goal.decreases-run-loop-at
decreases-run-loop-at l = 3 * length l.at.rest.now + weight l.at.row.now

abbrev pub decreases-take_argument : goal.decreases-take_argument
decreases-take_argument l = 6 * l.most + 3
