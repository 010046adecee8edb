use Rattle.std.proofs.Common.{◌≡◌, drop}
use Rattle.c_rows.specs.Choice.{head, pick_head}
use Rattle.c_rows.proofs.choice.head.Given as goal

abbrev pub invariant-loop-rule : goal.invariant-loop-rule
invariant-loop-rule l = pick_head (drop l.rule-index l.rule-items) l.class ≡ head l.fn.family l.class
