use Rattle.std.proofs.Common.{◌<◌, ◌≤◌, drop}
use Rattle.c_rows.specs.Depth.{opens_of, opens_from}
use Rattle.c_expr.proofs.depth.is_too_deep.Given as goal

abbrev pub invariant-loop-token : goal.invariant-loop-token
invariant-loop-token l = record {
  small : l.depth ≤ 200;
  below : 200 < opens_of l.tokens → 200 < opens_from l.depth (drop l.token-index l.tokens);
  above : 200 < opens_from l.depth (drop l.token-index l.tokens) → 200 < opens_of l.tokens;
}
