use Rattle.std.proofs.Common.{◌≡◌, drop, length, min}
use Rattle.env_parts.specs.Parts as of
use Rattle.env_parts.proofs.order.pairs_order.Given as goal

abbrev pub invariant-loop-i : goal.invariant-loop-i
invariant-loop-i l = record {
  least : l.shorter ≡ min (length l.a) (length l.b);
  rest : of.env_order (drop l.i l.a) (drop l.i l.b) ≡ of.env_order l.a l.b;
}
