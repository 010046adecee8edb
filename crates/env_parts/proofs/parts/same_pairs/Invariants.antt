use Rattle.std.proofs.Common.{◌≡◌, drop, length}
use Rattle.env_parts.specs.Parts as of
use Rattle.env_parts.proofs.parts.same_pairs.Given as goal

abbrev pub invariant-loop-i : goal.invariant-loop-i
invariant-loop-i l = record {
  long : length l.a ≡ length l.b;
  rest : of.same_env (drop l.i l.a) (drop l.i l.b) ≡ of.same_env l.a l.b;
}
