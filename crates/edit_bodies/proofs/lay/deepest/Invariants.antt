use Rattle.std.proofs.Common.{◌≡◌, ◌<◌, ℕ, get_or, length, take}
use Rattle.edit_bodies.specs.Laid.{depth_of}
use Rattle.edit_bodies.proofs.lay.deepest.Given as goal

abbrev pub invariant-loop-statement : goal.invariant-loop-statement
invariant-loop-statement l = record {
  long : length l.depths.items ≡ l.count;
  each : (n : ℕ) → n < l.count → get_or l.depths.items n 0 ≡ depth_of (take l.statement-index l.statements) n;
}
