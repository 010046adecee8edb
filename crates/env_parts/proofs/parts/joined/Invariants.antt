use Rattle.std.proofs.Common.{◌≡◌, drop}
use Rattle.env_parts.specs.Parts as of
use Rattle.env_parts.proofs.parts.joined.Given as goal

abbrev pub invariant-loop-p : goal.invariant-loop-p
invariant-loop-p l = of.joined l.whole (drop l.p-index l.p-items) ≡ of.joined l.env l.more
