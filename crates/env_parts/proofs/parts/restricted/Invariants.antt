use Rattle.std.proofs.Common.{◌≡◌, take}
use Rattle.env_parts.specs.Parts as of
use Rattle.env_parts.proofs.parts.restricted.Given as goal

abbrev pub invariant-loop-p : goal.invariant-loop-p
invariant-loop-p l = l.part ≡ of.restricted l.vars (take l.p-index l.pairs)
