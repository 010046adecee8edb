use Rattle.std.proofs.Common.{sym}
use Rattle.env_parts.proofs.PartLemmas.{same_env-length}
use Rattle.env_parts.proofs.parts.same_pairs.Goals as goal

pub returns-then-a-b : goal.returns-then-a-b
returns-then-a-b c = sym (same_env-length c.args.a.now c.args.b.now c.if-a-b.true)
