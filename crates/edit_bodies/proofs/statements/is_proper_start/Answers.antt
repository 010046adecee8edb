use Rattle.std.proofs.Common.{◌∙◌}
use Rattle.edit_bodies.proofs.SceneLemmas.{shorter, starts}
use Rattle.edit_bodies.proofs.statements.is_proper_start.Goals as goal

pub returns-then-path-other : goal.returns-then-path-other
returns-then-path-other c = c.eq.ensures ∙ starts c.args.path.now c.args.other.now c.if-path-other.true

pub returns-else-path-other : goal.returns-else-path-other
returns-else-path-other c = shorter c.args.path.now c.args.other.now c.if-path-other.false
