use Rattle.env_sets.specs.Sets.{set_vars}
use Rattle.pat_match.proofs.VarLemmas.{all_at}
use Rattle.pat_match.proofs.rows.set_at.Goals as goal

pub returns-clause-vars : goal.returns-clause-vars
returns-clause-vars c = λ t all. all_at (set_vars t) c.args.sets.now c.args.n _ c.requires c.index-sets-n.is all
