use Rattle.rule_envs.proofs.BareLemmas.{projections-bare, exported-bare}
use Rattle.rule_envs.proofs.laws.ids_do_not_count.Goals as goal

pub returns : goal.returns
returns c = record { projections = projections-bare; exported = exported-bare }
