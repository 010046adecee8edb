use Rattle.rule_chain.proofs.RuleWitnesses.JobLemmas.{witnesses_bare, nodes-same}
use Rattle.rule_chain.proofs.rule_witnesses.laws.ids_make_no_difference.Goals as goal

pub returns-clause-witnesses : goal.returns-clause-witnesses
returns-clause-witnesses c = witnesses_bare

pub returns-clause-size : goal.returns-clause-size
returns-clause-size c = nodes-same
