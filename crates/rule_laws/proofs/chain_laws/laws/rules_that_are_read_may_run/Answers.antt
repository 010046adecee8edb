use Rattle.rule_laws.proofs.ChainLaws.RequiredLemmas.{all-may}
use Rattle.rule_laws.proofs.chain_laws.laws.rules_that_are_read_may_run.Goals as goal

pub returns : goal.returns
returns c = record {
  may = λ bytes patch prepared of are. all-may patch.rules prepared (c.rules_may_run.ensures.rules bytes patch of) are;
}
