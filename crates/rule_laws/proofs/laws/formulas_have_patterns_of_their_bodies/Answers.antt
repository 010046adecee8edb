use Rattle.rule_laws.proofs.RuleLemmas.{rule-patterns, rule-stands}
use Rattle.rule_laws.proofs.laws.formulas_have_patterns_of_their_bodies.Goals as goal

pub returns : goal.returns
returns c = record { patterns = rule-patterns; stand = rule-stands }
