use Rattle.rule_laws.proofs.IsoFormulas.RuleLemmas.{rules-same}
use Rattle.rule_laws.proofs.iso_formulas.laws.accepted_patches_stay_accepted.Goals as goal

pub returns : goal.returns
returns c = record { fault = λ isos p q is. rules-same c.rules_keep_their_shape.ensures.first isos 0 p.rules q.rules is.rules }
