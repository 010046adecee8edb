use Rattle.rule_laws.proofs.IsoFormulas.AnswerLemmas.{stands-same, sure-same}
use Rattle.rule_laws.proofs.IsoFormulas.RuleLemmas.{rule-formula, rule-bound}
use Rattle.rule_laws.proofs.iso_formulas.laws.formulas_keep_their_shape.Goals as goal

pub returns : goal.returns
returns c =
    let first = c.rules_keep_their_shape.ensures.first in
    record {
      formula = λ isos r s is. rule-formula first isos r s is;
      stands = λ isos words tokens decls p x. stands-same first isos words decls tokens p x;
      sure = λ isos words tokens decls p x. sure-same first isos words decls tokens p x;
      bound = λ isos r s x is. rule-bound first isos r s is x;
    }
