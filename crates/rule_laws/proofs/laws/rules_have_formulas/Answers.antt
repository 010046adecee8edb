use Rattle.std.proofs.lemmas.List.Elements.{All-from_recursion}
use Rattle.rule_laws.proofs.RightLemmas.{IsRight, rules-right}
use Rattle.rule_laws.proofs.PreparedLemmas.{no-prepare-fault}
use Rattle.rule_laws.proofs.laws.rules_have_formulas.Goals as goal

pub returns : goal.returns
returns c = record {
  right = λ patch e. All-from_recursion IsRight patch.rules (rules-right 0 patch.rules e);
  fault = λ patch f e is. no-prepare-fault patch.rules f (rules-right 0 patch.rules e) is;
}
