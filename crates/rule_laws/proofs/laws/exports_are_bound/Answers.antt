use Rattle.std.proofs.lemmas.List.Elements.{All-from_recursion}
use Rattle.rule_laws.proofs.RightLemmas.{rules-right}
use Rattle.rule_laws.proofs.BindLemmas.{Binds, patch-binds}
use Rattle.rule_laws.proofs.laws.exports_are_bound.Goals as goal

pub returns : goal.returns
returns c = record {
  bound = λ patch s e.
      All-from_recursion Binds patch.rules
      (patch-binds c.exported_variables_are_bound.ensures.bound patch s (rules-right 0 patch.rules e));
}
