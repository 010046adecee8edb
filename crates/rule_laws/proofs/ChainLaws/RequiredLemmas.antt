-- The properties of each rule imply what is known of a rule that is run.
use Rattle.std.proofs.Common.{sym, subst, List, [], ◌∷◌}
use Rattle.std.specs.Prelude.{All}
use Rattle.std.specs.List.{AllZip}
use Rattle.std.proofs.lemmas.List.Elements.{All-head, All-tail}
use Rattle.smpl_patch.specs.declared.rule.Rule.{Rule}
use Rattle.rule_envs.specs.declared.rule_formulas.prepared.PreparedRule.{PreparedRule}
use Rattle.rule_envs.specs.RuleFormulas.Prepared.{IsPrepared}
use Rattle.rule_laws.specs.Ready.{IsReady}
use Rattle.rule_laws.proofs.ReadyLemmas.{made-stands, made-binds}
use Rattle.rule_chain.specs.RuleMatches.Matching.{AreApart}
use Rattle.rule_chain.specs.Required.{MayRun}

one-may : (r : Rule) (p : PreparedRule) → IsReady r → IsPrepared r p → MayRun r p
one-may r p may is = record {
  stand = made-stands r p.formula may is.formula;
  binds = made-binds r p.formula may is.formula;
  apart = subst (AreApart r.exports) (sym is.inherited) may.apart;
  even = may.even;
}

pub all-may : (rs : List Rule) (ps : List PreparedRule) → All IsReady rs → AllZip IsPrepared rs ps → AllZip MayRun rs ps
all-may [] [] may are = tt
all-may [] (p ∷ ps) may are = absurd are
all-may (r ∷ rs) [] may are = absurd are
all-may (r ∷ rs) (p ∷ ps) may are =
    (one-may r p (All-head IsReady r rs may) are.0, all-may rs ps (All-tail IsReady r rs may) are.1)
