-- Properties of the patterns of a rule's formula.
use Rattle.std.specs.Prelude.{All, Contains}
use Rattle.std.specs.List.{AllByRecursion}
use Rattle.std.proofs.lemmas.List.Elements.{All-contains_itself, recursion_from_All}
use Rattle.smpl_patch.specs.declared.pattern.Pattern.{Pattern}
use Rattle.smpl_patch.specs.declared.rule.Rule.{Rule}
use Rattle.smpl_patch.specs.Bodies.{body}
use Rattle.smpl_patch.specs.Shapes.{patterns_body}
use Rattle.ctl_fixpoint.specs.CtlHolds.Parts.{EachPattern}
use Rattle.ctl_fixpoint.specs.CtlHolds.BoundLaw.{SureStand}
use Rattle.ctl_translate.specs.Rules.{reading, ranges_over_all, locals, formula_of}
use Rattle.rule_laws.proofs.FormulaLemmas.{has-formula}

-- what is so of each pattern of a rule's body is so of each pattern of its formula
pub rule-has : (P : Pattern → Type 0) (r : Rule) → AllByRecursion P (patterns_body (body r.body)) → EachPattern P (formula_of r)
rule-has P r h = has-formula P (reading r) (ranges_over_all r.mode) (locals r) (body r.body) h

pub rule-patterns : (r : Rule) → EachPattern (Contains (patterns_body (body r.body))) (formula_of r)
rule-patterns r =
    let ps = patterns_body (body r.body) in
    rule-has (Contains ps) r (recursion_from_All (Contains ps) ps (All-contains_itself ps))

pub rule-stands : (r : Rule) → All (SureStand r.vars r.tokens) (patterns_body (body r.body)) → EachPattern (SureStand r.vars r.tokens) (formula_of r)
rule-stands r h =
    rule-has (SureStand r.vars r.tokens) r (recursion_from_All (SureStand r.vars r.tokens) (patterns_body (body r.body)) h)
