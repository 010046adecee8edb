-- What is required of a rule that is run.
use Rattle.smpl_patch.specs.declared.rule.Rule.{Rule}
use Rattle.ctl_formula.specs.Formulas.{plain}
use Rattle.ctl_fixpoint.specs.CtlHolds.Parts.{EachPattern}
use Rattle.ctl_fixpoint.specs.CtlHolds.BoundLaw.{SureStand}
use Rattle.edit_marks.specs.Edits.{HaveEvenBlocks}
use Rattle.rule_envs.specs.declared.rule_formulas.prepared.PreparedRule.{PreparedRule}
use Rattle.rule_chain.specs.RuleWitnesses.Jobs.{BindsExports}
use Rattle.rule_chain.specs.RuleMatches.Matching.{AreApart}

-- The sure variables of its patterns occur in them, its formula binds what it exports, each exported variable occurs once and
-- none is inherited, and each line of its plus code has as many gaps as tokens.
pub record MayRun (rule : Rule) (p : PreparedRule) : Type 0 where
  pub stand : EachPattern (SureStand p.formula.decls p.formula.tokens) (plain p.formula)
  pub binds : BindsExports p.formula rule.exports
  pub apart : AreApart rule.exports p.inherited
  pub even : HaveEvenBlocks rule.tokens
