-- What is known of a rule that is ready to run.
use Rattle.std.specs.Prelude.{◌≡◌, true}
use Rattle.std.specs.List.{list_all}
use Rattle.smpl_patch.specs.declared.rule.Rule.{Rule}
use Rattle.smpl_patch.specs.Patterns.{sure}
use Rattle.ctl_formula.specs.Bounds.{bound}
use Rattle.ctl_translate.specs.Rules.{formula_of}
use Rattle.ctl_fixpoint.specs.CtlHolds.Parts.{EachPattern}
use Rattle.ctl_fixpoint.specs.CtlHolds.BoundLaw.{SureStand}
use Rattle.edit_marks.specs.Edits.{HaveEvenBlocks}
use Rattle.rule_envs.specs.Inherited.{inherited_of}
use Rattle.rule_chain.specs.RuleMatches.Matching.{AreApart}

pub record IsReady (rule : Rule) : Type 0 where
  -- each pattern of its formula contains its sure variables
  pub stand : EachPattern (SureStand rule.vars rule.tokens) (formula_of rule)
  -- the formula binds each exported variable
  pub binds : list_all (bound (sure rule.vars rule.tokens) (formula_of rule)) rule.exports ≡ true
  -- each exported variable occurs once, and none is inherited
  pub apart : AreApart rule.exports (inherited_of rule)
  -- each line of plus code has as many gaps as tokens
  pub even : HaveEvenBlocks rule.tokens
