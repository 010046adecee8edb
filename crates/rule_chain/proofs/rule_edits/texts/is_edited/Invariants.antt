use Rattle.std.proofs.Common.{◌≡◌, drop}
use Rattle.rule_chain.specs.RuleEdits.Pages as of
use Rattle.rule_chain.proofs.rule_edits.texts.is_edited.Given as goal

abbrev pub invariant-loop-edit : goal.invariant-loop-edit
invariant-loop-edit l = of.is_edited (drop l.edit-index l.edits) ≡ of.is_edited l.edits
