use Rattle.std.proofs.Common.{◌≡◌, not, drop}
use Rattle.std.specs.List.{list_any}
use Rattle.rule_chain.specs.RuleEdits.Pages as of
use Rattle.rule_chain.proofs.rule_edits.texts.has_tree.Given as goal

abbrev pub invariant-loop-witness : goal.invariant-loop-witness
invariant-loop-witness l = list_any (λ w. not (of.is_empty w.forest)) (drop l.witness-index l.found) ≡ list_any (λ w. not (of.is_empty w.forest)) l.found
