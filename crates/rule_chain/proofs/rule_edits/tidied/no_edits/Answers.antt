use Rattle.std.proofs.Common.{◌∙◌, ap}
use Rattle.edit_marks.specs.EditConflict.Once.{once}
use Rattle.rule_chain.proofs.RuleEdits.TidyLemmas.{none_are}
use Rattle.rule_chain.proofs.rule_edits.tidied.no_edits.Goals as goal

pub returns : goal.returns
returns c = record {
  edits = λ found rule items nodes pieces none.
      none_are found rule items nodes pieces _
      (c.in_ok-of.ensures.edits ∙ ap once c.new.ensures.items) c.new-2.ensures.items c.new-3.ensures.items c.new-4.ensures.items
      c.new-5.ensures.items c.new-6.ensures.items none;
  none = c.in_ok-of.ensures.edits ∙ ap once c.new.ensures.items;
}
