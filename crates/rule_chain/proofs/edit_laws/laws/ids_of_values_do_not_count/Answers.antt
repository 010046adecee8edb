use Rattle.rule_chain.proofs.EditLaws.BareEdits.{edits_without, edits_with}
use Rattle.rule_chain.proofs.EditLaws.BareTidyEdits.{tidy_edits_without, tidy_edits_with}
use Rattle.rule_chain.proofs.edit_laws.laws.ids_of_values_do_not_count.Goals as goal

pub returns : goal.returns
returns c = record {
  plain = λ witnesses rule items nodes pieces edits.
      (edits_without rule items nodes pieces witnesses edits, edits_with rule items nodes pieces witnesses edits);
  tidied = λ witnesses rule items nodes pieces made.
      (tidy_edits_without rule items nodes pieces witnesses made, tidy_edits_with rule items nodes pieces witnesses made);
}
