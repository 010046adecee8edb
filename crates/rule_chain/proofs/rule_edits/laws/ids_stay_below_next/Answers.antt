use Rattle.rule_chain.proofs.RuleEdits.IdLemmas.{page_below, page_rises}
use Rattle.rule_chain.proofs.RuleEdits.TidyIdLemmas.{tidy_page_below, tidy_page_rises}
use Rattle.rule_chain.proofs.rule_edits.laws.ids_stay_below_next.Goals as goal

pub returns : goal.returns
returns c = record { below = page_below; rises = page_rises; tidied_below = tidy_page_below; tidied_rises = tidy_page_rises }
