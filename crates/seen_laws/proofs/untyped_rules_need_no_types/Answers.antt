use Rattle.seen_laws.proofs.ItemLemmas.{graph_same, item_same, file_same}
use Rattle.seen_laws.proofs.untyped_rules_need_no_types.Goals as goal

pub returns : goal.returns
returns c = record {
  graphs = λ number rule item g types env none. graph_same number rule none g types item env;
  items = λ number rule items i env none. item_same number rule none items i env;
  files = λ number rule items env none. file_same number rule none items env;
}
