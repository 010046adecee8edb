use Rattle.seen_laws.proofs.Examples.{not_for_all}
use Rattle.seen_laws.proofs.WantLemmas.{wanted_same}
use Rattle.seen_laws.proofs.MatchLemmas.{matches_same, aligns_same}
use Rattle.seen_laws.proofs.untyped_variables_need_no_types.Goals as goal

pub returns : goal.returns
returns c = record {
  wants = wanted_same;
  needed = not_for_all;
  matches = λ types also decls tokens env p n none. matches_same types also decls none tokens env p n;
  aligns = λ types also decls tokens env p n none. aligns_same types also decls none tokens env p n;
}
