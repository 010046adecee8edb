use Rattle.std.proofs.Common.{sym}
use Rattle.std.proofs.lemmas.List.Sorted.{list_any-IsPermutation}
use Rattle.env_sets.specs.Sets.{entry_denotes, entry_vars}
use Rattle.env_sets.proofs.LoopLemmas.{list_all-IsPermutation}
use Rattle.env_sets.proofs.sets.in_order.Goals as goal

pub returns-clause-meaning : goal.returns-clause-meaning
returns-clause-meaning c = λ env.
    sym (list_any-IsPermutation (λ e. entry_denotes e env) c.args.entries.items c.sort_unstable_by.new.self.items c.sort_unstable_by.ensures.permutation)

pub returns-clause-vars : goal.returns-clause-vars
returns-clause-vars c = λ t.
    sym (list_all-IsPermutation (λ e. entry_vars t e) c.args.entries.items c.sort_unstable_by.new.self.items c.sort_unstable_by.ensures.permutation)
