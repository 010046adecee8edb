use Rattle.std.proofs.Common.{◌≡◌, ◌<◌, ◌≤◌, ℕ, false, List, length}
use Rattle.cpp_lines.specs.declared.reading.Item.{Item}
use Rattle.rule_chain.specs.FileWitnesses.Found.{found_under, is_large_under}
use Rattle.rule_chain.specs.FileWitnesses.Lent.{AreLent}
use Rattle.rule_chain.specs.FileWitnesses.Lists.{env_at, found_at}
use Rattle.rule_chain.proofs.file_witnesses.whole.over_lent.Given as goal

abbrev pub invariant-loop-k : goal.invariant-loop-k
invariant-loop-k g l = record {
  from : 1 ≤ l.k;
  upto : l.k ≤ length l.envs;
  so_far : length l.lists.items ≡ l.k;
  found : (items : List Item) → AreLent l.ready.rule.now items l.graphs → (j : ℕ) → j < length l.lists.items
      → found_at l.lists.items j ≡ found_under l.ready.number l.ready.rule.now items (env_at l.envs j);
  few : (items : List Item) → AreLent l.ready.rule.now items l.graphs → (j : ℕ) → j < length l.lists.items
      → is_large_under l.ready.number l.ready.rule.now items (env_at l.envs j) ≡ false;
}
