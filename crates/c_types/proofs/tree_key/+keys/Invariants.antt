use Rattle.std.proofs.Common.{◌≡◌, ◌+◌, ◌*◌, ◌++◌}
use Rattle.std.specs.Option.{option_or}
use Rattle.c_terms.specs.Trees.{levels}
use Rattle.c_types.specs.TreeKeys.{first_id, level_count, part_keys}
use Rattle.c_types.proofs.KeyLemmas.{first_from, count_from, keys_from}
use Rattle.c_types.proofs.tree_key.+keys.Given as goal

abbrev pub invariant-put_keys-loop-i : goal.invariant-put_keys-loop-i
invariant-put_keys-loop-i l = record {
  first : option_or l.first (first_from l.child-items l.i) ≡ first_id l.tree;
  most : count_from l.most l.child-items l.i ≡ level_count l.tree;
  found : l.found ++ keys_from l.label l.child-items l.i ≡ l.initial.found ++ part_keys l.tree;
}

abbrev pub decreases-put_keys : goal.decreases-put_keys
decreases-put_keys l = 2 * levels l.tree.now

abbrev pub decreases-put_child : goal.decreases-put_child
decreases-put_child l = 2 * levels l.child.now + 1
