use Rattle.std.proofs.Common.{◌≡◌, ◌++◌, drop}
use Rattle.std.specs.List.{flat_map}
use Rattle.wit_print.specs.Report.{tree_lines}
use Rattle.wit_print.proofs.forest.+put_tree.Given as goal

abbrev pub invariant-loop-below : goal.invariant-loop-below
invariant-loop-below l = record {
  blanks : l.blanks.items ≡ l.initial.blanks.items;
  lines : l.report ++ flat_map (λ t. tree_lines t l.initial.blanks.items) (drop l.below-index l.below-items)
      ≡ l.initial.report ++ flat_map (λ t. tree_lines t l.initial.blanks.items) l.below-items;
}
