use Rattle.std.proofs.Common.{◌≡◌, ◌++◌, ◌∷◌, [], drop}
use Rattle.std.specs.List.{flat_map}
use Rattle.wit_print.specs.Report.{tree_lines}
use Rattle.wit_print.proofs.rules.put_forest.Given as goal

abbrev pub invariant-loop-tree : goal.invariant-loop-tree
invariant-loop-tree l = record {
  blanks : l.blanks.items ≡ 32 ∷ [];
  lines : l.report ++ flat_map (λ t. tree_lines t (32 ∷ [])) (drop l.tree-index l.forest)
      ≡ l.initial.report ++ flat_map (λ t. tree_lines t (32 ∷ [])) l.forest;
}
