use Rattle.std.proofs.Common.{◌≡◌, ◌++◌, drop, map}
use Rattle.c_terms.specs.Places.{parts, parts_from}
use Rattle.c_terms.specs.Trees.{levels}
use Rattle.c_terms.specs.Shapes.{is_expression_part}
use Rattle.c_terms.proofs.PlaceLaws.{child_known}
use Rattle.c_terms.proofs.PathLemmas.{paths_at}
use Rattle.c_terms.proofs.place.+put_paths.Given as goal

abbrev pub invariant-loop-i : goal.invariant-loop-i
invariant-loop-i l = record {
  back : l.above.items ≡ l.initial.above.items;
  done : l.found ++ paths_at l.initial.above.items (parts_from is_expression_part l.label l.i (map (child_known is_expression_part) (drop l.i l.child-items)))
      ≡ l.initial.found ++ paths_at l.initial.above.items (parts is_expression_part l.tree);
}

abbrev pub decreases-put_paths : goal.decreases-put_paths
decreases-put_paths l = levels l.tree.now
