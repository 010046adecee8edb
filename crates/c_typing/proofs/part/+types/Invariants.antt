use Rattle.std.proofs.Common.{◌≡◌, ◌+◌, ◌*◌, ◌++◌, [], drop}
use Rattle.c_terms.specs.Trees.{levels}
use Rattle.c_typing.specs.Parts.{part_types}
use Rattle.c_typing.proofs.PartLemmas.{before, seen_types, types_from}
use Rattle.c_typing.proofs.part.+types.Given as goal

abbrev pub invariant-put_types-loop-i : goal.invariant-put_types-loop-i
invariant-put_types-loop-i l =
    let names = l.scope.names ++ l.initial.locals in
    record {
      locals : l.locals ≡ l.initial.locals ++ before l.label l.child-items l.i;
      types : l.types.items ++ seen_types names l.scope.fields l.label (before l.label l.child-items l.i) (drop l.i l.child-items)
          ≡ seen_types names l.scope.fields l.label [] l.child-items;
      found : l.found ++ types_from names l.scope.fields l.label l.child-items l.i
          ≡ l.initial.found ++ part_types names l.scope.fields l.tree;
    }

abbrev pub decreases-put_types : goal.decreases-put_types
decreases-put_types l = 2 * levels l.tree.now

abbrev pub decreases-put_child : goal.decreases-put_child
decreases-put_child l = 2 * levels l.child.now + 1
