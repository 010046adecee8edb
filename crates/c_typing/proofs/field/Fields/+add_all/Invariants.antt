use Rattle.std.proofs.Common.{◌≡◌, length, take}
use Rattle.c_terms.specs.Trees.{levels}
use Rattle.c_typing.specs.Fields.{with_fields}
use Rattle.c_typing.proofs.FieldLemmas.{inner_from}
use Rattle.c_typing.proofs.field.Fields.+add_all.Given as goal

abbrev pub invariant-loop-i : goal.invariant-loop-i
invariant-loop-i l = record {
  done : with_fields l.self (inner_from l.label l.child-items l.i) ≡ with_fields l.initial.self (inner_from l.label l.child-items 0);
  kept : take (length l.initial.self) l.self ≡ l.initial.self;
}

abbrev pub decreases-add_all : goal.decreases-add_all
decreases-add_all l = levels l.tree.now
