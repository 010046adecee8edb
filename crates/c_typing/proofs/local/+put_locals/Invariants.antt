use Rattle.std.proofs.Common.{◌≡◌, ◌++◌}
use Rattle.c_terms.specs.Trees.{levels}
use Rattle.c_typing.specs.Locals.{locals_under}
use Rattle.c_typing.proofs.PartLemmas.{before}
use Rattle.c_typing.proofs.LocalLemmas.{locals_from}
use Rattle.c_typing.proofs.local.+put_locals.Given as goal

abbrev pub invariant-loop-i : goal.invariant-loop-i
invariant-loop-i l = record {
  locals : l.locals ≡ l.initial.locals ++ before l.label l.child-items l.i;
  found : l.found ++ locals_from l.initial.locals l.label l.child-items l.i ≡ l.initial.found ++ locals_under l.initial.locals l.tree;
}

abbrev pub decreases-put_locals : goal.decreases-put_locals
decreases-put_locals l = levels l.tree.now
