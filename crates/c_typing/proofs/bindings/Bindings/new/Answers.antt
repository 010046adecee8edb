use Rattle.c_typing.proofs.EntryLemmas.{linked-none}
use Rattle.c_typing.proofs.bindings.Bindings.new.Goals as goal

pub invariant_of-result : goal.invariant_of-result
invariant_of-result c = rw (c.new.ensures, c.new-2.ensures.items) linked-none
