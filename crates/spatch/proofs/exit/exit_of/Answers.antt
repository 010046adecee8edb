use Rattle.spatch.proofs.exit.exit_of.Goals as goal

pub returns-in-Ok-clause-ends : goal.returns-in-Ok-clause-ends
returns-in-Ok-clause-ends g c = rw (c.in-Ok.is, c.from.ensures) (rw c.deref.ensures.value at c.run.ensures.ends)

pub returns-in-Ok-clause-exact : goal.returns-in-Ok-clause-exact
returns-in-Ok-clause-exact g c = rw (c.in-Ok.is, c.from.ensures) (rw c.deref.ensures.value at c.run.ensures.exact)
