use Rattle.std.proofs.Common.{arith}
use Rattle.std.proofs.lemmas.Grind.{common_steps}
use Rattle.env_sets.proofs.GivenLemmas.{split, free_vars}
use Rattle.env_sets.proofs.algebra.entry_given.Goals as goal

pub returns-then-not-entry_agrees-clause-meaning : goal.returns-then-not-entry_agrees-clause-meaning
returns-then-not-entry_agrees-clause-meaning c = λ rest. let s = split c.args.env.now rest c.args.entry.now in grind (arith, common_steps)

pub returns-clause-meaning : goal.returns-clause-meaning
returns-clause-meaning c = λ rest. rw c.in_ok-free_of.ensures.pairs (let s = split c.args.env.now rest c.args.entry.now in grind (arith, common_steps))

pub returns-clause-vars : goal.returns-clause-vars
returns-clause-vars c = λ t. rw c.in_ok-free_of.ensures.pairs (free_vars c.args.env.now t c.args.entry.now)
