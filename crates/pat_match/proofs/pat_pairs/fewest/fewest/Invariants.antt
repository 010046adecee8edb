use Rattle.std.proofs.Common.{◌≡◌, false}
use Rattle.smpl_terms.specs.Environments.{total}
use Rattle.pat_match.specs.Runs.{some_below}
use Rattle.pat_match.specs.PatPairs.Pairs.{takes_first}
use Rattle.pat_match.proofs.pat_pairs.fewest.fewest.Given as goal

abbrev pub invariant-loop-k : goal.invariant-loop-k
invariant-loop-k l = some_below (takes_first l.bound.context.now.decls.now l.bound.context.now.tokens.now l.bound.context.now.types.now
    (total l.bound.env.now) l.child.label l.child.forms.now l.child.i l.child.form.now l.members) l.k ≡ false
