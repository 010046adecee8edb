use Rattle.std.proofs.Common.{◌≡◌, drop}
use Rattle.smpl_terms.specs.Environments.{total}
use Rattle.pat_match.specs.PatPairs.Pairs.{first_aligned}
use Rattle.pat_match.proofs.pat_pairs.spots.aligned_tokens.Given as goal

abbrev pub invariant-loop-i : goal.invariant-loop-i
invariant-loop-i l = first_aligned l.context.decls.now l.context.tokens.now l.context.types.now (total l.env) l.p l.role l.tree (drop l.i l.p.forms)
    ≡ first_aligned l.context.decls.now l.context.tokens.now l.context.types.now (total l.env) l.p l.role l.tree l.p.forms
