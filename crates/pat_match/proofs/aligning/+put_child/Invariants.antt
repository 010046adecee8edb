use Rattle.std.proofs.Common.{◌≡◌, ◌++◌, drop}
use Rattle.c_terms.specs.Trees.{levels}
use Rattle.smpl_terms.specs.Environments.{total}
use Rattle.c_terms.specs.Places.{parts}
use Rattle.c_terms.specs.Shapes.{is_expression_part}
use Rattle.pat_match.specs.Matching.{aligned_at}
use Rattle.pat_match.proofs.InsideLemmas.{kids_parts}
use Rattle.pat_match.proofs.aligning.+put_child.Given as goal

abbrev pub invariant-loop-j : goal.invariant-loop-j
invariant-loop-j l = record {
  above : l.above.items ≡ l.initial.above.items;
  found : l.found.items ++ aligned_at l.aligner.context.now.decls.now l.aligner.context.now.tokens.now l.aligner.context.now.types.now
      (total l.aligner.env.now) l.aligner.p.now l.aligner.role l.initial.above.items (kids_parts l.inner l.j (drop l.j l.below-items))
      ≡ l.initial.found.items ++ aligned_at l.aligner.context.now.decls.now l.aligner.context.now.tokens.now l.aligner.context.now.types.now
      (total l.aligner.env.now) l.aligner.p.now l.aligner.role l.initial.above.items (parts is_expression_part l.child);
}

abbrev pub decreases-put_child : goal.decreases-put_child
decreases-put_child l = levels l.child.now
