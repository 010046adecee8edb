use Rattle.std.proofs.Common.{◌≡◌, ◌++◌, drop, length}
use Rattle.smpl_terms.specs.Environments.{total}
use Rattle.cfg_build.specs.CfgGraph.Own.{is_own}
use Rattle.pat_match.specs.Spots.{own_parts_from}
use Rattle.pat_match.specs.Matching.{aligned_at}
use Rattle.pat_match.proofs.aligning.align_own_parts.Given as goal

abbrev pub invariant-loop-i : goal.invariant-loop-i
invariant-loop-i l = record {
  above : l.above.items ≡ l.path;
  found : l.found.items ++ aligned_at l.aligner.context.now.decls.now l.aligner.context.now.tokens.now l.aligner.context.now.types.now
      (total l.aligner.env.now) l.aligner.p.now l.aligner.role l.path
      (own_parts_from (is_own l.aligner.role.kind l.label (length l.children)) l.label l.i (drop l.i l.children))
      ≡ aligned_at l.aligner.context.now.decls.now l.aligner.context.now.tokens.now l.aligner.context.now.types.now
      (total l.aligner.env.now) l.aligner.p.now l.aligner.role l.path
      (own_parts_from (is_own l.aligner.role.kind l.label (length l.children)) l.label 0 l.children);
}
