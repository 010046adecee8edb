use Rattle.std.proofs.Common.{arith, ap₂, ◌∙◌, ◌+◌, ◌++◌, [], length, if◌then◌else◌}
use Rattle.cfg_build.specs.CfgGraph.Own.{is_own}
use Rattle.smpl_terms.specs.Environments.{total}
use Rattle.pat_match.specs.Spots.{parts_of_child}
use Rattle.pat_match.specs.Matching.{aligned_at}
use Rattle.pat_match.proofs.InsideLemmas.{aligned_own_step}
use Rattle.pat_match.proofs.aligning.align_own_parts.Goals as goal

pub loop-i-preserved : goal.loop-i-preserved
loop-i-preserved c = record {
  above = c.in_ok-put_own.ensures.above ∙ c.loop-i.invariant.above;
  found = aligned_own_step c.args.aligner.now.context.now.decls.now c.args.aligner.now.context.now.tokens.now c.args.aligner.now.context.now.types.now
      (total c.args.aligner.now.env.now) c.args.aligner.now.p.now c.args.aligner.now.role c.args.path.now
      (is_own c.args.aligner.now.role.kind c.args.label (length c.args.children.now)) c.args.label c.args.children.now c.loop-i.i (c.loop-i.i + 1)
      c.index-children-i.result c.loop-i.found.items c.put_own.new.found.items _ (omega arith) c.loop-i-test.true c.index-children-i.is
      (c.in_ok-put_own.ensures.found ∙ ap₂ (λ path b. c.loop-i.found.items
      ++ aligned_at c.args.aligner.now.context.now.decls.now c.args.aligner.now.context.now.tokens.now c.args.aligner.now.context.now.types.now
      (total c.args.aligner.now.env.now) c.args.aligner.now.p.now c.args.aligner.now.role path
      (if b then parts_of_child c.args.label c.loop-i.i c.index-children-i.result else [])) c.loop-i.invariant.above c.is_own-own.ensures.value)
      c.loop-i.invariant.found;
}
