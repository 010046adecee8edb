use Rattle.std.proofs.Common.{◌≡◌, arith, sym, ap, ◌∙◌, ◌+◌, ◌++◌, ◌∷◌, [], Vec, Global, ℕ, if◌then◌else◌}
use Rattle.c_terms.specs.declared.tree.Tree.TheVariants.{Branch}
use Rattle.c_terms.proofs.PathLemmas.{back-up, child-levels}
use Rattle.smpl_terms.specs.Environments.{total}
use Rattle.pat_match.specs.declared.aligning.Alignment.{Alignment}
use Rattle.pat_match.specs.Spots.{parts_of_child}
use Rattle.pat_match.specs.Matching.{put_form, form_at, aligned_at}
use Rattle.pat_match.proofs.InsideLemmas.{kids_of, aligned_kids_step, aligned_done, aligned_leaf}
use Rattle.pat_match.proofs.aligning.+put_child.Goals as goal
use Rattle.pat_match.proofs.aligning.+put_child.Goals.{in-Branch+else-loop-j-test, in-Leaf}

pub loop-j-init : goal.loop-j-init
loop-j-init t c = record {
  above = λ _. c.push.new.self.items;
  found = ap (λ ps. c.put_part.new.found.items
      ++ aligned_at c.args.aligner.now.context.now.decls.now c.args.aligner.now.context.now.tokens.now c.args.aligner.now.context.now.types.now
      (total c.args.aligner.now.env.now) c.args.aligner.now.p.now c.args.aligner.now.role c.push.new.self.items ps)
      (sym (kids_of c.args.child.now c.in-Branch.inner _ c.as_slice-below-items.result.now c.in-Branch.is c.as_slice-below-items.ensures));
}

pub put_child-requires : goal.put_child-requires
put_child-requires t c =
    let e = c.in-Branch.is ∙ ap (Branch c.in-Branch.inner) (sym c.as_slice-below-items.ensures) in
    let d = child-levels c.args.child.now c.in-Branch.inner c.as_slice-below-items.result.now c.loop-j.j c.below-item.result e
    c.loop-j-test.true c.below-item.is in
    (omega arith, c.requires.few)

pub loop-j-preserved : goal.loop-j-preserved
loop-j-preserved t c = record {
  above = c.in_ok-put_child-in-Branch.ensures.above ∙ c.loop-j.invariant.above;
  found = aligned_kids_step c.args.aligner.now.context.now.decls.now c.args.aligner.now.context.now.tokens.now c.args.aligner.now.context.now.types.now
      (total c.args.aligner.now.env.now) c.args.aligner.now.p.now c.args.aligner.now.role c.push.new.self.items
      c.in-Branch.inner c.as_slice-below-items.result.now c.loop-j.j (c.loop-j.j + 1) c.below-item.result c.loop-j.found.items
      c.put_child.new.found.items _ (omega arith) c.loop-j-test.true c.below-item.is
      (c.in_ok-put_child-in-Branch.ensures.found ∙ ap (λ path. c.loop-j.found.items
      ++ aligned_at c.args.aligner.now.context.now.decls.now c.args.aligner.now.context.now.tokens.now c.args.aligner.now.context.now.types.now
      (total c.args.aligner.now.env.now) c.args.aligner.now.p.now c.args.aligner.now.role path
      (parts_of_child c.in-Branch.inner c.loop-j.j c.below-item.result)) c.loop-j.invariant.above)
      c.loop-j.invariant.found;
}

pub returns-clause-found : goal.returns-clause-found
returns-clause-found t c = elim c.match-child.branch [
  | in-Branch+else-loop-j-test w ↦ ap (λ (v : Vec Alignment Global). v.items) w.found-is
      ∙ aligned_done c.args.aligner.now.context.now.decls.now c.args.aligner.now.context.now.tokens.now c.args.aligner.now.context.now.types.now
      (total c.args.aligner.now.env.now) c.args.aligner.now.p.now c.args.aligner.now.role c.args.above.now.items
      c.push.new.self.items c.args.label c.args.i c.args.child.now w.in-Branch.inner w.as_slice-below-items.result.now w.loop-j.j
      c.args.found.now.items c.put_part.new.found.items w.loop-j.found.items c.is_expression_part-asked.result w.loop-j-test.false
      c.is_expression_part-asked.ensures.value c.in_ok-push.ensures.items
      (c.in_ok-put_part.ensures ∙ ap (λ path. c.args.found.now.items ++ (if c.is_expression_part-asked.result
      then put_form path (form_at c.args.aligner.now.context.now.decls.now c.args.aligner.now.context.now.tokens.now c.args.aligner.now.context.now.types.now
      (total c.args.aligner.now.env.now) c.args.aligner.now.p.now c.args.aligner.now.role c.args.child.now)
      else [])) c.as_slice.ensures.value) w.loop-j.invariant.found
  | in-Leaf w ↦ ap (λ (v : Vec Alignment Global). v.items) w.found-is
      ∙ aligned_leaf c.args.aligner.now.context.now.decls.now c.args.aligner.now.context.now.tokens.now c.args.aligner.now.context.now.types.now
      (total c.args.aligner.now.env.now) c.args.aligner.now.p.now c.args.aligner.now.role c.args.above.now.items
      c.push.new.self.items c.args.label c.args.i c.args.child.now _ c.args.found.now.items c.put_part.new.found.items
      c.is_expression_part-asked.result w.in-Leaf.is c.is_expression_part-asked.ensures.value c.in_ok-push.ensures.items
      (c.in_ok-put_part.ensures ∙ ap (λ path. c.args.found.now.items ++ (if c.is_expression_part-asked.result
      then put_form path (form_at c.args.aligner.now.context.now.decls.now c.args.aligner.now.context.now.tokens.now c.args.aligner.now.context.now.types.now
      (total c.args.aligner.now.env.now) c.args.aligner.now.p.now c.args.aligner.now.role c.args.child.now)
      else [])) c.as_slice.ensures.value)
]

pub returns-clause-above : goal.returns-clause-above
returns-clause-above t c =
    let now : c.match-child.above.items ≡ c.args.above.now.items ++ c.args.i ∷ [] = elim c.match-child.branch [
      | in-Branch+else-loop-j-test w ↦ ap (λ (v : Vec ℕ Global). v.items) w.above-is ∙ w.loop-j.invariant.above ∙ c.in_ok-push.ensures.items
      | in-Leaf w ↦ ap (λ (v : Vec ℕ Global). v.items) w.above-is ∙ c.in_ok-push.ensures.items
    ] in
    back-up c.args.above.now.items c.match-child.above.items c.pop.new.self.items c.args.i now (rw (← c.match-child.above.ok.0) c.pop.ensures.rest)
