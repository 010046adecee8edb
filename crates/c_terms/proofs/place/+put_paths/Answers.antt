use Rattle.std.proofs.Common.{◌≡◌, ◌++◌, [], ◌∷◌, sym, ap, ◌∙◌, arith, rules}
use Rattle.c_terms.specs.declared.tree.Tree.TheVariants.{Branch}
use Rattle.c_terms.specs.Shapes.{is_expression_part}
use Rattle.c_terms.proofs.PathLemmas.{paths-start, paths-more, back-up, child-number, child-width, child-levels}
use Rattle.c_terms.proofs.place.+put_paths.Goals as goal

pub loop-i-init : goal.loop-i-init
loop-i-init t c = record {
  back = λ _. c.args.above.now.items;
  done = paths-start is_expression_part c.args.tree.now c.in-Branch.label c.as_slice-child-items.result.now c.args.above.now.items c.args.found.now
      (c.in-Branch.is ∙ ap (Branch c.in-Branch.label) (sym c.as_slice-child-items.ensures));
}

pub overflow_cast-i : goal.overflow_cast-i
overflow_cast-i t c =
    let n = child-number c.args.tree.now c.in-Branch.label c.as_slice-child-items.result.now c.loop-i.i
    (c.in-Branch.is ∙ ap (Branch c.in-Branch.label) (sym c.as_slice-child-items.ensures)) c.requires.narrow c.loop-i-test.true in
    search rules

pub put_paths-requires : goal.put_paths-requires
put_paths-requires t c =
    let e = c.in-Branch.is ∙ ap (Branch c.in-Branch.label) (sym c.as_slice-child-items.ensures) in
    let d = child-levels c.args.tree.now c.in-Branch.label c.as_slice-child-items.result.now c.loop-i.i c.child-item.result e
    c.loop-i-test.true c.child-item.is in
    let w = child-width c.args.tree.now c.in-Branch.label c.as_slice-child-items.result.now c.loop-i.i c.child-item.result e
    c.requires.narrow c.loop-i-test.true c.child-item.is in
    (omega arith, w)

pub loop-i-preserved : goal.loop-i-preserved
loop-i-preserved t c =
    let now : c.push.new.self.items ≡ c.args.above.now.items ++ c.loop-i.i ∷ [] =
    c.in_ok-push.ensures.items ∙ ap (λ xs. xs ++ c.loop-i.i ∷ []) c.loop-i.invariant.back in
    record {
      back = back-up c.args.above.now.items c.put_paths.new.above.items c.pop.new.self.items c.loop-i.i
          (c.in_ok-put_paths.ensures.above ∙ now) (rw (← c.put_paths.new.above.ok.0) c.pop.ensures.rest);
      done = paths-more is_expression_part c.args.above.now.items c.in-Branch.label c.as_slice-child-items.result.now c.loop-i.i
          c.child-item.result _ c.loop-i.found c.put_part.new.found c.put_paths.new.found
          c.is_expression_part.result c.push.new.self.items c.loop-i-test.true c.child-item.is
          c.is_expression_part.ensures.value now c.loop-i.invariant.done c.in_ok-put_part.ensures c.in_ok-put_paths.ensures.found;
    }
