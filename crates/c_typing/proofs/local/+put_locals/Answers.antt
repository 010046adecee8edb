use Rattle.std.proofs.Common.{◌≡◌, ◌++◌, [], cond, refl, sym, ap, ◌∙◌, arith, take, append_assoc}
use Rattle.std.proofs.lemmas.List.{append-nil}
use Rattle.std.proofs.Math.Seq.{take-append_seam}
use Rattle.c_terms.specs.declared.tree.Tree.TheVariants.{Branch}
use Rattle.c_terms.proofs.PathLemmas.{child-levels}
use Rattle.c_typing.specs.Locals.{local, locals_under, child_locals}
use Rattle.c_typing.proofs.PartLemmas.{before, locals-next}
use Rattle.c_typing.proofs.LocalLemmas.{locals-start, locals-more, locals-end, locals-leaf}
use Rattle.c_typing.proofs.local.+put_locals.Goals as goal

pub loop-i-init : goal.loop-i-init
loop-i-init t c =
    let names = c.args.locals.now in
    let label = c.in-Branch.label in
    let items = c.as_slice-child-items.result.now in
    let e : c.args.tree.now ≡ Branch label items = c.in-Branch.is ∙ ap (Branch label) (sym c.as_slice-child-items.ensures) in
    record {
      locals = sym (append-nil names);
      found = ap (λ ids. c.args.found.now ++ ids) (locals-start names label items ∙ ap (locals_under names) (sym e));
    }

pub put_locals-requires : goal.put_locals-requires
put_locals-requires t c =
    let e = c.in-Branch.is ∙ ap (Branch c.in-Branch.label) (sym c.as_slice-child-items.ensures) in
    let d = child-levels c.args.tree.now c.in-Branch.label c.as_slice-child-items.result.now c.loop-i.i c.child-item.result e
    c.loop-i-test.true c.child-item.is in
    (omega (arith, d), tt)

pub loop-i-preserved : goal.loop-i-preserved
loop-i-preserved t c =
    let names = c.args.locals.now in
    let label = c.in-Branch.label in
    let items = c.as_slice-child-items.result.now in
    let child = c.child-item.result in
    let is_part = c.is_expression_part-is_part.result in
    let own = cond is_part (local c.loop-i.locals child) [] in
    let deep = locals_under c.loop-i.locals child in
    let all : c.put_locals.new.found ≡ c.loop-i.found ++ child_locals is_part c.loop-i.locals child =
    c.in_ok-put_locals-in-Branch.ensures.ids ∙ ap (λ ids. ids ++ deep) c.in_ok-put_local-in-Branch.ensures ∙ append_assoc c.loop-i.found own deep in
    record {
      locals = locals-next label items c.loop-i.i child names c.loop-i.locals c.put_locals.new.locals c.push_rest.new.bindings _
          c.loop-i-test.true c.child-item.is c.loop-i.invariant.locals c.in_ok-put_locals-in-Branch.ensures.locals refl
          c.in_ok-push_rest-in-Branch.ensures;
      found = locals-more names label items c.loop-i.i child c.loop-i-test.true c.child-item.is c.loop-i.found c.put_locals.new.found _
          is_part c.is_expression_part-is_part.ensures.value
          (all ∙ ap (λ ns. c.loop-i.found ++ child_locals is_part ns child) c.loop-i.invariant.locals)
          c.loop-i.invariant.found;
    }

pub returns-in-Leaf-clause-ids : goal.returns-in-Leaf-clause-ids
returns-in-Leaf-clause-ids t c =
    let names = c.args.locals.now in
    let none : locals_under names c.args.tree.now ≡ [] = ap (locals_under names) c.in-Leaf.is ∙ locals-leaf names _ in
    sym (append-nil c.args.found.now) ∙ ap (λ ids. c.args.found.now ++ ids) (sym none)

pub returns-after-loop-i-clause-ids : goal.returns-after-loop-i-clause-ids
returns-after-loop-i-clause-ids t c =
    locals-end c.args.locals.now c.in-Branch.label c.as_slice-child-items.result.now c.loop-i.i c.loop-i.found _ c.loop-i-test.false
    c.loop-i.invariant.found

pub returns-after-loop-i-clause-locals : goal.returns-after-loop-i-clause-locals
returns-after-loop-i-clause-locals t c =
    let locals = c.args.locals.now in
    c.truncate.ensures ∙ (λ j. take (c.len-outer.ensures j) (c.loop-i.invariant.locals j))
    ∙ take-append_seam locals (before c.in-Branch.label c.as_slice-child-items.result.now c.loop-i.i)
