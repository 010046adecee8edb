use Rattle.std.proofs.Common.{◌≡◌, ◌+◌, ◌++◌, [], ◌∷◌, None, refl, sym, ap, ◌∙◌, arith, take, length, length-append}
use Rattle.std.specs.Prelude.{slice_set as set}
use Rattle.std.proofs.lemmas.List.{append-nil}
use Rattle.std.proofs.lemmas.Result.{IfOk-weaker}
use Rattle.std.proofs.Math.Seq.{take-append_seam}
use Rattle.c_terms.specs.declared.tree.Tree.TheVariants.{Branch}
use Rattle.c_terms.proofs.PathLemmas.{child-levels}
use Rattle.c_typing.specs.Parts.{type_of, part_types, child_types}
use Rattle.c_typing.specs.Expressions.{branch_type}
use Rattle.c_typing.proofs.FoldLemmas.{type_leaf}
use Rattle.c_typing.proofs.PartLemmas.{before, seen_types, types-start, types-leaf, seen-more, found-more, seen-end, found-end, seen-names, locals-next}
use Rattle.c_typing.proofs.PartLemmas.{same-type}
use Rattle.c_types.proofs.JoinLemmas.{filled}
use Rattle.c_typing.proofs.part.+types.Goals as goal

pub put_types-loop-i-init : goal.put_types-loop-i-init
put_types-loop-i-init t c =
    let names = c.args.scope.now.names ++ c.args.locals.now in
    let fields = c.args.scope.now.fields in
    let label = c.in-Branch.label in
    let items = c.as_slice-child-items.result.now in
    let e : c.args.tree.now ≡ Branch label items = c.in-Branch.is ∙ ap (Branch label) (sym c.as_slice-child-items.ensures) in
    record {
      locals = sym (append-nil c.args.locals.now);
      types = ap (λ ts. ts ++ seen_types names fields label [] items) c.new-types.ensures.items;
      found = ap (λ ts. c.args.found.now ++ ts) (types-start names fields label items ∙ ap (part_types names fields) (sym e));
    }

pub put_types-put_child-requires : goal.put_types-put_child-requires
put_types-put_child-requires t c =
    let e = c.in-Branch.is ∙ ap (Branch c.in-Branch.label) (sym c.as_slice-child-items.ensures) in
    let d = child-levels c.args.tree.now c.in-Branch.label c.as_slice-child-items.result.now c.loop-i.i c.child-item.result e
    c.loop-i-test.true c.child-item.is in
    (omega (arith, d), tt)

pub put_types-loop-i-preserved : goal.put_types-loop-i-preserved
put_types-loop-i-preserved t c =
    let names = c.args.scope.now.names ++ c.args.locals.now in
    let fields = c.args.scope.now.fields in
    let label = c.in-Branch.label in
    let items = c.as_slice-child-items.result.now in
    let child = c.child-item.result in
    let seen : c.args.scope.now.names ++ c.loop-i.locals ≡ names ++ before label items c.loop-i.i =
    seen-names c.args.scope.now.names c.args.locals.now (before label items c.loop-i.i) c.loop-i.locals c.loop-i.invariant.locals in
    record {
      locals = locals-next label items c.loop-i.i child c.args.locals.now c.loop-i.locals c.put_child.new.locals c.push_rest.new.bindings _
          c.loop-i-test.true c.child-item.is c.loop-i.invariant.locals c.in_ok-put_child-in-Branch.ensures.locals refl
          c.in_ok-push_rest-in-Branch.ensures;
      types = seen-more names fields label items c.loop-i.i child c.loop-i.types.items c.push.new.self.items _ c.in_ok-put_child-in-Branch.field-0
          c.loop-i-test.true c.child-item.is (c.in_ok-put_child-in-Branch.ensures.own ∙ ap (λ ns. type_of ns fields child) seen)
          c.in_ok-push-in-Branch.ensures.items c.loop-i.invariant.types;
      found = found-more names fields label items c.loop-i.i child c.loop-i.found c.put_child.new.found _ c.is_expression_part-is_part.result
          c.loop-i-test.true c.child-item.is c.is_expression_part-is_part.ensures.value
          (c.in_ok-put_child-in-Branch.ensures.parts ∙ ap (λ ns. c.loop-i.found ++ child_types c.is_expression_part-is_part.result ns fields child) seen)
          c.loop-i.invariant.found;
    }

pub put_types-returns-in-Leaf-clause-own : goal.put_types-returns-in-Leaf-clause-own
put_types-returns-in-Leaf-clause-own t c =
    let names = c.args.scope.now.names ++ c.args.locals.now in
    let fields = c.args.scope.now.fields in
    IfOk-weaker c.copy_type.result _ _ (λ ty h. h ∙ c.name_type.ensures
    ∙ sym (type_leaf names fields c.in-Leaf.token) ∙ ap (type_of names fields) (sym c.in-Leaf.is)) c.copy_type.ensures

pub put_types-returns-in-Leaf-clause-parts : goal.put_types-returns-in-Leaf-clause-parts
put_types-returns-in-Leaf-clause-parts t c =
    let names = c.args.scope.now.names ++ c.args.locals.now in
    let fields = c.args.scope.now.fields in
    let none : part_types names fields c.args.tree.now ≡ [] = ap (part_types names fields) c.in-Leaf.is ∙ types-leaf names fields c.in-Leaf.token in
    IfOk-weaker c.copy_type.result _ _
    (λ ty h. sym (append-nil c.args.found.now) ∙ ap (λ ts. c.args.found.now ++ ts) (sym none)) c.copy_type.ensures

pub put_types-returns-in_ok-ty-in-Branch-clause-own : goal.put_types-returns-in_ok-ty-in-Branch-clause-own
put_types-returns-in_ok-ty-in-Branch-clause-own t c =
    let names = c.args.scope.now.names ++ c.args.locals.now in
    let fields = c.args.scope.now.fields in
    let label = c.in-Branch.label in
    let items = c.as_slice-child-items.result.now in
    let e : c.args.tree.now ≡ Branch label items = c.in-Branch.is ∙ ap (Branch label) (sym c.as_slice-child-items.ensures) in
    let all : c.loop-i.types.items ≡ seen_types names fields label [] items =
    seen-end names fields label items c.loop-i.i c.loop-i-test.false c.loop-i.types.items _ c.loop-i.invariant.types in
    let same : c.as_slice.result.now ≡ items = c.as_slice.ensures ∙ sym c.as_slice-child-items.ensures in
    c.in_ok-ty-in-Branch.ensures ∙ (λ j. branch_type fields label (same j) (c.as_slice-in-Branch.ensures.value j)) ∙ ap (branch_type fields label items) all
    ∙ same-type names fields label items ∙ ap (type_of names fields) (sym e)

pub put_types-returns-in_ok-ty-in-Branch-clause-parts : goal.put_types-returns-in_ok-ty-in-Branch-clause-parts
put_types-returns-in_ok-ty-in-Branch-clause-parts t c =
    let names = c.args.scope.now.names ++ c.args.locals.now in
    found-end names c.args.scope.now.fields c.in-Branch.label c.as_slice-child-items.result.now c.loop-i.i c.loop-i-test.false
    c.loop-i.found _ c.loop-i.invariant.found

pub put_types-returns-in_ok-ty-in-Branch-clause-locals : goal.put_types-returns-in_ok-ty-in-Branch-clause-locals
put_types-returns-in_ok-ty-in-Branch-clause-locals t c =
    let locals = c.args.locals.now in
    c.truncate.ensures ∙ (λ j. take (c.len-outer.ensures j) (c.loop-i.invariant.locals j))
    ∙ take-append_seam locals (before c.in-Branch.label c.as_slice-child-items.result.now c.loop-i.i)

pub put_child-set-requires : goal.put_child-set-requires
put_child-set-requires t c =
    let names = c.args.scope.now.names ++ c.args.locals.now in
    let more = part_types names c.args.scope.now.fields c.args.child.now in
    let all : c.put_types.new.found ≡ (c.args.found.now ++ None ∷ []) ++ more =
    c.in_ok-ty.ensures.parts ∙ ap (λ ts. ts ++ more) c.in_ok-push.ensures.ok in
    omega (arith, c.len-at.ensures, simp length-append at (ap length all))

pub put_child-returns-in_ok-copy_type-clause-parts : goal.put_child-returns-in_ok-copy_type-clause-parts
put_child-returns-in_ok-copy_type-clause-parts t c =
    let names = c.args.scope.now.names ++ c.args.locals.now in
    let fields = c.args.scope.now.fields in
    let child = c.args.child.now in
    rw c.if-is_part.true (c.set.ensures
    ∙ ap (λ i. set c.put_types.new.found i c.in_ok-copy_type.field-0) c.len-at.ensures
    ∙ filled c.args.found.now (part_types names fields child) c.put_types.new.found None c.in_ok-copy_type.field-0
    (c.in_ok-ty.ensures.parts ∙ ap (λ ts. ts ++ part_types names fields child) c.in_ok-push.ensures.ok)
    ∙ ap (λ ty. c.args.found.now ++ ty ∷ part_types names fields child)
    (c.in_ok-copy_type.ensures ∙ c.as_ref.ensures.value ∙ c.in_ok-ty.ensures.own))

pub put_child-returns-else-is_part-clause-parts : goal.put_child-returns-else-is_part-clause-parts
put_child-returns-else-is_part-clause-parts t c = rw c.if-is_part.false c.put_types-else-is_part.ensures.parts
