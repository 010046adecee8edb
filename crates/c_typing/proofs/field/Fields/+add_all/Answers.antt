use Rattle.std.proofs.Common.{◌≡◌, true, false, refl, sym, ap, ◌∙◌, arith, length, take}
use Rattle.c_terms.specs.declared.tree.Tree.TheVariants.{Branch}
use Rattle.c_terms.proofs.PathLemmas.{child-levels}
use Rattle.c_typing.specs.Fields.{with_fields, own_fields, fields_in}
use Rattle.c_typing.proofs.FoldLemmas.{fields_branch}
use Rattle.c_typing.proofs.FieldLemmas.{keeps-same, keeps-more, with-append, inner_from, inner-more, inner-end, leaf-none}
use Rattle.c_typing.proofs.field.Fields.+add_all.Goals as goal
use Rattle.c_typing.proofs.field.Fields.+add_all.Goals.{then-may_define+in_ok-add_all-in-Branch, else-may_define}

pub loop-i-init : goal.loop-i-init
loop-i-init t c = record { done = refl; kept = keeps-same c.add_own.new.self }

pub add_all-requires : goal.add_all-requires
add_all-requires t c =
    let e = c.in-Branch.is ∙ ap (Branch c.in-Branch.label) (sym c.as_slice-child-items.ensures) in
    let d = child-levels c.args.tree.now c.in-Branch.label c.as_slice-child-items.result.now c.loop-i.i c.child-item.result e
    c.loop-i-test.true c.child-item.is in
    (omega (arith, d), tt)

pub loop-i-preserved : goal.loop-i-preserved
loop-i-preserved t c =
    let label = c.in-Branch.label in
    let items = c.as_slice-child-items.result.now in
    let own = c.add_own.new.self in
    let now = c.loop-i.self in
    let next = c.if-may_define.self in
    elim c.if-may_define.branch [
      | then-may_define+in_ok-add_all-in-Branch w ↦ record {
        done = inner-more label items c.loop-i.i c.child-item.result _ now next true c.loop-i-test.true c.child-item.is
            (sym w.if-may_define.true ∙ c.may_define.ensures) (w.self-is ∙ w.in_ok-add_all-in-Branch.ensures.ok) c.loop-i.invariant.done;
        kept = keeps-more own now next c.loop-i.invariant.kept (ap (take (length now)) w.self-is ∙ w.add_all.ensures.kept);
      }
      | else-may_define w ↦ record {
        done = inner-more label items c.loop-i.i c.child-item.result _ now next false c.loop-i-test.true c.child-item.is
            (sym w.if-may_define.false ∙ c.may_define.ensures) w.self-is c.loop-i.invariant.done;
        kept = ap (take (length own)) w.self-is ∙ c.loop-i.invariant.kept;
      }
    ]

pub returns-in_err-add_all-in-Branch-clause-kept : goal.returns-in_err-add_all-in-Branch-clause-kept
returns-in_err-add_all-in-Branch-clause-kept t c =
    keeps-more c.args.self.now c.add_own.new.self c.add_all.new.self c.add_own.ensures.kept
    (keeps-more c.add_own.new.self c.loop-i.self c.add_all.new.self c.loop-i.invariant.kept c.add_all.ensures.kept)

pub returns-in-Leaf-clause-ok : goal.returns-in-Leaf-clause-ok
returns-in-Leaf-clause-ok t c = leaf-none c.args.tree.now _ c.args.self.now c.in-Leaf.is

pub returns-after-loop-i-clause-ok : goal.returns-after-loop-i-clause-ok
returns-after-loop-i-clause-ok t c =
    let old = c.args.self.now in
    let label = c.in-Branch.label in
    let items = c.as_slice-child-items.result.now in
    let e : c.args.tree.now ≡ Branch label items = c.in-Branch.is ∙ ap (Branch label) (sym c.as_slice-child-items.ensures) in
    let own : c.add_own.new.self ≡ with_fields old (own_fields label items) =
    c.in_ok-add_own-in-Branch.ensures.ok ∙ ap (λ cs. with_fields old (own_fields label cs)) (c.as_slice.ensures ∙ sym c.as_slice-child-items.ensures) in
    inner-end label items c.loop-i.i _ c.loop-i.self (omega arith) c.loop-i.invariant.done
    ∙ ap (λ fs. with_fields fs (inner_from label items 0)) own ∙ with-append old (own_fields label items) (inner_from label items 0)
    ∙ ap (with_fields old) (sym (fields_branch label items)) ∙ ap (λ tree. with_fields old (fields_in tree)) (sym e)

pub returns-after-loop-i-clause-kept : goal.returns-after-loop-i-clause-kept
returns-after-loop-i-clause-kept t c =
    keeps-more c.args.self.now c.add_own.new.self c.loop-i.self c.add_own.ensures.kept c.loop-i.invariant.kept
