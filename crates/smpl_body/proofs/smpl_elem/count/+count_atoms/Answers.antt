use Rattle.std.proofs.Common.{◌≡◌, ◌+◌, ◌≤◌, Option, Some, None, arith, rules}
use Rattle.std.specs.Prelude.{IfNone}
use Rattle.smpl_body.specs.SmplElem.Elements.{atoms}
use Rattle.smpl_body.proofs.SmplElem.PartLemmas.{is_kid, kid_part, kid-levels}
use Rattle.smpl_body.proofs.SmplElem.CountLemmas.{counts-part, counts-within, counts-end, atoms-done, atoms-within}
use Rattle.smpl_body.proofs.smpl_elem.count.+count_atoms.Goals as goal

at_none : {T : Type 0} (found : Option T) (many : Type 0) → many → IfNone found many
at_none None many holds = holds
at_none (Some value) many holds = tt

pub count_atoms-requires : goal.count_atoms-requires
count_atoms-requires t c =
    let h = kid-levels c.args.tree.now c.index-children-i.result c.loop-i.i (is_kid _ _ _ _ c.kids-children.ensures c.loop-i-test.true c.index-children-i.is) in
    (omega arith, tt)

pub loop-i-preserved : goal.loop-i-preserved
loop-i-preserved t c =
    let f = c.form_at-form.result in
    let l = c.label_at-label.result in
    let k = is_kid c.args.tree.now c.index-children-i.result _ c.loop-i.i c.kids-children.ensures c.loop-i-test.true c.index-children-i.is in
    let p = kid_part f l c.args.tree.now c.index-children-i.result _ c.loop-i.i _ _ c.kids-children.ensures c.is_part.ensures c.if-not-is_part.false in
    let sum : c.in_ok-count.count ≡ c.loop-i.count + c.in_ok-more.more = search rules in
    rw sum (counts-part f l c.args.tree.now c.index-children-i.result c.loop-i.count c.in_ok-more.more c.loop-i.i _ k p
    c.in_ok-more.ensures.value c.loop-i.invariant)

pub returns-clause-value : goal.returns-clause-value
returns-clause-value t c =
    let f = c.form_at-form.result in
    let l = c.label_at-label.result in
    let n = counts-end f l c.args.tree.now _ c.loop-i.count c.loop-i.i _ c.kids-children.ensures c.loop-i-test.false c.loop-i.invariant in
    let e : c.loop-i.count + c.after.result ≡ atoms c.args.tree.now =
    atoms-done c.args.tree.now f l c.loop-i.count c.after.result c.form_at-form.ensures c.label_at-label.ensures n c.after.ensures in
    search rules

pub returns-clause-many : goal.returns-clause-many
returns-clause-many t c =
    let f = c.form_at-form.result in
    let l = c.label_at-label.result in
    let n = counts-end f l c.args.tree.now _ c.loop-i.count c.loop-i.i _ c.kids-children.ensures c.loop-i-test.false c.loop-i.invariant in
    let e : c.loop-i.count + c.after.result ≡ atoms c.args.tree.now =
    atoms-done c.args.tree.now f l c.loop-i.count c.after.result c.form_at-form.ensures c.label_at-label.ensures n c.after.ensures in
    search rules

pub returns-in_err-more-clause-many : goal.returns-in_err-more-clause-many
returns-in_err-more-clause-many t c =
    let f = c.form_at-form.result in
    let l = c.label_at-label.result in
    let k = is_kid c.args.tree.now c.index-children-i.result _ c.loop-i.i c.kids-children.ensures c.loop-i-test.true c.index-children-i.is in
    let p = kid_part f l c.args.tree.now c.index-children-i.result _ c.loop-i.i _ _ c.kids-children.ensures c.is_part.ensures c.if-not-is_part.false in
    let within = counts-within f l c.args.tree.now c.index-children-i.result c.loop-i.count c.loop-i.i _ k p c.loop-i.invariant in
    let whole = atoms-within c.args.tree.now f l c.form_at-form.ensures c.label_at-label.ensures in
    let many : 4294967296 ≤ atoms c.index-children-i.result = c.in_err-more.ensures.many in
    at_none c.from_residual.result _ (omega (arith, within, whole, many))

pub returns-in_err-count-clause-many : goal.returns-in_err-count-clause-many
returns-in_err-count-clause-many t c =
    let f = c.form_at-form.result in
    let l = c.label_at-label.result in
    let k = is_kid c.args.tree.now c.index-children-i.result _ c.loop-i.i c.kids-children.ensures c.loop-i-test.true c.index-children-i.is in
    let p = kid_part f l c.args.tree.now c.index-children-i.result _ c.loop-i.i _ _ c.kids-children.ensures c.is_part.ensures c.if-not-is_part.false in
    let within = counts-within f l c.args.tree.now c.index-children-i.result c.loop-i.count c.loop-i.i _ k p c.loop-i.invariant in
    let whole = atoms-within c.args.tree.now f l c.form_at-form.ensures c.label_at-label.ensures in
    let more : c.in_ok-more.more ≡ atoms c.index-children-i.result = c.in_ok-more.ensures.value in
    let many : 4294967296 ≤ c.loop-i.count + c.in_ok-more.more = search rules in
    at_none c.from_residual-in_err-count.result _ (omega (arith, within, whole, more, many))
