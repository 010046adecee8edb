use Rattle.std.proofs.Common.{◌≡◌, ◌+◌, refl, arith, ap, ◌∙◌, sym}
use Rattle.smpl_body.specs.SmplElem.Forms.{after}
use Rattle.smpl_body.specs.SmplElem.Elements.{atoms, elements, made}
use Rattle.smpl_body.proofs.SmplElem.PartLemmas.{is_kid, kid_part, kid-levels}
use Rattle.smpl_body.proofs.SmplElem.CountLemmas.{counts-part, counts-end, makes-part, makes-end, next-done, elements-done}
use Rattle.smpl_body.proofs.smpl_elem.sequence.+elements.Goals as goal

pub elements-requires : goal.elements-requires
elements-requires g t c κs within =
    let h = kid-levels c.args.tree.now c.index-children-i.result c.loop-i.i (is_kid _ _ _ _ c.kids-children.ensures c.loop-i-test.true c.index-children-i.is) in
    (omega arith, within)

pub loop-i-preserved : goal.loop-i-preserved
loop-i-preserved g t c =
    let f = c.form_at-form.result in
    let l = c.label_at-label.result in
    let tree = c.args.tree.now in
    let child = c.index-children-i.result in
    let k = is_kid tree child _ c.loop-i.i c.kids-children.ensures c.loop-i-test.true c.index-children-i.is in
    let p = kid_part f l tree child _ c.loop-i.i _ _ c.kids-children.ensures c.is_part.ensures c.if-not-is_part.false in
    record {
      counts = rw c.in_ok-part.ensures.next (counts-part f l tree child c.loop-i.next (atoms child) c.loop-i.i _ k p refl c.loop-i.invariant.counts);
      makes = makes-part f l tree (g.C.DotsSource.dots_at c.args.clauses.now) child c.loop-i.next c.in_ok-part.part.next
          c.loop-i.i c.loop-i.parts.items c.push.new.self.items _
          c.in_ok-part.part.elems k p c.in_ok-part.ensures.elems c.in_ok-part.ensures.next c.in_ok-push.ensures.items c.loop-i.invariant.makes;
    }

pub returns-clause-elems : goal.returns-clause-elems
returns-clause-elems g t c =
    let f = c.form_at-form.result in
    let l = c.label_at-label.result in
    let tree = c.args.tree.now in
    let dots = g.C.DotsSource.dots_at c.args.clauses.now in
    let n = counts-end f l tree _ c.loop-i.next c.loop-i.i _ c.kids-children.ensures c.loop-i-test.false c.loop-i.invariant.counts in
    let m = makes-end f l tree dots _ c.loop-i.next c.loop-i.i c.loop-i.parts.items _ c.kids-children.ensures c.loop-i-test.false c.loop-i.invariant.makes in
    let e : made f dots tree c.args.first c.loop-i.parts.items c.loop-i.next ≡ elements dots c.args.first tree =
    elements-done tree dots f l c.args.first c.loop-i.next c.loop-i.parts.items c.form_at-form.ensures c.label_at-label.ensures n m in
    rw (← e) c.finished.ensures.elems

pub returns-clause-next : goal.returns-clause-next
returns-clause-next g t c =
    let f = c.form_at-form.result in
    let l = c.label_at-label.result in
    let tree = c.args.tree.now in
    let n = counts-end f l tree _ c.loop-i.next c.loop-i.i _ c.kids-children.ensures c.loop-i-test.false c.loop-i.invariant.counts in
    let e : c.loop-i.next + after f ≡ c.args.first + atoms tree =
    next-done tree f l c.args.first c.loop-i.next c.form_at-form.ensures c.label_at-label.ensures n in
    rw (← e) c.finished.ensures.next
