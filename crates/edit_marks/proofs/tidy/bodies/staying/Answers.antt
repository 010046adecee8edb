use Rattle.std.proofs.Common.{◌==◌, ◌∙◌, ℕ, List, ap, subst}
use Rattle.std.specs.List.{filter_map, list_any}
use Rattle.edit_marks.specs.declared.tidy.shape.Body.{Body}
use Rattle.edit_marks.specs.Tidy.Bodies.{AreFlags, acts_in, is_one, stays_of}
use Rattle.edit_marks.proofs.Tidied.FlagLemmas.{adds_none, adds_more, adds_end, adds_same, flags_given}
use Rattle.edit_marks.proofs.tidy.bodies.staying.Goals as goal

pub loop-body-init : goal.loop-body-init
loop-body-init c = adds_none c.in_ok-stays.stays.items

pub loop-body-preserved : goal.loop-body-preserved
loop-body-preserved c =
    let at = acts_in c.args.changes.now in
    let leaves = c.args.outline.now.leaves.items in
    let b = c.body-item.result in
    adds_more (λ (b : Body) (n : ℕ). is_one (stays_of at leaves b) n) c.deref-body-items.result.now c.loop-body.body-index b
    c.in_ok-stays.stays.items c.loop-body.stays.items c.put_if.new.flags.items c.loop-body-test.true c.body-item.is c.loop-body.invariant
    (adds_same c.loop-body.stays.items c.put_if.new.flags.items (is_one c.stays_of.result) (is_one (stays_of at leaves b))
    (λ n. ap (λ o. is_one o n) (c.stays_of.ensures ∙ ap (λ (l : List ℕ). stays_of at l b) c.deref-in-loop-body.ensures.value)) c.put_if.ensures)

pub returns : goal.returns
returns c =
    let at = acts_in c.args.changes.now in
    let leaves = c.args.outline.now.leaves.items in
    let bodies = c.deref-body-items.result.now in
    let flags = c.loop-body.stays.items in
    let count = c.len.ensures ∙ c.args.changes.now.removed.ok.0 in
    let given : AreFlags c.len.result (λ n. list_any (λ m. m == n) (filter_map (stays_of at leaves) bodies)) flags =
    flags_given (stays_of at leaves) bodies c.len.result c.in_ok-stays.stays.items flags c.in_ok-stays.ensures
    (adds_end (λ (b : Body) (n : ℕ). is_one (stays_of at leaves b) n) bodies c.loop-body.body-index c.in_ok-stays.stays.items flags
    c.loop-body-test.false c.loop-body.invariant) in
    subst (λ (k : ℕ). AreFlags k (λ n. list_any (λ m. m == n) (filter_map (stays_of at leaves) c.args.outline.now.bodies.items)) flags) count
    (subst (λ (bs : List Body). AreFlags c.len.result (λ n. list_any (λ m. m == n) (filter_map (stays_of at leaves) bs)) flags)
    c.deref-body-items.ensures.value given)
