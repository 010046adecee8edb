use Rattle.std.proofs.Common.{refl, rules}
use Rattle.edit_unparse.specs.Tidy.Made.{frame_of}
use Rattle.edit_unparse.proofs.AlikeLemmas.{looks_same}
use Rattle.edit_unparse.proofs.TidiedLemmas.{holds_all, overflows_all, stays_are}
use Rattle.edit_unparse.proofs.TidyAgain.{tidied_again}
use Rattle.edit_unparse.proofs.tidy.write.tidied.Goals as goal

pub returns-clause-bytes : goal.returns-clause-bytes
returns-clause-bytes c =
    let is = stays_are c.args.lexed.now c.args.edits.now c.edits-all.result.now c.args.layout.now c.args.plan.now _ _ _ c.as_slice-parts.result.now _
    c.as_slice-stays.result.now c.edits-all.ensures.edits c.as_slice-braces.ensures.value c.as_slice-lists.ensures.value c.as_slice-parts.ensures.value
    c.as_slice-stays.ensures.value c.requires.plan c.in_ok-made.ensures.parts (c.in_ok-kept.ensures.stays _ (looks_same _ _)) in
    let holds = holds_all c.args.next _ c.put_parts.new.draft _ _ c.in_ok-with_capacity.ensures.items c.in_ok-with_capacity-2.ensures.items refl refl is
    c.in_ok-put_parts.ensures.ok in
    holds.bytes

pub returns-clause-ids : goal.returns-clause-ids
returns-clause-ids c =
    let is = stays_are c.args.lexed.now c.args.edits.now c.edits-all.result.now c.args.layout.now c.args.plan.now _ _ _ c.as_slice-parts.result.now _
    c.as_slice-stays.result.now c.edits-all.ensures.edits c.as_slice-braces.ensures.value c.as_slice-lists.ensures.value c.as_slice-parts.ensures.value
    c.as_slice-stays.ensures.value c.requires.plan c.in_ok-made.ensures.parts (c.in_ok-kept.ensures.stays _ (looks_same _ _)) in
    let holds = holds_all c.args.next _ c.put_parts.new.draft _ _ c.in_ok-with_capacity.ensures.items c.in_ok-with_capacity-2.ensures.items refl refl is
    c.in_ok-put_parts.ensures.ok in
    holds.ids

pub returns-clause-again : goal.returns-clause-again
returns-clause-again c = λ cuts fair.
    let is = stays_are c.args.lexed.now c.args.edits.now c.edits-all.result.now c.args.layout.now c.args.plan.now _ _ _ c.as_slice-parts.result.now _
    c.as_slice-stays.result.now c.edits-all.ensures.edits c.as_slice-braces.ensures.value c.as_slice-lists.ensures.value c.as_slice-parts.ensures.value
    c.as_slice-stays.ensures.value c.requires.plan c.in_ok-made.ensures.parts (c.in_ok-kept.ensures.stays _ (looks_same _ _)) in
    let holds = holds_all c.args.next _ c.put_parts.new.draft _ _ c.in_ok-with_capacity.ensures.items c.in_ok-with_capacity-2.ensures.items refl refl is
    c.in_ok-put_parts.ensures.ok in
    tidied_again c.args.lexed.now c.args.edits.now (frame_of c.args.layout.now) c.args.next c.put_parts.new.draft.bytes.items c.put_parts.new.draft.ids.items
    cuts fair holds.bytes holds.ids

pub returns-in_err-put_parts-clause-too_long : goal.returns-in_err-put_parts-clause-too_long
returns-in_err-put_parts-clause-too_long c = λ fault.
    let is = stays_are c.args.lexed.now c.args.edits.now c.edits-all.result.now c.args.layout.now c.args.plan.now _ _ _ c.as_slice-parts.result.now _
    c.as_slice-stays.result.now c.edits-all.ensures.edits c.as_slice-braces.ensures.value c.as_slice-lists.ensures.value c.as_slice-parts.ensures.value
    c.as_slice-stays.ensures.value c.requires.plan c.in_ok-made.ensures.parts (c.in_ok-kept.ensures.stays _ (looks_same _ _)) in
    overflows_all c.args.next _ _ _ c.in_ok-with_capacity.ensures.items refl refl is (c.in_err-put_parts.ensures.too_long (search rules))
