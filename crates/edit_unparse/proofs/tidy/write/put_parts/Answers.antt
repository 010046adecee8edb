use Rattle.std.proofs.Common.{◌<◌, refl, arith, rules, length}
use Rattle.edit_unparse.proofs.Reached.{reaches_along, reaches_more, reaches_over}
use Rattle.edit_unparse.proofs.StayLemmas.{kept_more}
use Rattle.edit_unparse.proofs.tidy.write.put_parts.Goals as goal

pub loop-i-preserved : goal.loop-i-preserved
loop-i-preserved c =
    let flags = c.args.stays.now in
    let parts = c.args.parts.now in
    let less : c.loop-i.i < length parts = omega arith in
    let fits : c.loop-i.i < length flags = omega arith in
    let step = kept_more c.args.lexed.now flags parts c.loop-i.i _ c.index-parts-i.result fits less refl c.index-parts-i.is in
    reaches_more c.args.draft.now c.loop-i.draft c.put_if.new.draft _ _ _ (reaches_along c.args.draft.now c.loop-i.draft _ _ _ step c.loop-i.invariant)
    c.in_ok-put_if.ensures.ok

pub returns-in_err-put_if-clause-too_long : goal.returns-in_err-put_if-clause-too_long
returns-in_err-put_if-clause-too_long c = λ fault.
    let flags = c.args.stays.now in
    let parts = c.args.parts.now in
    let less : c.loop-i.i < length parts = omega arith in
    let fits : c.loop-i.i < length flags = omega arith in
    let step = kept_more c.args.lexed.now flags parts c.loop-i.i _ c.index-parts-i.result fits less refl c.index-parts-i.is in
    reaches_over c.args.draft.now c.loop-i.draft _ _ _ (reaches_along c.args.draft.now c.loop-i.draft _ _ _ step c.loop-i.invariant)
    (c.in_err-put_if.ensures.too_long (search rules))
