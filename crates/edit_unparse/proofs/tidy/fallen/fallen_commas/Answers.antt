use Rattle.std.proofs.Common.{refl, ap, arith, length}
use Rattle.edit_unparse.proofs.FallLemmas.{insert_falls_is, piece_falls_is}
use Rattle.edit_unparse.proofs.tidy.fallen.fallen_commas.Goals as goal

pub returns-clause-pieces : goal.returns-clause-pieces
returns-clause-pieces c = λ n less.
    piece_falls_is c.args.lexed.now c.args.edits.now c.edits-all.result.now c.args.plan.now c.args.lists.now _ c.as_slice-parts.result.now _
    c.as_slice-stays.result.now c.edits-all.ensures.edits c.as_slice-parts.ensures.value c.as_slice-stays.ensures.value c.requires
    c.in_ok-made.ensures.parts c.in_ok-kept.ensures.len c.in_ok-kept.ensures.stays n _ less
    (c.in_ok-pieces.ensures.flags c.args.lexed.now n (omega (arith, less, c.count.ensures.count)))

pub returns-clause-added : goal.returns-clause-added
returns-clause-added c = λ edit insert offset less.
    insert_falls_is c.args.lexed.now c.args.edits.now c.edits-all.result.now c.args.plan.now c.args.lists.now _ c.as_slice-parts.result.now _
    c.as_slice-stays.result.now c.edits-all.ensures.edits c.as_slice-parts.ensures.value c.as_slice-stays.ensures.value c.requires
    c.in_ok-made.ensures.parts c.in_ok-kept.ensures.len c.in_ok-kept.ensures.stays edit insert offset _ (c.in_ok-made.ensures.origins refl)
    (c.in_ok-added.ensures.places edit insert offset (omega (arith, less, ap length c.edits-all.ensures.edits)))
