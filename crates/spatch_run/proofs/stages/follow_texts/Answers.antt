use Rattle.std.proofs.Common.{map, Some, sym}
use Rattle.run_words.specs.Orders.{Generate, Apply, Say}
use Rattle.run_words.specs.Shown.{shown_isos, shown_target}
use Rattle.spatch_run.proofs.Beginning.{unfed_first, follows}
use Rattle.spatch_run.proofs.Few.{few_ordered}
use Rattle.spatch_run.proofs.stages.follow_texts.Goals as goal

pub order_of-requires : goal.order_of-requires
order_of-requires g c = c.requires.texts

pub returns-in-Err-clause-ends : goal.returns-in-Err-clause-ends
returns-in-Err-clause-ends g c =
    unfed_first _ _ _

pub returns-in-Ok-None-clause-ends : goal.returns-in-Ok-None-clause-ends
returns-in-Ok-None-clause-ends g c =
    c.refuse_texts.ensures.ends _ _ _ _ _

pub refuse_texts-requires-clause-texts : goal.refuse_texts-requires-clause-texts
refuse_texts-requires-clause-texts g c = c.requires.texts

pub refuse_texts-requires-clause-none : goal.refuse_texts-requires-clause-none
refuse_texts-requires-clause-none g c =
    let asked = rw c.in-Ok-None.field-0-is at c.in-Ok-None.ensures.order in sym asked

pub returns-in-Ok-Some-Say-clause-ends : goal.returns-in-Ok-Some-Say-clause-ends
returns-in-Ok-Some-Say-clause-ends g c =
    let asked = rw c.in-Ok-Some-Say.field-0-0-is at (rw c.in-Ok-Some-Say.field-0-is at c.in-Ok-Some-Say.ensures.order) in
    let shelf = c.args.outside.now.shelf.now in
    follows (map (λ t. t.now) c.args.texts.now) (Some (Say c.in-Ok-Some-Say.saying)) (sym asked)
    (rw c.in-Ok-Some-Say.field-0-0-is at (c.say.ensures.ends (g.S.Loads.holds shelf) (g.S.Loads.stores shelf) (g.S.Loads.faults shelf)))

pub returns-in-Ok-Some-Generate-clause-ends : goal.returns-in-Ok-Some-Generate-clause-ends
returns-in-Ok-Some-Generate-clause-ends g c =
    let asked = rw c.in-Ok-Some-Generate.field-0-0-is at (rw c.in-Ok-Some-Generate.field-0-is at c.in-Ok-Some-Generate.ensures.order) in
    let shelf = c.args.outside.now.shelf.now in
    follows (map (λ t. t.now) c.args.texts.now) (Some (Generate c.in-Ok-Some-Generate.seed c.in-Ok-Some-Generate.functions))
    (sym asked)
    (rw c.in-Ok-Some-Generate.field-0-0-is at (c.print_text.ensures.ends (g.S.Loads.holds shelf) (g.S.Loads.stores shelf) (g.S.Loads.faults shelf)))

pub follow_order-requires-clause-few : goal.follow_order-requires-clause-few
follow_order-requires-clause-few g c κs within =
    let asked = rw c.in-Ok-Some-Apply.field-0-0-is at (rw c.in-Ok-Some-Apply.field-0-is at c.in-Ok-Some-Apply.ensures.order) in
    rw c.in-Ok-Some-Apply.field-0-0-is (few_ordered (map (λ t. t.now) c.args.texts.now) c.in-Ok-Some-Apply.order.patch.now
    (shown_isos c.in-Ok-Some-Apply.order.isos) c.in-Ok-Some-Apply.order.defined.items c.in-Ok-Some-Apply.order.target (sym asked))

pub returns-in-Ok-Some-Apply-clause-ends : goal.returns-in-Ok-Some-Apply-clause-ends
returns-in-Ok-Some-Apply-clause-ends g c =
    let asked = rw c.in-Ok-Some-Apply.field-0-0-is at (rw c.in-Ok-Some-Apply.field-0-is at c.in-Ok-Some-Apply.ensures.order) in
    let order = c.in-Ok-Some-Apply.order in
    follows (map (λ t. t.now) c.args.texts.now)
    (Some (Apply order.patch.now (shown_isos order.isos) order.defined.items (shown_target order.target))) (sym asked)
    (rw c.in-Ok-Some-Apply.field-0-0-is at c.follow_order.ensures.ends)
