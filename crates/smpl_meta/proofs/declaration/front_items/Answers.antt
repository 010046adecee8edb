use Rattle.std.proofs.Common.{Option, List, sym, ◌∙◌, drop}
use Rattle.std.specs.Prelude.{IfOk}
use Rattle.std.proofs.lemmas.List.{take_rest}
use Rattle.smpl_patch.specs.declared.wanted.NameWanted.TheVariants as names
use Rattle.smpl_meta.specs.declared.item.Item.{Item}
use Rattle.smpl_meta.specs.Typed.{AreNames}
use Rattle.smpl_meta.specs.Declarations.{AreItems, is_local, AreFrontItems}
use Rattle.smpl_meta.proofs.TypedLemmas.{if_true, if_false, if_ok, front_by}
use Rattle.smpl_meta.proofs.declaration.front_items.Goals as goal

pub returns-then-is_local : goal.returns-then-is_local
returns-then-is_local c =
    let types = c.args.context.now.types.now in
    let ts = c.args.tokens.now in
    let read : IfOk c.name_items.result (λ o. AreNames types names.Local (drop 2 ts) o) = rw take_rest at c.name_items.ensures in
    if_ok (λ (o : Option (List Item)). AreNames types names.Local (drop 2 ts) o) (λ (o : Option (List Item)). AreFrontItems types ts o)
    (λ o are. front_by types ts o
    (if_true (AreNames types names.Local (drop 2 ts) o) (AreItems types ts o) (is_local ts) (sym c.is_local.ensures.value ∙ c.if-is_local.true) are))
    c.name_items.result read

pub returns-else-is_local : goal.returns-else-is_local
returns-else-is_local c =
    let types = c.args.context.now.types.now in
    let ts = c.args.tokens.now in
    if_ok (λ (o : Option (List Item)). AreItems types ts o) (λ (o : Option (List Item)). AreFrontItems types ts o)
    (λ o are. front_by types ts o
    (if_false (AreNames types names.Local (drop 2 ts) o) (AreItems types ts o) (is_local ts) (sym c.is_local.ensures.value ∙ c.if-is_local.false) are))
    c.plain_items.result c.plain_items.ensures
