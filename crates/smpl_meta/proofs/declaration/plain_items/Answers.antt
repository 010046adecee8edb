use Rattle.std.proofs.Common.{◌≡◌, ◌<◌, Option, List, sym, ◌∙◌, drop, length, arith}
use Rattle.std.specs.Prelude.{IfOk}
use Rattle.std.proofs.lemmas.List.{take_rest}
use Rattle.smpl_patch.specs.declared.wanted.NameWanted.TheVariants as names
use Rattle.smpl_meta.specs.declared.item.Item.{Item}
use Rattle.smpl_meta.specs.Forms.{kind_items}
use Rattle.smpl_meta.specs.Typed.{IsTyped, AreNames}
use Rattle.smpl_meta.specs.Declarations.{AreItems}
use Rattle.smpl_meta.proofs.TypedLemmas.{if_ok, items_of_kind, items_of_names, items_of_type}
use Rattle.smpl_meta.proofs.declaration.plain_items.Goals as goal

pub returns-then-is_kind_word : goal.returns-then-is_kind_word
returns-then-is_kind_word c =
    let types = c.args.context.now.types.now in
    let ts = c.args.tokens.now in
    let some : 0 < length c.args.tokens.now = omega (arith, c.in-len1-up.len_at_least) in
    if_ok (λ (o : Option (List Item)). o ≡ kind_items ts) (λ (o : Option (List Item)). AreItems types ts o)
    (λ o e. items_of_kind types ts c.t-item.result o some c.t-item.is (sym c.is_kind_word.ensures ∙ c.if-is_kind_word.true) e)
    c.kind_items.result c.kind_items.ensures

pub returns-then-is_word : goal.returns-then-is_word
returns-then-is_word c =
    let types = c.args.context.now.types.now in
    let ts = c.args.tokens.now in
    let some : 0 < length c.args.tokens.now = omega (arith, c.in-len1-up.len_at_least) in
    let read : IfOk c.name_items.result (λ o. AreNames types names.Name (drop 1 ts) o) = rw take_rest at c.name_items.ensures in
    if_ok (λ (o : Option (List Item)). AreNames types names.Name (drop 1 ts) o) (λ (o : Option (List Item)). AreItems types ts o)
    (λ o are. items_of_names types ts c.t-item.result o some c.t-item.is (sym c.is_kind_word.ensures ∙ c.if-is_kind_word.false)
    (sym c.is_word.ensures.value ∙ c.if-is_word.true) are)
    c.name_items.result read

pub returns-else-is_word : goal.returns-else-is_word
returns-else-is_word c =
    let types = c.args.context.now.types.now in
    let ts = c.args.tokens.now in
    let some : 0 < length c.args.tokens.now = omega (arith, c.in-len1-up.len_at_least) in
    if_ok (λ (o : Option (List Item)). IsTyped types names.Any ts o) (λ (o : Option (List Item)). AreItems types ts o)
    (λ o are. items_of_type types ts c.t-item.result o some c.t-item.is (sym c.is_kind_word.ensures ∙ c.if-is_kind_word.false)
    (sym c.is_word.ensures.value ∙ c.if-is_word.false) are)
    c.typed_items.result c.typed_items.ensures
