use Rattle.std.proofs.Common.{◌≡◌, ℕ, Option, List, sym, ap, ◌∙◌, take, true, false}
use Rattle.smpl_meta.specs.declared.item.Item.{Item}
use Rattle.smpl_meta.specs.Typed.{declarator_length, is_untyped, untyped_items, IsTyped, AreNames}
use Rattle.smpl_meta.proofs.TypedLemmas.{if_true, if_false, if_ok}
use Rattle.smpl_meta.proofs.typed.name_items.Goals as goal

pub returns-then-is_untyped : goal.returns-then-is_untyped
returns-then-is_untyped c =
    let types = c.args.context.now.types.now in
    let ts = c.args.tokens.now in
    let name = c.args.name in
    let plain : is_untyped (take (declarator_length 0 ts) ts) ≡ true =
    ap (λ (k : ℕ). is_untyped (take k ts)) (sym c.declarator_length-n.ensures.value) ∙ (sym c.is_untyped.ensures ∙ c.if-is_untyped.true) in
    if_ok (λ (o : Option (List Item)). o ≡ untyped_items name ts) (λ (o : Option (List Item)). AreNames types name ts o)
    (λ o are. if_true (o ≡ untyped_items name ts) (IsTyped types name ts o) (is_untyped (take (declarator_length 0 ts) ts)) plain are)
    c.untyped_items.result c.untyped_items.ensures

pub returns-else-is_untyped : goal.returns-else-is_untyped
returns-else-is_untyped c =
    let types = c.args.context.now.types.now in
    let ts = c.args.tokens.now in
    let name = c.args.name in
    let typed : is_untyped (take (declarator_length 0 ts) ts) ≡ false =
    ap (λ (k : ℕ). is_untyped (take k ts)) (sym c.declarator_length-n.ensures.value) ∙ (sym c.is_untyped.ensures ∙ c.if-is_untyped.false) in
    if_ok (λ (o : Option (List Item)). IsTyped types name ts o) (λ (o : Option (List Item)). AreNames types name ts o)
    (λ o are. if_false (o ≡ untyped_items name ts) (IsTyped types name ts o) (is_untyped (take (declarator_length 0 ts) ts)) typed are)
    c.typed_items.result c.typed_items.ensures
