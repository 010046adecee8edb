use Rattle.std.proofs.Common.{◌≡◌, Option, None, Some, refl, subst}
use Rattle.c_rows.specs.declared.kind.Kind.TheVariants as kinds
use Rattle.c_terms.specs.declared.tree.Tree.{Tree}
use Rattle.smpl_meta.specs.declared.item.Item.{Item}
use Rattle.smpl_meta.specs.Typed.{IsPlain, declarator_item, IsDeclarator}
use Rattle.smpl_meta.proofs.TypedLemmas.{by_tree, if_ok}
use Rattle.smpl_meta.proofs.typed.declarator_item.Goals as goal

pub returns-in-None : goal.returns-in-None
returns-in-None c =
    let types = c.args.context.now.types.now in
    let plain = subst (λ (o : Option Tree). IsPlain types kinds.Declarator c.args.tokens.now o) c.in-None.is c.in_ok-tree.ensures in
    by_tree types c.args.name c.args.specs.now c.args.tokens.now None None plain refl

pub returns-in-Some : goal.returns-in-Some
returns-in-Some c =
    let types = c.args.context.now.types.now in
    let ts = c.args.tokens.now in
    let name = c.args.name in
    let specs = c.args.specs.now in
    let d = c.in-Some.declarator in
    let plain = subst (λ (o : Option Tree). IsPlain types kinds.Declarator ts o) c.in-Some.is c.in_ok-tree.ensures in
    if_ok (λ (o : Option Item). o ≡ declarator_item name specs ts d) (λ (o : Option Item). IsDeclarator types name specs ts o)
    (λ o e. by_tree types name specs ts (Some d) o plain e) c.item_of.result c.item_of.ensures
