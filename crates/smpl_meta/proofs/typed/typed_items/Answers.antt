use Rattle.std.proofs.Common.{Option, List, None, Some, refl, subst, take, drop}
use Rattle.std.proofs.lemmas.List.{take_rest}
use Rattle.std.specs.Prelude.{IfOk}
use Rattle.c_terms.specs.declared.tree.Tree.{Tree}
use Rattle.smpl_meta.specs.declared.item.Item.{Item}
use Rattle.smpl_meta.specs.Typed.{AreSpecs, AreDeclarators, IsTyped}
use Rattle.smpl_meta.proofs.TypedLemmas.{typed_by, if_ok}
use Rattle.smpl_meta.proofs.typed.typed_items.Goals as goal

pub returns-in-None : goal.returns-in-None
returns-in-None c =
    let types = c.args.context.now.types.now in
    let ts = c.args.tokens.now in
    let n = c.specs_length-n.result in
    let specs = subst (λ (o : Option Tree). AreSpecs types (take n ts) o) c.in-None.is c.in_ok-specs.ensures in
    typed_by types c.args.name ts n None None c.specs_length-n.ensures.value specs refl

pub returns-in-Some : goal.returns-in-Some
returns-in-Some c =
    let types = c.args.context.now.types.now in
    let ts = c.args.tokens.now in
    let name = c.args.name in
    let n = c.specs_length-n.result in
    let d = c.in-Some.specs in
    let specs = subst (λ (o : Option Tree). AreSpecs types (take n ts) o) c.in-Some.is c.in_ok-specs.ensures in
    let read : IfOk c.declarator_items.result (λ o. AreDeclarators types name d (drop n ts) o) = rw take_rest at c.declarator_items.ensures in
    if_ok (λ (o : Option (List Item)). AreDeclarators types name d (drop n ts) o) (λ (o : Option (List Item)). IsTyped types name ts o)
    (λ o are. typed_by types name ts n (Some d) o c.specs_length-n.ensures.value specs are) c.declarator_items.result read
