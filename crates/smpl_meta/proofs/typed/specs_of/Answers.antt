use Rattle.std.proofs.Common.{◌≡◌, Option, None, refl, sym, ◌∙◌}
use Rattle.std.specs.List.{list_any}
use Rattle.c_terms.specs.declared.tree.Tree.{Tree}
use Rattle.smpl_meta.specs.Typed.{is_refused, IsSpecs, AreSpecs}
use Rattle.smpl_meta.proofs.TypedLemmas.{if_true, if_false, if_ok}
use Rattle.smpl_meta.proofs.typed.specs_of.Goals as goal

pub returns-then-any_refused : goal.returns-then-any_refused
returns-then-any_refused c =
    let none : Option Tree = None in
    if_true (none ≡ None) (IsSpecs c.args.context.now.types.now c.args.tokens.now None) (list_any is_refused c.args.tokens.now)
    (sym c.any_refused.ensures ∙ c.if-any_refused.true) refl

pub returns-else-any_refused : goal.returns-else-any_refused
returns-else-any_refused c =
    let types = c.args.context.now.types.now in
    let ts = c.args.tokens.now in
    if_ok (λ (o : Option Tree). IsSpecs types ts o) (λ (o : Option Tree). AreSpecs types ts o)
    (λ o is. if_false (o ≡ None) (IsSpecs types ts o) (list_any is_refused ts) (sym c.any_refused.ensures ∙ c.if-any_refused.false) is)
    c.read_plain.result c.read_plain.ensures
