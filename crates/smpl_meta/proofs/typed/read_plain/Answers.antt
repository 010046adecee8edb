use Rattle.std.proofs.Common.{◌∙◌, subst, List}
use Rattle.c_terms.specs.declared.token.Token.{Token}
use Rattle.smpl_meta.specs.Typed.{IsRead}
use Rattle.smpl_meta.proofs.typed.read_plain.Goals as goal

pub returns : goal.returns
returns c = (
  c.in_ok-tree.tree,
  (
    subst (λ (l : List Token). IsRead c.args.kind l c.in_ok-tree.tree) (c.as_slice.ensures.value ∙ c.in_ok-copies.ensures)
        c.in_ok-tree.ensures,
    c.unless_named.ensures,
  ),
)
