-- The values that a tree can give a variable.
use Rattle.std.specs.Prelude.{Bool, ◌||◌}
use Rattle.std.specs.List.{list_any}
use Rattle.c_terms.specs.declared.token.Token.{Token}
use Rattle.c_terms.specs.declared.tree.Tree.{Tree}
use Rattle.c_terms.specs.Trees.{leaves}
use Rattle.smpl_terms.specs.declared.value.Value.{Value}
use Rattle.smpl_terms.specs.declared.value.Value.TheVariants.{Term, Place}
use Rattle.smpl_terms.specs.Values.{same}
use Rattle.cfg_build.specs.CfgGraph.Values.{terms_in}

-- a subtree, a run of members of a list of arguments or parameters, or the place of a token
abbrev pub has_value : Tree → Value → Bool
has_value t v = list_any (λ u. same (Term u) v) (terms_in t) || list_any (λ (a : Token). same (Place a.id) v) (leaves t)
