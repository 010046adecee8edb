-- The equations of the folds over declarators.
use Rattle.std.proofs.Common.{◌≡◌, List, map, ap, sym, ◌∙◌}
use Rattle.std.specs.Prelude.{Bool}
use Rattle.c_terms.specs.declared.token.Token.{Token}
use Rattle.c_terms.specs.declared.label.Label.{Label}
use Rattle.c_terms.specs.declared.tree.Tree.{Tree}
use Rattle.c_terms.specs.declared.tree.Tree.TheVariants.{Leaf, Branch, rolls-Leaf, rolls-Branch}
use Rattle.c_terms.specs.declared.tree.Tree.TheFolds.{fold-roll-Tree}
use Rattle.c_rows.specs.Tokens.{is_named}
use Rattle.c_rows.specs.Branches.{declares_name, declares_step, declares_at, declares_function, function_step, function_at}

pub declares-Leaf : (t : Token) → declares_name (Leaf t) ≡ is_named t
declares-Leaf t = ap declares_name (sym (rolls-Leaf t)) ∙ fold-roll-Tree Bool declares_step _

pub declares-Branch : (l : Label) (cs : List Tree) → declares_name (Branch l cs) ≡ declares_at l (map declares_name cs)
declares-Branch l cs = ap declares_name (sym (rolls-Branch l cs)) ∙ fold-roll-Tree Bool declares_step _

pub function-Branch : (l : Label) (cs : List Tree) → declares_function (Branch l cs) ≡ function_at l (map declares_function cs)
function-Branch l cs = ap declares_function (sym (rolls-Branch l cs)) ∙ fold-roll-Tree Bool function_step _
