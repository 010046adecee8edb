-- The variables that appear in a pattern, and those of plus code that is anchored at it.
use Rattle.std.specs.Prelude.{ℕ, Bool, false, ◌||◌, cond, nat_eq, List, map, Option, None, Some, slice_get}
use Rattle.std.specs.List.{list_any, position}
use Rattle.c_terms.specs.declared.token.Token.{Token}
use Rattle.c_terms.specs.declared.tree.Tree.{Tree}
use Rattle.c_terms.specs.Trees.{leaves}
use Rattle.smpl_terms.specs.declared.var.Var.{Var}
use Rattle.smpl_terms.specs.Vars.{same_var}
use Rattle.smpl_patch.specs.declared.pattern.VarDecl.{VarDecl}
use Rattle.smpl_patch.specs.declared.pattern.PatToken.{PatToken}
use Rattle.smpl_patch.specs.declared.pattern.Pattern.{Pattern}
use Rattle.smpl_patch.specs.Held.{held}
use Rattle.smpl_patch.specs.Patterns.{is_own, in_plus, in_first}

-- the variable is in the list
abbrev pub has : List Var → Var → Bool
has vars x = list_any (λ y. same_var y x) vars

-- the first place of the variable in the list
abbrev pub number_of : List Var → Var → Option ℕ
number_of vars x = position (λ y. same_var y x) vars

-- there is a number, and it is this one
abbrev pub is_number : Option ℕ → ℕ → Bool
is_number None k = false
is_number (Some n) k = nat_eq n k

-- there is a declaration of the variable
abbrev pub is_declared : List VarDecl → Var → Bool
is_declared decls x = has (map (λ d. d.var) decls) x

module _ (decls : List VarDecl) (tokens : List PatToken) where
  -- x is the variable of the token or a position at it, or is in plus code there, if that counts
  abbrev pub reads_token : Bool → Var → Token → Bool
  reads_token plus x a = cond plus (is_own decls tokens x a || in_plus decls (slice_get tokens a.id) x) (is_own decls tokens x a)

  abbrev pub reads_tree : Bool → Var → Tree → Bool
  reads_tree plus x t = list_any (reads_token plus x) (leaves t)

  -- x is used in the pattern, if plus code counts, and otherwise appears there
  abbrev pub reads : Bool → Pattern → Var → Bool
  reads plus p x = in_first (λ form. list_any (reads_tree plus x) (held p.spot form)) p.forms
