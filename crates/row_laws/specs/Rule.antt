-- The rule on types in a call's list, without a number.
use Rattle.std.specs.Prelude.{◌≤◌, ℕ, List, length}
use Rattle.c_terms.specs.declared.token.Token.{Token}
use Rattle.c_terms.specs.declared.tree.Tree.{Tree}
use Rattle.c_terms.specs.Trees.{levels}
use Rattle.c_rows.specs.Limits.{most_levels}
use Rattle.c_rows.specs.declared.kind.Kind.TheVariants as kind
use Rattle.c_rows.specs.Look.{Names}
use Rattle.c_rows.specs.Derives.{Derives}

-- No expression without commas, of at most 1,000 levels, spells the tokens from the first list to the second, if the types
-- in it are members as `may` says.
abbrev pub HasNoRival : Names → (List Token → List Token → Type 0) → List Token → List Token → Type 0
HasNoRival names may xs ys = (u : Tree) → Derives names may kind.AssignLevel xs u ys → levels u ≤ most_levels → ⊥

-- In each list of at most n tokens, a type may be a member exactly if no expression spells the same tokens. The types in
-- such an expression are members by the same condition.
pub record IsTheRule (names : Names) (n : ℕ) (may : List Token → List Token → Type 0) : Type 0 where
  pub gives_way : (xs ys : List Token) → length xs ≤ n → may xs ys → HasNoRival names may xs ys
  pub stands_else : (xs ys : List Token) → length xs ≤ n → HasNoRival names may xs ys → may xs ys
