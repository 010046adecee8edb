-- Which trees a range of tokens has.
use Rattle.std.specs.Prelude.{◌≤◌, ⊤, ℕ, zero, suc, length, Bool, true, false, List, []}
use Rattle.c_terms.specs.declared.token.Token.{Token}
use Rattle.c_terms.specs.declared.tree.Tree.{Tree}
use Rattle.c_terms.specs.Trees.{levels}
use Rattle.c_rows.specs.Limits.{most_levels}
use Rattle.c_rows.specs.declared.kind.Kind.{Kind}
use Rattle.c_rows.specs.declared.kind.Kind.TheVariants as kind
use Rattle.c_rows.specs.Look.{Names}
use Rattle.c_rows.specs.Derives.{Derives}

-- No expression without commas, of at most 1,000 levels, spells the tokens from the first list to the second. A type in
-- such an expression obeys the same rule. The type begins after the expression's first token, so the rule is nested at
-- most as deep as there are tokens: starting from that number, the line for zero is never reached.
abbrev pub NoRival : Names → ℕ → List Token → List Token → Type 0
NoRival names zero xs ys = ⊤
NoRival names (suc n) xs ys = (u : Tree) → Derives names (NoRival names n) kind.AssignLevel xs u ys → levels u ≤ most_levels → ⊥

-- The tree is of this kind, the rows derive it from all of the tokens, and it has at most 1,000 levels of branches. In
-- it, a type is a member of an argument list only if no expression has the same tokens.
pub record IsTreeOf (kind : Kind) (names : Names) (tokens : List Token) (t : Tree) : Type 0 where
  pub derived : Derives names (NoRival names (length tokens)) kind tokens t []
  pub shallow : levels t ≤ most_levels

-- Trees of this kind are read by themselves. Those of the other kinds are read within a list.
abbrev pub stands_alone : Kind → Bool
stands_alone kind.Args = false
stands_alone kind.TypeArg = false
stands_alone kind.Params = false
stands_alone kind.Param = false
stands_alone kind.InitItem = false
stands_alone kind.NamelessBits = false
stands_alone kind.EnumName = false
stands_alone kind.Enumerator = false
stands_alone _ = true
