-- The rule on types in an argument list, read to the letter: the rows alone say which expressions there are.
use Rattle.std.specs.Prelude.{◌≤◌, ⊤, IsTrue, List, [], ◌∷◌}
use Rattle.c_terms.specs.declared.token.Token.{Token}
use Rattle.c_terms.specs.declared.tree.Tree.{Tree}
use Rattle.c_terms.specs.Trees.{levels}
use Rattle.c_rows.specs.Limits.{most_levels}
use Rattle.c_rows.specs.declared.kind.Kind.{Kind}
use Rattle.c_rows.specs.declared.kind.Kind.TheVariants as kind
use Rattle.c_rows.specs.Look.{Names, look}
use Rattle.c_rows.specs.Words.{ends_member}
use Rattle.c_rows.specs.Derives.{Derives, Anywhere}

-- By the rows alone, no expression without commas spells the tokens from the first list to the second.
abbrev pub NoExpression : Names → List Token → List Token → Type 0
NoExpression names xs ys = (u : Tree) → Derives names Anywhere kind.AssignLevel xs u ys → ⊥

-- Like `IsTreeOf`, but a type gives way to every expression that the rows derive, whether or not that expression obeys
-- the rule inside, and however deep it is.
pub record IsLetterTreeOf (kind : Kind) (names : Names) (tokens : List Token) (t : Tree) : Type 0 where
  pub derived : Derives names (NoExpression names) kind tokens t []
  pub shallow : levels t ≤ most_levels

-- By the rows alone, every expression without commas that begins at one of the tokens, and ends where a member of an
-- argument list may end, has at most 1,000 levels.
abbrev pub AllLow : Names → List Token → Type 0
AllLow names [] = ⊤
AllLow names (t ∷ ts) = ((u : Tree) (ys : List Token) → Derives names Anywhere kind.AssignLevel (t ∷ ts) u ys
    → IsTrue (ends_member (look names ys)) → levels u ≤ most_levels) × AllLow names ts
