-- What the calls return.
use Rattle.std.specs.Prelude.{◌≡◌, ◌≤◌, ◌<◌, ◌↔◌, IfOk, List, Result, Ok, Err}
use Rattle.c_terms.specs.declared.token.Token.{Token}
use Rattle.c_terms.specs.declared.tree.Tree.{Tree}
use Rattle.c_rows.specs.declared.kind.Kind.{Kind}
use Rattle.c_rows.specs.Look.{Names}
use Rattle.c_rows.specs.Trees.{IsTreeOf}
use Rattle.c_rows.specs.Limits.{most_open}
use Rattle.c_rows.specs.Depth.{opens_of}
use Rattle.c_expr.specs.declared.fault.ParseFault.{ParseFault}
use Rattle.c_expr.specs.declared.fault.ParseFault.TheVariants.{NoTree, TooDeep, NoMemory}

-- the tree was returned, unless memory ran out
abbrev pub Answers : Tree → Result Tree ParseFault → Type 0
Answers t (Ok u) = u ≡ t
Answers t (Err NoMemory) = Unit {0}
Answers t (Err _) = ⊥

-- The tokens were read as a tree of this kind.
pub record Reads (kind : Kind) (names : Names) (tokens : List Token) (result : Result Tree ParseFault) : Type 0 where
  -- what is returned is a tree of the tokens
  pub found : IfOk result (λ t. IsTreeOf kind names tokens t)
  -- it is their only tree, ids included
  pub only : (t : Tree) → IsTreeOf kind names tokens t → opens_of tokens ≤ most_open → Answers t result
  -- if NoTree is returned, they have none
  pub no_tree : result ≡ Err NoTree → (t : Tree) → IsTreeOf kind names tokens t → ⊥
  -- TooDeep is returned exactly if more than 200 brackets are open at once
  pub too_deep : (result ≡ Err TooDeep) ↔ (most_open < opens_of tokens)
