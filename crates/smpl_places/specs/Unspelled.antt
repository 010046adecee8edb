-- The first piece of code that isn't statements.
use Rattle.std.specs.Prelude.{ℕ, ◌≡◌, ◌≤◌, ◌⊎◌, Bool, true, false, List, [], ◌∷◌, Option, Some, None, slice_get, nat_lt, length, take_while}
use Rattle.c_terms.specs.declared.token.Token.{Token}
use Rattle.c_terms.specs.declared.tree.Tree.{Tree}
use Rattle.c_terms.specs.Names.{listed_names}
use Rattle.c_rows.specs.declared.kind.Kind.TheVariants as kind
use Rattle.c_rows.specs.Trees.{IsTreeOf}
use Rattle.c_rows.specs.Depth.{opens_of}
use Rattle.c_rows.specs.Limits.{most_open}
use Rattle.smpl_lexer.specs.declared.text.RuleText.{RuleText}
use Rattle.smpl_lexer.specs.declared.text.PatchText.{PatchText}
use Rattle.smpl_meta.specs.declared.head.RuleHead.{RuleHead}
use Rattle.smpl_meta.specs.declared.patterns.Placed.{Placed}
use Rattle.smpl_meta.specs.Patterns.{pattern_tokens}
use Rattle.smpl_places.specs.declared.pieces.Piece.{Piece}

-- A tree of statements spells the tokens with the listed names of types. They have at most 200 brackets open at once.
pub record AreStatements (tokens : List Token) (t : Tree) : Type 0 where
  pub shallow : opens_of tokens ≤ most_open
  pub spells : IsTreeOf kind.StmtList listed_names tokens t

-- whether the tokens are statements
abbrev pub Tells : Bool → List Token → Type 0
Tells true tokens = (t : Tree) × AreStatements tokens t
Tells false tokens = (t : Tree) → AreStatements tokens t → ⊥

-- the first of the pieces that isn't statements begins here; or each is, and the place is that of all
abbrev pub IsFirstUnspelled : List Piece → ℕ → ℕ → Type 0
IsFirstUnspelled [] all at = at ≡ all
IsFirstUnspelled (p ∷ pieces) all at =
    (Tells false p.tokens × (at ≡ p.at)) ⊎ (Tells true p.tokens × IsFirstUnspelled pieces all at)

-- the number of the first rule that doesn't end before this byte
abbrev pub rule_around : List RuleText → ℕ → ℕ
rule_around rules at = length (take_while (λ (r : RuleText). nat_lt r.end at) rules)

abbrev pub tokens_by : Option RuleText → Option RuleHead → List Placed
tokens_by None h = []
tokens_by (Some r) None = []
tokens_by (Some r) (Some h) = pattern_tokens h.vars r.body

-- the tokens of the patterns of that rule
abbrev pub tokens_around : PatchText → List RuleHead → ℕ → List Placed
tokens_around text heads at = tokens_by (slice_get text.rules (rule_around text.rules at)) (slice_get heads (rule_around text.rules at))
