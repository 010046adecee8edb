-- What the items of a text are read as.
use Rattle.std.specs.Prelude.{◌≡◌, ◌<◌, ◌≤◌, ℕ, List, [], ◌∷◌}
use Rattle.c_terms.specs.declared.token.Token.{Token}
use Rattle.c_terms.specs.declared.tree.Tree.{Tree}
use Rattle.c_terms.specs.Names.{listed_names}
use Rattle.c_rows.specs.declared.kind.Kind.TheVariants as kind
use Rattle.c_rows.specs.Look.{Names}
use Rattle.c_rows.specs.Trees.{IsTreeOf}
use Rattle.c_rows.specs.Depth.{opens_of}
use Rattle.c_rows.specs.Limits.{most_open}
use Rattle.c_lexer.specs.Pieces.{TextPiece}
use Rattle.cpp_lines.specs.declared.reading.Item.{Item}
use Rattle.cpp_lines.specs.declared.reading.Item.TheVariants.{Parsed, Skipped}
use Rattle.cpp_lines.specs.declared.reading.Why.TheVariants.{NoTree, TooDeep, TooManyNodes}
use Rattle.cpp_lines.specs.declared.span.ItemSpan.{ItemSpan}
use Rattle.cpp_lines.specs.Shown.{AreShown}
use Rattle.cpp_lines.specs.Visible.{VisibleTokens, signs_of}
use Rattle.cpp_lines.specs.Items.{items_of}
use Rattle.cfg_build.specs.Graphs.{node_count}
use Rattle.c_file.specs.Limits.{most_nodes}
use Rattle.c_file.specs.Tokens.{tokens_in}
use Rattle.c_file.specs.Typedefs.{with_declared}

-- the tree is an item that these tokens spell
abbrev pub Spells : Names → List Token → Tree → Type 0
Spells names tokens t = IsTreeOf kind.External names tokens t

-- the tokens of this span are read as this item under these names
abbrev pub IsReading : Names → List Token → ItemSpan → Item → Type 0
IsReading names tokens span (Parsed t) = (opens_of tokens ≤ most_open) × Spells names tokens t × (node_count t ≤ most_nodes)
IsReading names tokens span (Skipped s TooDeep) = (s ≡ span) × (most_open < opens_of tokens)
IsReading names tokens span (Skipped s NoTree) = (s ≡ span) × (opens_of tokens ≤ most_open) × ((t : Tree) → Spells names tokens t → ⊥)
IsReading names tokens span (Skipped s TooManyNodes) =
    (s ≡ span) × (opens_of tokens ≤ most_open) × (t : Tree) × Spells names tokens t × (most_nodes < node_count t)

-- a skipped item declares nothing
abbrev pub names_after : Names → Item → Names
names_after names (Parsed t) = with_declared names t
names_after names (Skipped span why) = names

-- the items of these spans in order, each under the names that are known there
abbrev pub ReadsFrom : VisibleTokens → Names → List ItemSpan → List Item → Type 0
ReadsFrom v names [] [] = Unit {0}
ReadsFrom v names (span ∷ spans) (item ∷ items) = IsReading names (tokens_in v span) span item × ReadsFrom v (names_after names item) spans items
ReadsFrom v names _ _ = ⊥

-- a text is read as these items
abbrev pub Reads : List TextPiece → List Item → Type 0
Reads pieces items = (shown : List ℕ) × AreShown pieces shown
    × ReadsFrom (record { pieces = pieces; shown = shown }) listed_names (items_of (signs_of (record { pieces = pieces; shown = shown }))) items
