-- It is impossible that pieces can't be read as items.
use Rattle.std.proofs.Common.{◌≤◌, ◌<◌, ◌⊎◌, ℕ, inl, inr, refl, arith, List, [], ◌∷◌, drop}
use Rattle.c_terms.specs.declared.token.Token.{Token}
use Rattle.c_terms.specs.declared.tree.Tree.{Tree}
use Rattle.c_terms.specs.Names.{listed_names}
use Rattle.c_rows.specs.Look.{Names}
use Rattle.c_rows.specs.Depth.{opens_of}
use Rattle.c_rows.specs.Limits.{most_open}
use Rattle.c_lexer.specs.declared.piece.PieceKind.{PieceKind}
use Rattle.c_lexer.specs.declared.piece.PieceKind.TheVariants.{Word, Blank, Comment, Line}
use Rattle.c_lexer.specs.Pieces.{TextPiece}
use Rattle.c_lexer.specs.Lexes.{Lexes}
use Rattle.cpp_lines.specs.declared.directive.Directive.{Directive}
use Rattle.cpp_lines.specs.declared.directive.Directive.TheVariants.{Other}
use Rattle.cpp_lines.specs.declared.reading.Item.{Item}
use Rattle.cpp_lines.specs.declared.reading.Item.TheVariants.{Parsed, Skipped}
use Rattle.cpp_lines.specs.declared.reading.Why.TheVariants.{NoTree, TooDeep, TooManyNodes}
use Rattle.cpp_lines.specs.declared.span.ItemSpan.{ItemSpan}
use Rattle.cpp_lines.specs.Directives.{words_of, directive_of, Directs, AreDirectives}
use Rattle.cpp_lines.specs.Shown.{shown_from}
use Rattle.cpp_lines.specs.Visible.{VisibleTokens, signs_of}
use Rattle.cpp_lines.specs.Items.{items_of}
use Rattle.cfg_build.specs.Graphs.{node_count}
use Rattle.c_file.specs.Limits.{most_nodes}
use Rattle.c_file.specs.Tokens.{tokens_in}
use Rattle.c_file.specs.Reads.{Spells, IsReading, ReadsFrom, Reads, names_after}
use Rattle.text_laws.specs.ChainTotal.Weakly.{Weakly}

pub order : (m n : ℕ) → (m ≤ n) ⊎ (n < m)
order m n = grind arith

-- ---- one item

module _ (names : Names) (tokens : List Token) (span : ItemSpan) (absent : ((item : Item) × IsReading names tokens span item) → ⊥) where
  tree_by : opens_of tokens ≤ most_open → (t : Tree) → Spells names tokens t → ((node_count t ≤ most_nodes) ⊎ (most_nodes < node_count t)) → ⊥
  tree_by few t spells (inl small) = absent (Parsed t, (few, spells, small))
  tree_by few t spells (inr large) = absent (Skipped span TooManyNodes, (refl, few, t, spells, large))

  depth_by : ((opens_of tokens ≤ most_open) ⊎ (most_open < opens_of tokens)) → ⊥
  depth_by (inl few) = absent (Skipped span NoTree, (refl, few, λ t spells. tree_by few t spells (order (node_count t) most_nodes)))
  depth_by (inr deep) = absent (Skipped span TooDeep, (refl, deep))

item_some : (names : Names) (tokens : List Token) (span : ItemSpan) → Weakly ((item : Item) × IsReading names tokens span item)
item_some names tokens span = λ absent. depth_by names tokens span absent (order (opens_of tokens) most_open)

-- ---- all items

items_some : (v : VisibleTokens) (names : Names) (spans : List ItemSpan) → Weakly ((items : List Item) × ReadsFrom v names spans items)
items_some v names [] = λ absent. absent ([], tt)
items_some v names (span ∷ spans) = λ absent.
    item_some names (tokens_in v span) span
    (λ one. items_some v (names_after names one.0) spans (λ rest. absent (one.0 ∷ rest.0, (one.1, rest.1))))

-- ---- what is shown

abbrev pub CutLaw : Type 0
CutLaw = (bytes : List ℕ) → (pieces : List TextPiece) × Lexes bytes pieces

module _ (law : CutLaw) where
  directs : (k : PieceKind) (text : List ℕ) → (d : Directive) × Directs k text d
  directs Line text = let cut = law (drop 1 text) in (directive_of (words_of cut.0), (cut.0, (cut.1.1.0, (cut.1.0, refl))))
  directs (Word kind id) text = (Other, refl)
  directs Blank text = (Other, refl)
  directs Comment text = (Other, refl)

  directives : (pieces : List TextPiece) → (ds : List Directive) × AreDirectives pieces ds
  directives [] = ([], tt)
  directives (p ∷ pieces) = let one = directs p.kind p.text in let rest = directives pieces in (one.0 ∷ rest.0, (one.1, rest.1))

  pub reads_some : (pieces : List TextPiece) → Weakly ((items : List Item) × Reads pieces items)
  reads_some pieces = λ absent.
      let ds = directives pieces in
      let shown : List ℕ = shown_from [] [] 0 pieces ds.0 in
      let v : VisibleTokens = record { pieces = pieces; shown = shown } in
      items_some v listed_names (items_of (signs_of v)) (λ rest. absent (rest.0, (shown, (ds.0, (ds.1, refl)), rest.1)))
