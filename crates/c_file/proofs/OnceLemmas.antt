-- A text is read in one way.
use Rattle.std.proofs.Common.{◌≡◌, ◌≤◌, ◌<◌, ℕ, refl, sym, ap, ◌∙◌, arith, subst, List, [], ◌∷◌}
use Rattle.c_terms.specs.declared.token.Token.{Token}
use Rattle.c_terms.specs.declared.tree.Tree.{Tree}
use Rattle.c_terms.specs.Names.{listed_names}
use Rattle.c_rows.specs.Look.{Names}
use Rattle.c_rows.specs.Depth.{opens_of}
use Rattle.c_lexer.specs.Pieces.{TextPiece}
use Rattle.cpp_lines.specs.declared.reading.Item.{Item}
use Rattle.cpp_lines.specs.declared.reading.Item.TheVariants.{Parsed, Skipped}
use Rattle.cpp_lines.specs.declared.reading.Why.{Why}
use Rattle.cpp_lines.specs.declared.reading.Why.TheVariants.{NoTree, TooDeep, TooManyNodes}
use Rattle.cpp_lines.specs.declared.span.ItemSpan.{ItemSpan}
use Rattle.cpp_lines.specs.Shown.{AreShown}
use Rattle.cpp_lines.specs.Visible.{VisibleTokens, signs_of}
use Rattle.cpp_lines.specs.Items.{items_of}
use Rattle.cfg_build.specs.Graphs.{node_count}
use Rattle.c_file.specs.Tokens.{tokens_in}
use Rattle.c_file.specs.Reads.{Spells, IsReading, ReadsFrom, Reads, names_after}

-- tokens have one tree
abbrev pub HaveOneTree : Type 0
HaveOneTree = (names : Names) (tokens : List Token) (t u : Tree) → Spells names tokens t → Spells names tokens u → t ≡ u

abbrev pub ShowOnce : Type 0
ShowOnce = (pieces : List TextPiece) (left right : List ℕ) → AreShown pieces left → AreShown pieces right → left ≡ right

clash : (m n : ℕ) → n ≤ m → m < n → ⊥
clash m n le lt = omega (arith, le, lt)

counts-clash : (t u : Tree) → t ≡ u → node_count t ≤ 20000 → 20000 < node_count u → ⊥
counts-clash t u e le lt = clash 20000 (node_count u) (subst (λ (x : Tree). node_count x ≤ 20000) e le) lt

skipped-once : (s r span : ItemSpan) (why : Why) → s ≡ span → r ≡ span → Skipped s why ≡ Skipped r why
skipped-once s r span why h g = ap (λ (x : ItemSpan). Skipped x why) (h ∙ sym g)

reading-once : HaveOneTree → (names : Names) (tokens : List Token) (span : ItemSpan) (a b : Item)
    → IsReading names tokens span a → IsReading names tokens span b → a ≡ b
reading-once one names tokens span (Parsed t) (Parsed u) h g = ap (λ (x : Tree). Parsed x) (one names tokens t u h.1 g.1)
reading-once one names tokens span (Parsed t) (Skipped r TooDeep) h g = absurd (clash 200 (opens_of tokens) h.0 g.1)
reading-once one names tokens span (Parsed t) (Skipped r NoTree) h g = absurd (g.2 t h.1)
reading-once one names tokens span (Parsed t) (Skipped r TooManyNodes) h g = absurd (counts-clash t g.2 (one names tokens t g.2 h.1 g.3) h.2 g.4)
reading-once one names tokens span (Skipped s TooDeep) (Parsed u) h g = absurd (clash 200 (opens_of tokens) g.0 h.1)
reading-once one names tokens span (Skipped s TooDeep) (Skipped r TooDeep) h g = skipped-once s r span TooDeep h.0 g.0
reading-once one names tokens span (Skipped s TooDeep) (Skipped r NoTree) h g = absurd (clash 200 (opens_of tokens) g.1 h.1)
reading-once one names tokens span (Skipped s TooDeep) (Skipped r TooManyNodes) h g = absurd (clash 200 (opens_of tokens) g.1 h.1)
reading-once one names tokens span (Skipped s NoTree) (Parsed u) h g = absurd (h.2 u g.1)
reading-once one names tokens span (Skipped s NoTree) (Skipped r TooDeep) h g = absurd (clash 200 (opens_of tokens) h.1 g.1)
reading-once one names tokens span (Skipped s NoTree) (Skipped r NoTree) h g = skipped-once s r span NoTree h.0 g.0
reading-once one names tokens span (Skipped s NoTree) (Skipped r TooManyNodes) h g = absurd (h.2 g.2 g.3)
reading-once one names tokens span (Skipped s TooManyNodes) (Parsed u) h g = absurd (counts-clash u h.2 (one names tokens u h.2 g.1 h.3) g.2 h.4)
reading-once one names tokens span (Skipped s TooManyNodes) (Skipped r TooDeep) h g = absurd (clash 200 (opens_of tokens) h.1 g.1)
reading-once one names tokens span (Skipped s TooManyNodes) (Skipped r NoTree) h g = absurd (g.2 h.2 h.3)
reading-once one names tokens span (Skipped s TooManyNodes) (Skipped r TooManyNodes) h g = skipped-once s r span TooManyNodes h.0 g.0

from-once : HaveOneTree → (v : VisibleTokens) (names : Names) (spans : List ItemSpan) (left right : List Item)
    → ReadsFrom v names spans left → ReadsFrom v names spans right → left ≡ right
from-once one v names [] [] [] h g = refl
from-once one v names [] [] (b ∷ right) h g = absurd g
from-once one v names [] (a ∷ left) right h g = absurd h
from-once one v names (s ∷ spans) [] right h g = absurd h
from-once one v names (s ∷ spans) (a ∷ left) [] h g = absurd g
from-once one v names (s ∷ spans) (a ∷ left) (b ∷ right) h g =
    let e : a ≡ b = reading-once one names (tokens_in v s) s a b h.0 g.0 in
    let later : ReadsFrom v (names_after names a) spans right = subst (λ (x : Item). ReadsFrom v (names_after names x) spans right) (sym e) g.1 in
    ap (λ (x : Item). x ∷ left) e ∙ ap (λ (xs : List Item). b ∷ xs) (from-once one v (names_after names a) spans left right h.1 later)

pub once : ShowOnce → HaveOneTree → (pieces : List TextPiece) (left right : List Item) → Reads pieces left → Reads pieces right → left ≡ right
once shows one pieces left right h g =
    let e : h.0 ≡ g.0 = shows pieces h.0 g.0 h.1 g.1 in
    let same : ReadsFrom (record { pieces = pieces; shown = g.0 }) listed_names (items_of (signs_of (record { pieces = pieces; shown = g.0 }))) left =
    subst (λ (s : List ℕ). ReadsFrom (record { pieces = pieces; shown = s }) listed_names
    (items_of (signs_of (record { pieces = pieces; shown = s }))) left) e h.2 in
    from-once one (record { pieces = pieces; shown = g.0 }) listed_names (items_of (signs_of (record { pieces = pieces; shown = g.0 }))) left right same g.2
