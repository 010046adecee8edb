-- The ids of the tokens of an item that is read.
-- Proof: an item's tokens are shown pieces, and the numbers of shown pieces increase.
use Rattle.std.proofs.Common.{◌≡◌, ℕ, zero, suc, ◌+◌, ◌-◌, ◌<◌, ◌≤◌, ◌^◌, Bool, true, false, not, ◌&&◌, cond, nat_eq, refl, sym, ap, subst, ◌∙◌, arith}
use Rattle.std.proofs.Common.{inl, inr, true≢false, ne_eqb, List, [], ◌∷◌, map, length, take, drop, Some, slice_get}
use Rattle.std.specs.Prelude.{slice_range}
use Rattle.std.specs.List.{AllByRecursion, IsDistinct}
use Rattle.std.proofs.lemmas.Option.{none-some, same_Some}
use Rattle.c_terms.specs.declared.token.Token.{Token}
use Rattle.c_terms.specs.declared.tree.Tree.{Tree}
use Rattle.c_terms.specs.Trees.{leaves, levels}
use Rattle.c_terms.specs.Names.{listed_names}
use Rattle.c_terms.specs.Places.{Place, parts}
use Rattle.c_terms.specs.Shapes.{is_expression_part}
use Rattle.c_rows.specs.declared.kind.Kind.TheVariants as kind
use Rattle.c_rows.specs.Look.{Names}
use Rattle.c_rows.specs.Limits.{most_levels}
use Rattle.c_rows.specs.Trees.{NoRival}
use Rattle.c_rows.proofs.RangeLemmas.{tree_leaves}
use Rattle.c_lexer.specs.declared.piece.PieceKind.{PieceKind}
use Rattle.c_lexer.specs.declared.piece.PieceKind.TheVariants.{Word, Blank, Comment, Line}
use Rattle.c_lexer.specs.Ids.{ids_of, id_before}
use Rattle.c_lexer.specs.Lexes.{HasId, id_after, Numbered}
use Rattle.c_lexer.specs.Pieces.{TextPiece}
use Rattle.cpp_lines.specs.declared.directive.Directive.{Directive}
use Rattle.cpp_lines.specs.declared.reading.Item.{Item}
use Rattle.cpp_lines.specs.declared.reading.Item.TheVariants.{Parsed}
use Rattle.cpp_lines.specs.declared.sign.Sign.{Sign}
use Rattle.cpp_lines.specs.declared.span.ItemSpan.{ItemSpan}
use Rattle.cpp_lines.specs.Groups.{is_hidden}
use Rattle.cpp_lines.specs.Items.{items_of}
use Rattle.cpp_lines.specs.Rising.{Rise}
use Rattle.cpp_lines.specs.Shown.{is_masked, is_word, shown_from, AreShown}
use Rattle.cpp_lines.specs.Signs.{sign_of}
use Rattle.cpp_lines.specs.Visible.{VisibleTokens, signs_of}
use Rattle.cpp_lines.proofs.Rising.{shown_rise}
use Rattle.c_file.specs.Tokens.{word_of, token_at, tokens_in}
use Rattle.c_file.specs.Reads.{Spells, IsReading, ReadsFrom, Reads, names_after}
use Rattle.c_typing.proofs.FoldLemmas.{map-map}
use Rattle.type_laws.specs.Places.{ids}
use Rattle.type_laws.proofs.IdLemmas.{IsAmong, Differs, differs}
use Rattle.type_laws.proofs.TokenLemmas.{part_tokens}

-- ---- ids that count up

above : (k : PieceKind) (n low : ℕ) (rest : List ℕ) → HasId k n → low ≤ n → AllByRecursion (λ id. low ≤ id) rest
    → AllByRecursion (λ id. low ≤ id) (id_before k rest)
above (Word kind id) n low rest h le g = (omega (arith, h, le), g)
above Blank n low rest h le g = g
above Comment n low rest h le g = g
above Line n low rest h le g = g

after_above : (k : PieceKind) (n low : ℕ) → low ≤ n → low ≤ id_after k n
after_above (Word kind id) n low le = omega (arith, le)
after_above Blank n low le = le
after_above Comment n low le = le
after_above Line n low le = le

numbered_above : (n low : ℕ) (pieces : List TextPiece) → Numbered n pieces → low ≤ n → AllByRecursion (λ id. low ≤ id) (ids_of pieces)
numbered_above n low [] h le = tt
numbered_above n low (p ∷ pieces) h le =
    above p.kind n low (ids_of pieces) h.0 le (numbered_above (id_after p.kind n) low pieces h.1 (after_above p.kind n low le))

larger : (id n : ℕ) (rest : List ℕ) → id ≡ n → AllByRecursion (λ other. n + 1 ≤ other) rest → AllByRecursion (Differs id) rest
larger id n [] e h = tt
larger id n (x ∷ rest) e h =
    let le : n + 1 ≤ x = h.0 in (ne_eqb id x (λ f. let never : ⊥ = omega (arith, e, f, le) in never), larger id n rest e h.1)

first_differs : (k : PieceKind) (n : ℕ) (rest : List ℕ) → HasId k n → AllByRecursion (λ id. id_after k n ≤ id) rest → IsDistinct nat_eq rest
    → IsDistinct nat_eq (id_before k rest)
unfolding IsDistinct
first_differs (Word kind id) n rest h low d = (larger id n rest h low, d)
first_differs Blank n rest h low d = d
first_differs Comment n rest h low d = d
first_differs Line n rest h low d = d

none_twice : IsDistinct nat_eq []
unfolding IsDistinct
none_twice = tt

le_self : (n : ℕ) → n ≤ n
le_self n = omega arith

pub numbered_distinct : (next : ℕ) (pieces : List TextPiece) → Numbered next pieces → IsDistinct nat_eq (ids_of pieces)
numbered_distinct next [] h = none_twice
numbered_distinct next (p ∷ pieces) h =
    first_differs p.kind next (ids_of pieces) h.0
    (numbered_above (id_after p.kind next) (id_after p.kind next) pieces h.1 (le_self (id_after p.kind next)))
    (numbered_distinct (id_after p.kind next) pieces h.1)

-- ---- tokens by their numbers

abbrev id_at : List TextPiece → ℕ → ℕ
id_at pieces m = (token_at pieces m).id

-- the piece of this number is a token
abbrev IsWordAt : List TextPiece → ℕ → Type 0
IsWordAt [] m = ⊥
IsWordAt (p ∷ pieces) zero = is_word p.kind ≡ true
IsWordAt (p ∷ pieces) (suc m) = IsWordAt pieces m

first-among : (k : PieceKind) (rest : List ℕ) → is_word k ≡ true → IsAmong (word_of k).1 (id_before k rest)
first-among (Word kind id) rest h = inl refl
first-among Blank rest h = absurd (true≢false (sym h))
first-among Comment rest h = absurd (true≢false (sym h))
first-among Line rest h = absurd (true≢false (sym h))

later-among : (x : ℕ) (k : PieceKind) (rest : List ℕ) → IsAmong x rest → IsAmong x (id_before k rest)
later-among x (Word kind id) rest h = inr h
later-among x Blank rest h = h
later-among x Comment rest h = h
later-among x Line rest h = h

word-among : (pieces : List TextPiece) (m : ℕ) → IsWordAt pieces m → IsAmong (id_at pieces m) (ids_of pieces)
word-among [] m h = absurd h
word-among (p ∷ pieces) zero h = first-among p.kind (ids_of pieces) h
word-among (p ∷ pieces) (suc m) h = later-among (id_at pieces m) p.kind (ids_of pieces) (word-among pieces m h)

rest-distinct : (k : PieceKind) (rest : List ℕ) → IsDistinct nat_eq (id_before k rest) → IsDistinct nat_eq rest
unfolding IsDistinct
rest-distinct (Word kind id) rest d = d.1
rest-distinct Blank rest d = d
rest-distinct Comment rest d = d
rest-distinct Line rest d = d

first-apart : (k : PieceKind) (rest : List ℕ) (x : ℕ) → IsDistinct nat_eq (id_before k rest) → is_word k ≡ true → IsAmong x rest → Differs (word_of k).1 x
unfolding IsDistinct
first-apart (Word kind id) rest x d h g = differs id x rest d.0 g
first-apart Blank rest x d h g = absurd (true≢false (sym h))
first-apart Comment rest x d h g = absurd (true≢false (sym h))
first-apart Line rest x d h g = absurd (true≢false (sym h))

two-apart : (pieces : List TextPiece) (m n : ℕ) → IsDistinct nat_eq (ids_of pieces) → m < n → IsWordAt pieces m → IsWordAt pieces n
    → Differs (id_at pieces m) (id_at pieces n)
two-apart [] m n d l g h = absurd g
two-apart (p ∷ pieces) m zero d l g h = absurd (omega (arith, l))
two-apart (p ∷ pieces) zero (suc n) d l g h = first-apart p.kind (ids_of pieces) (id_at pieces n) d g (word-among pieces n h)
two-apart (p ∷ pieces) (suc m) (suc n) d l g h = two-apart pieces m n (rest-distinct p.kind (ids_of pieces) d) (omega (arith, l)) g h

module _ (pieces : List TextPiece) (distinct : IsDistinct nat_eq (ids_of pieces)) where
  all-apart : (m from : ℕ) (ms : List ℕ) (to : ℕ) → m < from → Rise from ms to → IsWordAt pieces m → AllByRecursion (IsWordAt pieces) ms
      → AllByRecursion (Differs (id_at pieces m)) (map (id_at pieces) ms)
  all-apart m from [] to l r w ws = tt
  all-apart m from (n ∷ ms) to l r w ws =
      let le : from ≤ n = r.0 in
      (two-apart pieces m n distinct (omega (arith, l, le)) w ws.0, all-apart m (n + 1) ms to (omega (arith, l, le)) r.1.1 w ws.1)

  shown-distinct : (from : ℕ) (ms : List ℕ) (to : ℕ) → Rise from ms to → AllByRecursion (IsWordAt pieces) ms → IsDistinct nat_eq (map (id_at pieces) ms)
  unfolding IsDistinct
  shown-distinct from [] to r ws = tt
  shown-distinct from (m ∷ ms) to r ws =
      (all-apart m (m + 1) ms to (omega arith) r.1.1 ws.0 ws.1, shown-distinct (m + 1) ms to r.1.1 ws.1)

-- ---- shown pieces are tokens

picked : (P : ℕ → Type 0) (word seen masked : Bool) (n : ℕ) (xs ys : List ℕ) → (word ≡ true → P n) → AllByRecursion P xs → AllByRecursion P ys
    → AllByRecursion P (cond (word && seen) (cond masked xs (n ∷ xs)) ys)
picked P true true true n xs ys h f g = f
picked P true true false n xs ys h f g = (h refl, f)
picked P true false masked n xs ys h f g = g
picked P false seen masked n xs ys h f g = g

shown_words : (all : List TextPiece) (lines : List Directive) (tokens : List Sign) (number : ℕ) (pieces : List TextPiece) (ds : List Directive)
    → ((i : ℕ) → IsWordAt pieces i → IsWordAt all (number + i)) → AllByRecursion (IsWordAt all) (shown_from lines tokens number pieces ds)
shown_words all lines tokens number [] ds h = tt
shown_words all lines tokens number (p ∷ pieces) [] h = tt
shown_words all lines tokens number (p ∷ pieces) (d ∷ ds) h =
    let here : is_word p.kind ≡ true → IsWordAt all number =
    λ w. let same : number + 0 ≡ number = omega arith in subst (IsWordAt all) same (h 0 w) in
    let later : (i : ℕ) → IsWordAt pieces i → IsWordAt all (number + 1 + i) =
    λ i w. let same : number + suc i ≡ number + 1 + i = omega arith in subst (IsWordAt all) same (h (suc i) w) in
    picked (IsWordAt all) (is_word p.kind) (not (is_hidden 0 0 lines)) (is_masked (sign_of p.text) tokens) number
    (shown_from (d ∷ lines) (sign_of p.text ∷ tokens) (number + 1) pieces ds) (shown_from (d ∷ lines) tokens (number + 1) pieces ds) here
    (shown_words all (d ∷ lines) (sign_of p.text ∷ tokens) (number + 1) pieces ds later)
    (shown_words all (d ∷ lines) tokens (number + 1) pieces ds later)

all_words : (pieces : List TextPiece) (shown : List ℕ) → AreShown pieces shown → AllByRecursion (IsWordAt pieces) shown
all_words pieces shown are =
    subst (AllByRecursion (IsWordAt pieces)) (sym are.1.1)
    (shown_words pieces [] [] 0 pieces are.0 (λ i w. let same : i ≡ 0 + i = omega arith in subst (IsWordAt pieces) same w))

-- ---- the tokens of an item

module _ (f : ℕ → ℕ) where
  without-first : (j : ℕ) (ms : List ℕ) → IsDistinct nat_eq (map f ms) → IsDistinct nat_eq (map f (drop j ms))
  unfolding IsDistinct
  without-first zero ms d = d
  without-first (suc j) [] d = tt
  without-first (suc j) (m ∷ ms) d = without-first j ms d.1

  fewer : (z k : ℕ) (ms : List ℕ) → AllByRecursion (Differs z) (map f ms) → AllByRecursion (Differs z) (map f (take k ms))
  fewer z zero ms a = tt
  fewer z (suc k) [] a = tt
  fewer z (suc k) (m ∷ ms) a = (a.0, fewer z k ms a.1)

  first-few : (k : ℕ) (ms : List ℕ) → IsDistinct nat_eq (map f ms) → IsDistinct nat_eq (map f (take k ms))
  unfolding IsDistinct
  first-few zero ms d = tt
  first-few (suc k) [] d = tt
  first-few (suc k) (m ∷ ms) d = (fewer (f m) k ms d.0, first-few k ms d.1)

-- the tokens and the names with which an item was read
item_spelled : (v : VisibleTokens) (names : Names) (spans : List ItemSpan) (items : List Item) → ReadsFrom v names spans items
    → (k : ℕ) (t : Tree) → slice_get items k ≡ Some (Parsed t) → (P : Type 0)
    → ((known : Names) (span : ItemSpan) → Spells known (tokens_in v span) t → P) → P
item_spelled v names [] [] r k t e P f = absurd (none-some (Parsed t) e)
item_spelled v names [] (item ∷ items) r k t e P f = absurd r
item_spelled v names (span ∷ spans) [] r k t e P f = absurd (none-some (Parsed t) e)
item_spelled v names (span ∷ spans) (item ∷ items) r zero t e P f =
    let reading : IsReading names (tokens_in v span) span (Parsed t) =
    subst (IsReading names (tokens_in v span) span) (same_Some item (Parsed t) e) r.0 in
    f names span reading.1
item_spelled v names (span ∷ spans) (item ∷ items) r (suc k) t e P f = item_spelled v (names_after names item) spans items r.1 k t e P f

abbrev seen : List TextPiece → List ℕ → VisibleTokens
seen pieces shown = record { pieces = pieces; shown = shown }

pub item_ids : (pieces : List TextPiece) (items : List Item) (k : ℕ) (t : Tree) → IsDistinct nat_eq (ids_of pieces) → Reads pieces items
    → slice_get items k ≡ Some (Parsed t) → IsDistinct nat_eq (ids t)
item_ids pieces items k t d r e =
    let all : IsDistinct nat_eq (map (id_at pieces) r.0) =
    shown-distinct pieces d 0 r.0 (length pieces) (shown_rise pieces r.0 r.1) (all_words pieces r.0 r.1) in
    item_spelled (seen pieces r.0) listed_names (items_of (signs_of (seen pieces r.0))) items r.2 k t e (IsDistinct nat_eq (ids t))
    (λ names span h.
    let part : IsDistinct nat_eq (map (id_at pieces) (slice_range r.0 span.first span.last)) =
    first-few (id_at pieces) (span.last - span.first) (drop span.first r.0) (without-first (id_at pieces) span.first r.0 all) in
    let same : leaves t ≡ map (token_at pieces) (slice_range r.0 span.first span.last) =
    tree_leaves kind.External names (tokens_in (seen pieces r.0) span) t h in
    let listed : ids t ≡ map (id_at pieces) (slice_range r.0 span.first span.last) =
    ap (map (λ (a : Token). a.id)) same ∙ map-map (token_at pieces) (λ (a : Token). a.id) (slice_range r.0 span.first span.last) in
    subst (IsDistinct nat_eq) (sym listed) part)

pub item_tokens : (pieces : List TextPiece) (items : List Item) (k : ℕ) (t : Tree) (j : ℕ) (p : Place) → Reads pieces items
    → slice_get items k ≡ Some (Parsed t) → slice_get (parts is_expression_part t) j ≡ Some p → 0 < length (leaves p.tree)
item_tokens pieces items k t j p r e f =
    item_spelled (seen pieces r.0) listed_names (items_of (signs_of (seen pieces r.0))) items r.2 k t e (0 < length (leaves p.tree))
    (λ names span h. part_tokens names (NoRival names (length (tokens_in (seen pieces r.0) span))) h.derived j p f)

few : (n : ℕ) → n ≤ most_levels → n < 2 ^ 64
few n le = omega (arith, le)

pub item_levels : (pieces : List TextPiece) (items : List Item) (k : ℕ) (t : Tree) → Reads pieces items
    → slice_get items k ≡ Some (Parsed t) → levels t < 2 ^ 64
item_levels pieces items k t r e =
    item_spelled (seen pieces r.0) listed_names (items_of (signs_of (seen pieces r.0))) items r.2 k t e (levels t < 2 ^ 64)
    (λ names span h. few (levels t) h.shallow)
