-- The tokens of trees that are read.
use Rattle.std.proofs.Common.{◌≡◌, ◌-◌, ℕ, zero, suc, Bool, true, false, inl, inr, refl, sym, subst, List, [], ◌∷◌, map, take, drop, get_or}
use Rattle.std.specs.Prelude.{Some, All}
use Rattle.std.proofs.lemmas.List.Elements.{All-nil, All-cons}
use Rattle.c_terms.specs.declared.token.TokenKind.{TokenKind}
use Rattle.c_terms.specs.declared.token.TokenKind.TheVariants.{Name, Keyword, Number, Char, Str, Punct, Stray, Meta, Dots, Pat}
use Rattle.c_terms.specs.declared.tree.Tree.{Tree}
use Rattle.c_terms.specs.Trees.{leaves}
use Rattle.c_terms.specs.Names.{listed_names}
use Rattle.c_rows.specs.declared.kind.Kind.TheVariants as kind
use Rattle.c_rows.specs.Look.{Names}
use Rattle.c_rows.proofs.RangeLemmas.{tree_leaves}
use Rattle.c_lexer.specs.declared.piece.PieceKind.{PieceKind}
use Rattle.c_lexer.specs.declared.piece.PieceKind.TheVariants.{Word, Blank, Comment, Line}
use Rattle.c_lexer.specs.Pieces.{TextPiece, text_of}
use Rattle.c_lexer.specs.Lexes.{Cuts, IsFirstPiece}
use Rattle.cpp_lines.specs.declared.reading.Item.{Item}
use Rattle.cpp_lines.specs.declared.reading.Item.TheVariants.{Parsed, Skipped}
use Rattle.cpp_lines.specs.declared.sign.Sign.TheVariants.{Other}
use Rattle.cpp_lines.specs.declared.span.ItemSpan.{ItemSpan}
use Rattle.cpp_lines.specs.Visible.{VisibleTokens, sign_at, signs_of}
use Rattle.cpp_lines.specs.Items.{items_of}
use Rattle.c_file.specs.Tokens.{word_of, token_of, token_at, tokens_in}
use Rattle.c_file.specs.Reads.{Spells, IsReading, ReadsFrom, Reads, names_after}
use Rattle.edit_marks.specs.Plain.{IsCToken, AreCTokens}
use Rattle.edit_unparse.specs.Fair.{is_stray, after_stray}
use Rattle.text_laws.specs.ReadingLaws.Sound.{piece_of, StandsApart, IsSoundItem}
use Rattle.text_laws.proofs.ReadingLaws.Known.{NoStrays, tree_no_strays}
use Rattle.text_laws.proofs.ReadingLaws.Behind.{stray_kind, is_stray_at, is_behind, stray_sign, Follow, shown_follow}
use Rattle.text_laws.proofs.ReadingLaws.Begins.{Begins, AllBegin, all_begin, span_follows}

-- ---- one token

word_c : (k : TokenKind) (id : ℕ) (text rest : List ℕ) → is_stray k ≡ false → IsFirstPiece (record { kind = Word k id; text = text }) rest → IsCToken k text
word_c Name id text rest e h = record { plain = refl; of = h.of_kind }
word_c Keyword id text rest e h = record { plain = refl; of = h.of_kind }
word_c Number id text rest e h = record { plain = refl; of = h.of_kind }
word_c Char id text rest e h = record { plain = refl; of = h.of_kind }
word_c Str id text rest e h = record { plain = refl; of = h.of_kind }
word_c Punct id text rest e h = record { plain = refl; of = h.of_kind }
word_c Stray id text rest e h = absurd cc
word_c (Meta k) id text rest e h = absurd h
word_c Dots id text rest e h = absurd h
word_c Pat id text rest e h = absurd h

piece_c : (k : PieceKind) (text rest : List ℕ) → is_stray (word_of k).0 ≡ false → IsFirstPiece (record { kind = k; text = text }) rest
    → IsCToken (word_of k).0 text
piece_c (Word k id) text rest e h = word_c k id text rest e h
piece_c Blank text rest e h = absurd cc
piece_c Comment text rest e h = absurd cc
piece_c Line text rest e h = absurd cc

token_c : (pieces : List TextPiece) (m : ℕ) → Cuts pieces → is_stray (token_at pieces m).kind ≡ false
    → IsCToken (token_at pieces m).kind (token_at pieces m).text
token_c [] m cuts e = absurd cc
token_c (p ∷ pieces) zero cuts e = piece_c p.kind p.text (text_of pieces) e cuts.0
token_c (p ∷ pieces) (suc m) cuts e = token_c pieces m cuts.1 e

piece_quiet : (k : PieceKind) → is_stray (word_of k).0 ≡ false → stray_kind k ≡ false
piece_quiet (Word k id) e = e
piece_quiet Blank e = refl
piece_quiet Comment e = refl
piece_quiet Line e = refl

token_quiet : (pieces : List TextPiece) (m : ℕ) → is_stray (token_at pieces m).kind ≡ false → is_stray_at pieces m ≡ false
token_quiet [] m e = refl
token_quiet (p ∷ pieces) zero e = piece_quiet p.kind e
token_quiet (p ∷ pieces) (suc m) e = token_quiet pieces m e

piece_is : (k : PieceKind) (text : List ℕ) → is_stray (word_of k).0 ≡ false
    → (let p : TextPiece = record { kind = k; text = text } in p) ≡ piece_of (token_of (Some (record { kind = k; text = text })))
piece_is (Word k id) text e = refl
piece_is Blank text e = absurd cc
piece_is Comment text e = absurd cc
piece_is Line text e = absurd cc

stands : (after : Bool) (pieces : List TextPiece) (m : ℕ) → is_stray (token_at pieces m).kind ≡ false → is_behind after pieces m ≡ false
    → StandsApart after pieces (token_at pieces m)
stands after [] m e b = absurd cc
stands after (p ∷ pieces) zero e b = inl (piece_is p.kind p.text e, b)
stands after (p ∷ pieces) (suc m) e b = inr (stands (after_stray p.kind after) pieces m e b)

-- ---- the tokens of a span

all_c : (pieces : List TextPiece) (ms : List ℕ) → Cuts pieces → NoStrays (map (token_at pieces) ms) → AreCTokens (map (token_at pieces) ms)
all_c pieces [] cuts h = tt
all_c pieces (m ∷ ms) cuts h = (token_c pieces m cuts h.0, all_c pieces ms cuts h.1)

not_behind : (b prev : Bool) → prev ≡ false → (b ≡ true → prev ≡ true) → b ≡ false
not_behind true prev e h = let other : prev ≡ true = h refl in absurd cc
not_behind false prev e h = refl

all_apart : (pieces : List TextPiece) (prev : Bool) (ms : List ℕ) → prev ≡ false → NoStrays (map (token_at pieces) ms)
    → Follow (is_stray_at pieces) (is_behind false pieces) prev ms
    → All (StandsApart false pieces) (map (token_at pieces) ms)
all_apart pieces prev [] e h f = All-nil (StandsApart false pieces)
all_apart pieces prev (m ∷ ms) e h f =
    All-cons (StandsApart false pieces) (token_at pieces m) (map (token_at pieces) ms)
    (stands false pieces m h.0 (not_behind (is_behind false pieces m) prev e f.0))
    (all_apart pieces (is_stray_at pieces m) ms (token_quiet pieces m h.0) h.1 f.1)

module _ (pieces : List TextPiece) (shown : List ℕ) (cuts : Cuts pieces) (f : Follow (is_stray_at pieces) (is_behind false pieces) false shown) where
  abbrev v : VisibleTokens
  v = record { pieces = pieces; shown = shown }

  tree_sound : (names : Names) (span : ItemSpan) (t : Tree) → Begins (λ j. get_or (signs_of v) j Other) span.first → Spells names (tokens_in v span) t
      → IsSoundItem pieces (Parsed t)
  tree_sound names span t b spells =
      let ms = take (span.last - span.first) (drop span.first shown) in
      let same : leaves t ≡ map (token_at pieces) ms = tree_leaves kind.External names (tokens_in v span) t spells in
      let quiet : NoStrays (map (token_at pieces) ms) = tree_no_strays kind.External names (tokens_in v span) t spells in
      let own : Follow (is_stray_at pieces) (is_behind false pieces) false ms =
      span_follows (is_stray_at pieces) (is_behind false pieces) (sign_at pieces) (λ m e. stray_sign pieces m cuts e) shown span f b in
      (subst AreCTokens (sym same) (all_c pieces ms cuts quiet), subst (All (StandsApart false pieces)) (sym same) (all_apart pieces false ms refl quiet own))

  item_sound : (names : Names) (span : ItemSpan) (item : Item) → Begins (λ j. get_or (signs_of v) j Other) span.first
      → IsReading names (tokens_in v span) span item → IsSoundItem pieces item
  item_sound names span (Parsed t) b h = tree_sound names span t b h.1
  item_sound names span (Skipped s why) b h = tt

  items_sound : (names : Names) (spans : List ItemSpan) (items : List Item) → AllBegin (λ j. get_or (signs_of v) j Other) spans
      → ReadsFrom v names spans items → All (IsSoundItem pieces) items
  items_sound names [] [] b h = All-nil (IsSoundItem pieces)
  items_sound names [] (item ∷ items) b h = absurd h
  items_sound names (span ∷ spans) [] b h = absurd h
  items_sound names (span ∷ spans) (item ∷ items) b h =
      All-cons (IsSoundItem pieces) item items (item_sound names span item b.0 h.0) (items_sound (names_after names item) spans items b.1 h.1)

pub sound_items : (pieces : List TextPiece) (items : List Item) → Cuts pieces → Reads pieces items → All (IsSoundItem pieces) items
sound_items pieces items cuts reads =
    let v : VisibleTokens = record { pieces = pieces; shown = reads.0 } in
    items_sound pieces reads.0 cuts (shown_follow pieces reads.0 cuts reads.1) listed_names (items_of (signs_of v)) items (all_begin (signs_of v)) reads.2
