-- The parts and the bytes of lines at the places of pieces, one piece after another.
use Rattle.std.proofs.Common.{◌≡◌, ◌<◌, ◌≤◌, ◌+◌, ◌-◌, ◌==◌, ◌&&◌, ◌||◌, ℕ, zero, suc, Bool, true, false, not, refl, sym, ap, ◌∙◌, arith}
use Rattle.std.proofs.Common.{List, [], ◌∷◌, ◌++◌, append_assoc, length, length-append, get_or, take, drop, fold}
use Rattle.std.specs.Prelude.{Some, slice_get, nat_lt, if◌then◌else◌}
use Rattle.std.specs.List.{list_any, range_with_len}
use Rattle.std.proofs.lemmas.Bool.Decides.{nat_tests}
use Rattle.std.proofs.lemmas.List.{append-nil, drop-drop, drop_all}
use Rattle.c_lexer.specs.declared.piece.PieceKind.{PieceKind}
use Rattle.c_lexer.specs.declared.piece.PieceKind.TheVariants.{Word, Blank, Comment, Line}
use Rattle.c_lexer.specs.Pieces.{TextPiece}
use Rattle.c_lexer.specs.Lexes.{id_after}
use Rattle.tidy_flags.specs.declared.lines.LineByte.{LineByte}
use Rattle.edit_unparse.specs.declared.tidy.parts.Brace.{Brace}
use Rattle.edit_unparse.specs.Output.{Part, added, kept}
use Rattle.edit_unparse.specs.declared.tidy.commas.CommaList.{CommaList}
use Rattle.edit_unparse.specs.Tidy.Commas.{with_list}
use Rattle.tidy_flags.specs.Lines.{blank_bytes, emptied, left_of_lines, removed_bytes, solid_bytes}
use Rattle.edit_unparse.specs.Tidy.Text.{Placement, braces_at, bytes_at, changes, has_insert, is_touched, line_bytes, stays, tidy_parts, tidy_placed}
use Rattle.edit_unparse.specs.Tidy.Text.{token_piece, token_pieces, unless_empty, with_braces, with_commas}
use Rattle.edit_unparse.proofs.MadeLemmas.{parts_more, there}

abbrev pub piece_in : List ℕ → PieceKind → ℕ → ℕ → TextPiece
piece_in bytes kind s e = record { kind = kind; text = take (e - s) (drop s bytes) }

-- the number of the next token
pub at_most_next : (k : PieceKind) (t : ℕ) → id_after k t ≤ t + 1
at_most_next (Word kind id) t = omega arith
at_most_next Blank t = omega arith
at_most_next Comment t = omega arith
at_most_next Line t = omega arith

-- one piece more of the bytes of lines
pub bytes_more : (at : Placement) (pieces : List TextPiece) (i t u : ℕ) (p : TextPiece) (old new all : List LineByte) → slice_get pieces i ≡ Some p
    → new ≡ old ++ bytes_at at p.kind t p.text → u ≡ id_after p.kind t → old ++ line_bytes at t (drop i pieces) ≡ all
    → new ++ line_bytes at u (drop (i + 1) pieces) ≡ all
bytes_more at pieces i t u p old new all here is next before =
    (λ j. is j ++ line_bytes at (next j) (drop (i + 1) pieces))
    ∙ append_assoc old (bytes_at at p.kind t p.text) (line_bytes at (id_after p.kind t) (drop (i + 1) pieces))
    ∙ ap (λ (l : List TextPiece). old ++ line_bytes at t l) (sym (there pieces i p here))
    ∙ before

pub bytes_end : (at : Placement) (pieces : List TextPiece) (i t : ℕ) (old all : List LineByte) → length pieces ≤ i
    → old ++ line_bytes at t (drop i pieces) ≡ all → old ≡ all
bytes_end at pieces i t old all past before =
    sym (append-nil old) ∙ ap (λ (l : List TextPiece). old ++ line_bytes at t l) (sym (drop_all i pieces past)) ∙ before

-- one piece more of the parts
module _ (at : Placement) (braces : List Brace) (flags : List Bool) (pieces : List TextPiece) where
  abbrev rest : ℕ → ℕ → ℕ → List Part
  rest from t i = tidy_placed at added braces (drop from flags) t i (drop i pieces)

  pub placed_more : (from to i t u : ℕ) (p : TextPiece) (old new all : List Part) → slice_get pieces i ≡ Some p
      → new ≡ old ++ tidy_parts at added braces p.kind (drop from flags) t i p → to ≡ from + length (bytes_at at p.kind t p.text) → u ≡ id_after p.kind t
      → old ++ rest from t i ≡ all → new ++ rest to u (i + 1) ≡ all
  placed_more from to i t u p old new all here is place next before =
      let own = tidy_parts at added braces p.kind (drop from flags) t i p in
      let skipped : drop (length (bytes_at at p.kind t p.text)) (drop from flags) ≡ drop to flags =
      drop-drop (length (bytes_at at p.kind t p.text)) from flags ∙ ap (λ (k : ℕ). drop k flags) (sym place) in
      parts_more old new all own (rest from t i) (rest to u (i + 1)) is
      (ap (tidy_placed at added braces (drop from flags) t i) (there pieces i p here)
      ∙ (λ j. own ++ tidy_placed at added braces (skipped j) (sym next j) (i + 1) (drop (i + 1) pieces)))
      before

  pub placed_end : (from i t : ℕ) (old all : List Part) → length pieces ≤ i → old ++ rest from t i ≡ all → old ≡ all
  placed_end from i t old all past before =
      sym (append-nil old) ∙ ap (λ (l : List TextPiece). old ++ tidy_placed at added braces (drop from flags) t i l) (sym (drop_all i pieces past)) ∙ before

-- two that say the same of the tokens have the same parts

after_token : (k : PieceKind) (t i : ℕ) → id_after k t ≡ t + length (token_piece k i)
after_token (Word kind id) t i = omega arith
after_token Blank t i = omega arith
after_token Comment t i = omega arith
after_token Line t i = omega arith

fewer : (k : PieceKind) (pieces : List TextPiece) (t i count : ℕ) → t + length (token_piece k i ++ token_pieces (i + 1) pieces) ≤ count
    → (t + length (token_piece k i) ≤ count) × (id_after k t + length (token_pieces (i + 1) pieces) ≤ count)
fewer k pieces t i count fits =
    let both = length-append (token_piece k i) (token_pieces (i + 1) pieces) in
    let own = after_token k t i in
    (omega arith, omega arith)

abbrev some_length : ℕ → ℕ → Bool
some_length m n = not (m == 0) || not (n == 0)

any_range : (f g : ℕ → Bool) (from n : ℕ) → ((k : ℕ) → from ≤ k → k < from + n → f k ≡ g k)
    → list_any f (range_with_len from n) ≡ list_any g (range_with_len from n)
any_range f g from zero same = refl
any_range f g from (suc n) same =
    λ i. same from (omega arith) (omega arith) i || any_range f g (from + 1) n (λ k low high. same k (omega arith) (omega arith)) i

-- two say the same of the first tokens, of which there are this many
pub record Agree (count : ℕ) (a b : Placement) : Type 0 where
  pub goes : (n : ℕ) → n < count → a.goes n ≡ b.goes n
  pub joined : (n : ℕ) → a.joined n ≡ b.joined n
  pub before : (n : ℕ) → n < count → a.before n ≡ b.before n
  pub after : (n : ℕ) → n < count → a.after n ≡ b.after n

module _ (a b : Placement) (count : ℕ) (agree : Agree count a b) where
  same_insert : (t : ℕ) → t < count → has_insert a t ≡ has_insert b t
  same_insert t less = λ i. some_length (length (agree.before t less i)) (length (agree.after t less i))

  same_bytes : (k : PieceKind) (t i : ℕ) (text : List ℕ) → t + length (token_piece k i) ≤ count → bytes_at a k t text ≡ bytes_at b k t text
  same_bytes (Word kind id) t i text fits =
      let less : t < count = omega arith in
      λ j. if agree.goes t less j then removed_bytes (same_insert t less j) text else solid_bytes text
  same_bytes Blank t i text fits = λ j. if agree.joined t j then [] else blank_bytes text
  same_bytes Comment t i text fits = refl
  same_bytes Line t i text fits = refl

  pub same_lines : (pieces : List TextPiece) (t i : ℕ) → t + length (token_pieces i pieces) ≤ count → line_bytes a t pieces ≡ line_bytes b t pieces
  same_lines [] t i fits = refl
  same_lines (p ∷ pieces) t i fits =
      let few = fewer p.kind pieces t i count fits in
      λ j. same_bytes p.kind t i p.text few.0 j ++ same_lines pieces (id_after p.kind t) (i + 1) few.1 j

  same_parts : (braces : List Brace) (k : PieceKind) (flags : List Bool) (t i : ℕ) (p : TextPiece) → t + length (token_piece k i) ≤ count
      → tidy_parts a added braces k flags t i p ≡ tidy_parts b added braces k flags t i p
  same_parts braces (Word kind id) flags t i p fits =
      let less : t < count = omega arith in
      λ j. added (with_braces (braces_at braces t false) (agree.before t less j))
      ++ (kept (agree.goes t less j) i p ++ added (with_braces (braces_at braces t true) (agree.after t less j)))
  same_parts braces Blank flags t i p fits = λ j. if agree.joined t j then [] else unless_empty i Blank (left_of_lines flags p.text)
  same_parts braces Comment flags t i p fits = refl
  same_parts braces Line flags t i p fits = refl

  pub same_placed : (braces : List Brace) (pieces : List TextPiece) (flags : List Bool) (t i : ℕ) → t + length (token_pieces i pieces) ≤ count
      → tidy_placed a added braces flags t i pieces ≡ tidy_placed b added braces flags t i pieces
  same_placed braces [] flags t i fits = refl
  same_placed braces (p ∷ pieces) flags t i fits =
      let few = fewer p.kind pieces t i count fits in
      (λ j. same_parts braces p.kind flags t i p few.0 j
      ++ tidy_placed a added braces (drop (length (same_bytes p.kind t i p.text few.0 j)) flags) (id_after p.kind t) (i + 1) pieces)
      ∙ ap (λ (l : List Part). tidy_parts b added braces p.kind flags t i p ++ l)
      (same_placed braces pieces (drop (length (bytes_at b p.kind t p.text)) flags) (id_after p.kind t) (i + 1) few.1)

  -- the same commas go
  same_changes : (n : ℕ) → n < count → changes a n ≡ changes b n
  same_changes n less = λ j. agree.goes n less j || same_insert n less j

  module _ (tokens : List ℕ) (are : length tokens ≡ count) where
    same_stays : (n : ℕ) → stays a tokens n ≡ stays b tokens n
    same_stays n = by (nat_lt n (length tokens)) refl
      where
        by : (x : Bool) → nat_lt n (length tokens) ≡ x → (x && not (a.goes n)) ≡ (x && not (b.goes n))
        by true e = let less : n < count = grind (arith, nat_tests) in λ j. not (agree.goes n less j)
        by false e = refl

    within : (n : ℕ) → stays b tokens n ≡ true → n < count
    within n e = by (nat_lt n (length tokens)) refl e
      where
        by : (x : Bool) → nat_lt n (length tokens) ≡ x → (x && not (b.goes n)) ≡ true → n < count
        by true less h = grind (arith, nat_tests)
        by false less h = absurd cc

    same_touched : (l : CommaList) → is_touched a tokens l ≡ is_touched b tokens l
    same_touched l =
        (λ j. same_stays l.opening j && same_stays l.closing j && list_any (changes a) (range_with_len l.opening (l.closing + 1 - l.opening)))
        ∙ by (stays b tokens l.opening) (stays b tokens l.closing) refl refl
      where
        by : (x y : Bool) → stays b tokens l.opening ≡ x → stays b tokens l.closing ≡ y
            → (x && y && list_any (changes a) (range_with_len l.opening (l.closing + 1 - l.opening)))
            ≡ (x && y && list_any (changes b) (range_with_len l.opening (l.closing + 1 - l.opening)))
        by true true first last =
            let end : l.closing < count = within l.closing last in
            any_range (changes a) (changes b) l.opening (l.closing + 1 - l.opening) (λ k low high. same_changes k (omega arith))
        by true false first last = refl
        by false y first last = refl

    same_commas : (parts : List Part) (l : CommaList) → with_commas a tokens parts l ≡ with_commas b tokens parts l
    same_commas parts l =
        λ j. if same_touched l j then with_list l.may_end (get_or tokens l.opening 0) (get_or tokens l.closing 0) parts else parts

    pub same_lists : (lists : List CommaList) (parts : List Part) → fold (with_commas a tokens) parts lists ≡ fold (with_commas b tokens) parts lists
    same_lists [] parts = refl
    same_lists (l ∷ lists) parts =
        ap (λ (ps : List Part). fold (with_commas a tokens) ps lists) (same_commas parts l) ∙ same_lists lists (with_commas b tokens parts l)

  -- all parts of the tidied text
  pub same_text : (braces : List Brace) (pieces : List TextPiece) (lists : List CommaList) → length (token_pieces 0 pieces) ≡ count
      → fold (with_commas a (token_pieces 0 pieces)) (tidy_placed a added braces (emptied (line_bytes a 0 pieces)) 0 0 pieces) lists
      ≡ fold (with_commas b (token_pieces 0 pieces)) (tidy_placed b added braces (emptied (line_bytes b 0 pieces)) 0 0 pieces) lists
  same_text braces pieces lists are =
      let fits : 0 + length (token_pieces 0 pieces) ≤ count = omega arith in
      same_lists (token_pieces 0 pieces) are lists (tidy_placed a added braces (emptied (line_bytes a 0 pieces)) 0 0 pieces)
      ∙ ap (λ (ps : List Part). fold (with_commas b (token_pieces 0 pieces)) ps lists)
      (ap (λ (ls : List LineByte). tidy_placed a added braces (emptied ls) 0 0 pieces) (same_lines pieces 0 0 fits)
      ∙ same_placed braces pieces (emptied (line_bytes b 0 pieces)) 0 0 fits)
