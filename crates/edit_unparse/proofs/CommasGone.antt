-- Parts that are assembled from old pieces stay so when the commas of lists go, and the blanks behind them.
use Rattle.std.proofs.Common.{◌≡◌, ◌≤◌, ◌<◌, ◌+◌, ◌==◌, ◌||◌, ◌⊎◌, ℕ, zero, suc, Bool, true, false, refl, sym, ap, ◌∙◌, inl, inr, arith}
use Rattle.std.proofs.Common.{List, [], ◌∷◌, ◌++◌, get_or, take, subst}
use Rattle.std.specs.Prelude.{Some, if◌then◌else◌}
use Rattle.std.specs.List.{list_any}
use Rattle.std.specs.Cmp.Lexicographic.{bytes_decides}
use Rattle.std.proofs.lemmas.Bool.{false≢true}
use Rattle.std.proofs.lemmas.Bool.Decides.{Decides-eqb}
use Rattle.std.proofs.lemmas.List.Folds.{list_any-append}
use Rattle.c_terms.specs.declared.token.TokenKind.{TokenKind}
use Rattle.c_terms.specs.declared.token.TokenKind.TheVariants.{Name, Keyword, Number, Char, Str, Punct, Stray, Meta, Dots, Pat}
use Rattle.c_lexer.specs.declared.state.Kind.TheVariants as kind
use Rattle.c_lexer.specs.declared.piece.PieceKind.{PieceKind}
use Rattle.c_lexer.specs.declared.piece.PieceKind.TheVariants.{Word, Blank, Comment, Line}
use Rattle.c_lexer.specs.Kinds.{kind_of}
use Rattle.c_lexer.specs.Pieces.{TextPiece, kind_of_piece, text_of}
use Rattle.c_lexer.specs.Lexes.{Cuts}
use Rattle.c_lexer.specs.Beside.{IsOfKind}
use Rattle.c_lexer.proofs.Shaped.{kind_or_stray, known}
use Rattle.tidy_flags.specs.declared.signs.Sign.TheVariants as sign
use Rattle.tidy_flags.specs.Signs.{is_closing, is_comma, is_opening, list_start}
use Rattle.edit_unparse.specs.Output.{Part, is_word, old_part}
use Rattle.edit_unparse.specs.Fair.{after_stray, is_stray}
use Rattle.edit_unparse.specs.Tidy.Commas.{front_of, is_from, rest_of, sign_for}
use Rattle.edit_unparse.specs.Tidy.Commas.{without_commas, without_early, without_last}
use Rattle.edit_unparse.specs.Tidy.Fair.{behind_strays, token_flag}
use Rattle.edit_unparse.specs.Tidy.Text.{token_piece, token_pieces}
use Rattle.edit_unparse.proofs.Assembled as made
use Rattle.edit_unparse.proofs.Assembled.{Assembled, Prior, WordFirst, cut_part, gone, prior_of, solid}
use Rattle.edit_unparse.proofs.Beside.{bytes_of, no_newline}
use Rattle.edit_unparse.proofs.Placing.{of_first}
use Rattle.edit_unparse.proofs.Thinned.{Thin, blank_goes, comma_goes, comma_word, early_not, early_thin, front_not, last_thin, stays_here, two, unchanged}

-- less is known of a place

same_stray : (k : PieceKind) (b c : Bool) → (k ≡ Blank → ⊥) → after_stray k b ≡ after_stray k c
same_stray (Word a id) b c other = refl
same_stray Blank b c other = absurd (other refl)
same_stray Comment b c other = refl
same_stray Line b c other = refl

blank_or_not : (k : PieceKind) → (k ≡ Blank) ⊎ (k ≡ Blank → ⊥)
blank_or_not Blank = inl refl
blank_or_not Comment = inr (λ e. absurd cc)
blank_or_not Line = inr (λ e. absurd cc)
blank_or_not (Word a id) = inr (λ e. absurd cc)

weaker : (s : Prior) (b : Bool) (n : ℕ) (pieces : List TextPiece) (parts : List Part) → Assembled s b n pieces parts → Assembled gone false n pieces parts
weaker _ _ _ _ _ (made.done s b n) = made.done gone false n
weaker _ _ _ _ _ (made.more s b n pieces p parts new off first is) =
    made.more gone false n pieces p parts new refl (λ e. absurd cc) (weaker s b n pieces parts is)
weaker _ _ _ _ _ (made.keep s b n r rs parts is) =
    let less = weaker (prior_of r.kind) (after_stray r.kind b) (n + 1) rs parts is in
    made.keep gone false n r rs parts (elim (blank_or_not r.kind) [
      | inl blank ↦ subst (λ (k : PieceKind). Assembled (prior_of k) (after_stray k false) (n + 1) rs parts) (sym blank) less
      | inr other ↦ subst (λ (x : Bool). Assembled (prior_of r.kind) x (n + 1) rs parts) (same_stray r.kind b false other) is
    ])
weaker _ _ _ _ _ (made.drop s b n r rs parts off begins is) = made.drop gone false n r rs parts refl (λ e. absurd cc) is
weaker _ _ _ _ _ (made.cut s b n r rs parts text off blank of begins is) =
    made.cut gone false n r rs parts text refl blank of (λ other. absurd (other refl)) is

-- the numbers of old pieces rise

pub none_less : (s : Prior) (b : Bool) (n : ℕ) (pieces : List TextPiece) (parts : List Part) → Assembled s b n pieces parts → (m : ℕ) → m < n
    → list_any (λ p. is_from m p.from) parts ≡ false
none_less _ _ _ _ _ (made.done s b n) m less = refl
none_less _ _ _ _ _ (made.more s b n pieces p parts new off first is) m less =
    (λ i. is_from m (new.from i) || none_less s b n pieces parts is m less i)
none_less _ _ _ _ _ (made.keep s b n r rs parts is) m less =
    (λ i. other n m less i || none_less (prior_of r.kind) (after_stray r.kind b) (n + 1) rs parts is m (omega arith) i)
  where
    other : (n m : ℕ) → m < n → (n == m) ≡ false
    other n m less = by (n == m) refl
      where
        by : (b : Bool) → (n == m) ≡ b → b ≡ false
        by true e = let equal = (Decides-eqb n m).0 e in absurd (omega arith)
        by false e = refl
none_less _ _ _ _ _ (made.drop s b n r rs parts off begins is) m less = none_less gone false (n + 1) rs parts is m (omega arith)
none_less _ _ _ _ _ (made.cut s b n r rs parts text off blank of begins is) m less =
    (λ i. other n m less i || none_less gone false (n + 1) rs parts is m (omega arith) i)
  where
    other : (n m : ℕ) → m < n → (n == m) ≡ false
    other n m less = by (n == m) refl
      where
        by : (b : Bool) → (n == m) ≡ b → b ≡ false
        by true e = let equal = (Decides-eqb n m).0 e in absurd (omega arith)
        by false e = refl

-- a list of which the closing bracket is the old piece with this number

module _ (c : ℕ) where
  abbrev pub Has : List Part → Type 0
  Has parts = list_any (λ p. is_from c p.from) parts ≡ true

  pub has_rest : (p : Part) (parts : List Part) → is_from c p.from ≡ false → Has (p ∷ parts) → Has parts
  has_rest p parts e has = sym (ap (λ (b : Bool). b || list_any (λ q. is_from c q.from) parts) e) ∙ has

  lost : (s : Prior) (b : Bool) (n : ℕ) (pieces : List TextPiece) (parts : List Part) → Assembled s b (n + 1) pieces parts → n ≡ c → Has parts → ⊥
  lost s b n pieces parts is own has = false≢true (sym (none_less s b (n + 1) pieces parts is c (omega arith)) ∙ has)

  -- the tokens up to that one, which aren't behind a Stray
  pub record Region (n : ℕ) (pieces : List TextPiece) (k : ℕ) (after : Bool) : Type 0 where
    pub closing : get_or (token_pieces n pieces) k 0 ≡ c
    pub calm : (j : ℕ) → j ≤ k → get_or (behind_strays after pieces) j false ≡ false

  -- the region behind a piece
  record Later (n : ℕ) (r : TextPiece) (rs : List TextPiece) (after : Bool) : Type 0 where
    pub k : ℕ
    pub region : Region (n + 1) rs k (after_stray r.kind after)

  later : (n : ℕ) (r : TextPiece) (rs : List TextPiece) (k : ℕ) (after : Bool) → Region n (r ∷ rs) k after → (n ≡ c → ⊥) → Later n r rs after
  later n r rs k after region other = by r.kind k region.closing region.calm
    where
      by : (kind : PieceKind) (k : ℕ) → get_or (token_piece kind n ++ token_pieces (n + 1) rs) k 0 ≡ c
          → ((j : ℕ) → j ≤ k → get_or (token_flag kind after ++ behind_strays (after_stray r.kind after) rs) j false ≡ false) → Later n r rs after
      by (Word a id) zero closing calm = absurd (other closing)
      by (Word a id) (suc k) closing calm = record { k = k; region = record { closing = closing; calm = λ j less. calm (suc j) (omega arith) } }
      by Blank k closing calm = record { k = k; region = record { closing = closing; calm = calm } }
      by Comment k closing calm = record { k = k; region = record { closing = closing; calm = calm } }
      by Line k closing calm = record { k = k; region = record { closing = closing; calm = calm } }

  not_here : (n : ℕ) → (n == c) ≡ false → n ≡ c → ⊥
  not_here n e same = false≢true (sym e ∙ (Decides-eqb n c).1 same)

  -- a token before that one isn't behind a Stray
  calm_token : (n : ℕ) (r : TextPiece) (rs : List TextPiece) (k : ℕ) (after : Bool) → Region n (r ∷ rs) k after → is_word r.kind ≡ true → after ≡ false
  calm_token n r rs k after region w = by r.kind w (region.calm 0 (omega arith))
    where
      by : (kind : PieceKind) → is_word kind ≡ true
          → get_or (token_flag kind after ++ behind_strays (after_stray r.kind after) rs) 0 false ≡ false → after ≡ false
      by (Word a id) w calm = calm
      by Blank w calm = absurd cc
      by Comment w calm = absurd cc
      by Line w calm = absurd cc

  off : (b after : Bool) → (b ≡ true → after ≡ true) → after ≡ false → b ≡ false
  off false after guarded calm = refl
  off true after guarded calm = absurd (false≢true (sym calm ∙ guarded refl))

  pub guarded_more : (k : PieceKind) (b a : Bool) → (b ≡ true → a ≡ true) → after_stray k b ≡ true → after_stray k a ≡ true
  guarded_more (Word kind id) b a more e = e
  guarded_more Blank b a more e = more e
  guarded_more Comment b a more e = e
  guarded_more Line b a more e = e

  -- a comma is no Stray
  comma_calm : (r : TextPiece) (b : Bool) → IsOfKind r → sign_for r.kind r.text ≡ sign.Comma → after_stray r.kind b ≡ false
  comma_calm r b of own = by r.kind refl (comma_word r.kind r.text own)
    where
      comma_text : (o c m : Bool) → (if o then sign.Opening else (if c then sign.Closing else (if m then sign.Comma else sign.Token))) ≡ sign.Comma → m ≡ true
      comma_text true c m e = absurd cc
      comma_text false true m e = absurd cc
      comma_text false false true e = refl
      comma_text false false false e = absurd cc

      by : (k : PieceKind) → r.kind ≡ k → is_word k ≡ true → after_stray r.kind b ≡ false
      by (Word a id) is w =
          let text : r.text ≡ 44 ∷ [] =
          (bytes_decides r.text (44 ∷ [])).0 (comma_text (is_opening r.text) (is_closing r.text) (is_comma r.text)
          (sym (ap (λ (k : PieceKind). sign_for k r.text) is) ∙ own)) in
          ap (λ (k : PieceKind). after_stray k b) is ∙ no_stray a refl text
        where
          no_stray : (t : TokenKind) → a ≡ t → r.text ≡ 44 ∷ [] → is_stray t ≡ false
          no_stray Stray e text =
              let kinds = known r.kind (λ k. kind_of r.text ≡ Some k) of in
              let punct : Some kind.Punct ≡ Some (kind_or_stray r.kind) = sym (ap kind_of text) ∙ kinds.1 in
              let stray : Some kind.Stray ≡ Some (kind_or_stray r.kind) =
              sym (ap kind_of_piece is ∙ ap (λ (x : TokenKind). kind_of_piece (Word x id)) e) ∙ kinds.0 in
              absurd (let both : Some kind.Punct ≡ Some kind.Stray = punct ∙ sym stray in cc)
          no_stray Name e text = refl
          no_stray Keyword e text = refl
          no_stray Number e text = refl
          no_stray Char e text = refl
          no_stray Str e text = refl
          no_stray Punct e text = refl
          no_stray (Meta m) e text = refl
          no_stray Dots e text = refl
          no_stray Pat e text = refl
      by Blank is w = absurd cc
      by Comment is w = absurd cc
      by Line is w = absurd cc

  no_line : (r : TextPiece) → IsOfKind r → is_word r.kind ≡ true → take 1 r.text ≡ 10 ∷ [] → ⊥
  no_line r of w line =
      let y = bytes_of r of in
      let ten : y.byte ≡ 10 = (let both : y.byte ∷ [] ≡ 10 ∷ [] = sym (ap (take 1) y.is) ∙ line in cc) in
      no_newline r y.byte y.more y.is of (λ blank. false≢true (sym (ap is_word blank) ∙ w)) ten

  -- before a blank that goes, or a comma that has gone
  abbrev Past : Bool → Prior → Bool → List TextPiece → Type 0
  Past g s b pieces = g ≡ true → (b ≡ false) × (s ≡ solid → WordFirst pieces)

  past_gone : (g : Bool) (pieces : List TextPiece) → Past g gone false pieces
  past_gone g pieces e = (refl, λ own. absurd cc)

  prior_blank : (k : PieceKind) → k ≡ Blank → prior_of k ≡ gone
  prior_blank k e = ap prior_of e

  thinned : (s : Prior) (b : Bool) (n : ℕ) (pieces : List TextPiece) (parts : List Part) → Assembled s b n pieces parts → Cuts pieces
      → (g : Bool) (left : List Part) → Thin c g parts left → Past g s b pieces → (k : ℕ) (after : Bool) → Region n pieces k after → (b ≡ true → after ≡ true)
      → Has parts → Assembled s b n pieces left
  thinned s b n pieces parts is cuts _ _ (unchanged _ g _) past k after region guarded has = is
  thinned _ _ _ _ _ (made.more s b n pieces p parts new calm first is) cuts _ _ (stays_here _ g h _ _ qs from on thin) past k after region guarded has =
      made.more s b n pieces p qs new calm first
      (thinned s b n pieces parts is cuts h qs thin (λ e. (calm, first)) k after region guarded (has_rest p parts from has))
  thinned _ _ _ _ _ (made.more s b n pieces p parts new calm first is) cuts _ _ (comma_goes _ g _ _ qs from own thin) past k after region guarded has =
      thinned s b n pieces parts is cuts true qs thin (λ e. (calm, first)) k after region guarded (has_rest p parts from has)
  thinned _ _ _ _ _ (made.more s b n pieces p parts new calm first is) cuts _ _ (blank_goes _ _ _ qs from own thin) past k after region guarded has =
      thinned s b n pieces parts is cuts true qs thin (λ e. (calm, first)) k after region guarded (has_rest p parts from has)
  thinned _ _ _ _ _ (made.keep s b n r rs parts is) cuts _ _ (stays_here _ g h _ _ qs from on thin) past k after region guarded has =
      let next = later n r rs k after region (not_here n from) in
      made.keep s b n r rs qs
      (thinned (prior_of r.kind) (after_stray r.kind b) (n + 1) rs parts is cuts.1 h qs thin
      (λ e. let two = on e in (
        ap (λ (x : PieceKind). after_stray x b) two.1 ∙ (past two.0).0,
        λ own. absurd (let both : gone ≡ solid = sym (prior_blank r.kind two.1) ∙ own in cc),
      ))
      next.k (after_stray r.kind after) next.region (guarded_more r.kind b after guarded) (has_rest (old_part n r) parts from has))
  thinned _ _ _ _ _ (made.keep s b n r rs parts is) cuts _ _ (comma_goes _ g _ _ qs from own thin) past k after region guarded has =
      let of = of_first r (text_of rs) cuts.0 in
      let w = comma_word r.kind r.text own in
      let next = later n r rs k after region (not_here n from) in
      let quiet = comma_calm r b of own in
      made.drop s b n r rs qs (off b after guarded (calm_token n r rs k after region w)) (λ solid_before. no_line r of w)
      (weaker (prior_of r.kind) (after_stray r.kind b) (n + 1) rs qs
      (thinned (prior_of r.kind) (after_stray r.kind b) (n + 1) rs parts is cuts.1 true qs thin
      (λ e. (quiet, λ own_solid. absurd (word_solid r.kind w own_solid)))
      next.k (after_stray r.kind after) next.region (guarded_more r.kind b after guarded) (has_rest (old_part n r) parts from has)))
    where
      word_solid : (k : PieceKind) → is_word k ≡ true → prior_of k ≡ solid → ⊥
      word_solid (Word a id) w e = cc
      word_solid Blank w e = absurd cc
      word_solid Comment w e = absurd cc
      word_solid Line w e = absurd cc
  thinned _ _ _ _ _ (made.keep s b n r rs parts is) cuts _ _ (blank_goes _ _ _ qs from own thin) past k after region guarded has =
      let next = later n r rs k after region (not_here n from) in
      let known_here = past refl in
      made.drop s b n r rs qs known_here.0
      (λ solid_before. absurd (false≢true (sym (ap is_word own) ∙ known_here.1 solid_before)))
      (weaker (prior_of r.kind) (after_stray r.kind b) (n + 1) rs qs
      (thinned (prior_of r.kind) (after_stray r.kind b) (n + 1) rs parts is cuts.1 true qs thin
      (λ e. (
        ap (λ (x : PieceKind). after_stray x b) own ∙ known_here.0,
        λ own_solid. absurd (let both : gone ≡ solid = sym (prior_blank r.kind own) ∙ own_solid in cc),
      ))
      next.k (after_stray r.kind after) next.region (guarded_more r.kind b after guarded) (has_rest (old_part n r) parts from has)))
  thinned _ _ _ _ _ (made.drop s b n r rs parts calm begins is) cuts g left thin past k after region guarded has =
      let next = later n r rs k after region (λ own. lost gone false n rs parts is own has) in
      made.drop s b n r rs left calm begins
      (thinned gone false (n + 1) rs parts is cuts.1 g left thin (past_gone g rs) next.k (after_stray r.kind after) next.region
      (λ e. absurd (false≢true e)) has)
  thinned _ _ _ _ _ (made.cut s b n r rs parts text calm is_blank of begins is) cuts _ _ (stays_here _ g h _ _ qs from on thin) past k after region
      guarded has =
      let next = later n r rs k after region (not_here n from) in
      made.cut s b n r rs qs text calm is_blank of begins
      (thinned gone false (n + 1) rs parts is cuts.1 h qs thin (past_gone h rs) next.k (after_stray r.kind after) next.region
      (λ e. absurd (false≢true e)) (has_rest (cut_part n text) parts from has))
  thinned _ _ _ _ _ (made.cut s b n r rs parts text calm is_blank of begins is) cuts _ _ (comma_goes _ g _ _ qs from own thin) past k after region guarded has =
      absurd (false≢true (comma_word Blank text own))
  thinned _ _ _ _ _ (made.cut s b n r rs parts text calm is_blank of begins is) cuts _ _ (blank_goes _ _ _ qs from own thin) past k after region guarded has =
      let next = later n r rs k after region (not_here n from) in
      let known_here = past refl in
      made.drop s b n r rs qs calm (λ solid_before. absurd (false≢true (sym (ap is_word is_blank) ∙ known_here.1 solid_before)))
      (thinned gone false (n + 1) rs parts is cuts.1 true qs thin (past_gone true rs) next.k (after_stray r.kind after) next.region
      (λ e. absurd (false≢true e)) (has_rest (cut_part n text) parts from has))

  -- the commas of the list go
  has_left : (parts : List Part) → Has parts → (front : List Part) → Has (front ++ rest_of c parts)
  has_left parts has front =
      list_any-append (λ (p : Part). is_from c p.from) front (rest_of c parts)
      ∙ ap (λ (b : Bool). list_any (λ (p : Part). is_from c p.from) front || b) (in_rest parts has)
      ∙ or_true (list_any (λ (p : Part). is_from c p.from) front)
    where
      or_true : (b : Bool) → (b || true) ≡ true
      or_true true = refl
      or_true false = refl

      in_rest : (parts : List Part) → Has parts → Has (rest_of c parts)
      in_rest [] has = has
      in_rest (p ∷ parts) has = by (is_from c p.from) refl (in_rest parts)
        where
          by : (b : Bool) → is_from c p.from ≡ b → (Has parts → Has (rest_of c parts)) → Has (if b then p ∷ parts else rest_of c parts)
          by true e more = has
          by false e more = more (has_rest p parts e has)

  pub in_list : (may_end : Bool) (s : Prior) (b : Bool) (n : ℕ) (pieces : List TextPiece) (parts : List Part) → Assembled s b n pieces parts → Cuts pieces
      → (k : ℕ) (after : Bool) → Region n pieces k after → (b ≡ true → after ≡ true) → Has parts
      → Assembled s b n pieces (without_commas may_end (front_of c parts) ++ rest_of c parts)
  in_list may_end s b n pieces parts is cuts k after region guarded has = by may_end
    where
      front : List Part
      front = front_of c parts

      rest : List Part
      rest = rest_of c parts

      early : List Part
      early = without_early list_start front

      whole : Assembled s b n pieces (front ++ rest)
      whole = subst (Assembled s b n pieces) (sym (two c parts)) is

      first : Assembled s b n pieces (early ++ rest)
      first = thinned s b n pieces (front ++ rest) whole cuts false (early ++ rest)
          (early_thin c rest list_start false front (front_not c parts) (λ e. absurd (false≢true e))) (λ e. absurd (false≢true e)) k after region guarded
          (has_left parts has front)

      by : (may_end : Bool) → Assembled s b n pieces (without_commas may_end front ++ rest)
      by true = first
      by false = thinned s b n pieces (early ++ rest) first cuts false (without_last 0 early ++ rest)
          (last_thin c rest 0 early (early_not c list_start front (front_not c parts))) (λ e. absurd (false≢true e)) k after region guarded
          (has_left parts has early)
