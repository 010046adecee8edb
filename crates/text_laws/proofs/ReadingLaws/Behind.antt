-- If only blanks are between two tokens, the first is a Stray and the second is shown, then the first is shown.
use Rattle.std.proofs.Common.{◌≡◌, ◌⊎◌, ◌+◌, ◌&&◌, ◌||◌, ℕ, zero, suc, Bool, true, false, not, inl, inr, refl, sym, ap, subst, ◌∙◌, arith, List, [], ◌∷◌}
use Rattle.std.specs.Prelude.{if◌then◌else◌, Option, None, Some, slice_get, ◌==◌, codes}
use Rattle.std.specs.Str.{bytes_eq}
use Rattle.std.proofs.lemmas.Bool.Decides.{Decides-eqb}
use Rattle.std.proofs.lemmas.Slice.Eq.{bytes_eq-Decides}
use Rattle.c_terms.specs.declared.token.TokenKind.{TokenKind}
use Rattle.c_terms.specs.declared.token.TokenKind.TheVariants.{Stray}
use Rattle.c_lexer.specs.declared.state.Kind.{Kind}
use Rattle.c_lexer.specs.declared.state.Kind.TheVariants as kind
use Rattle.c_lexer.specs.declared.piece.PieceKind.{PieceKind}
use Rattle.c_lexer.specs.declared.piece.PieceKind.TheVariants.{Word, Blank, Comment, Line}
use Rattle.c_lexer.specs.Kinds.{kind_of}
use Rattle.c_lexer.specs.Words.{is_in}
use Rattle.c_lexer.specs.Pieces.{TextPiece, text_of}
use Rattle.c_lexer.specs.Lexes.{Cuts, IsFirstPiece}
use Rattle.c_lexer.proofs.Each.{Each, member, contained}
use Rattle.cpp_lines.specs.declared.directive.Directive.{Directive}
use Rattle.cpp_lines.specs.declared.directive.Directive.TheVariants as line
use Rattle.cpp_lines.specs.declared.sign.Bracket.TheVariants.{Paren, Square, Brace}
use Rattle.cpp_lines.specs.declared.sign.Sign.{Sign}
use Rattle.cpp_lines.specs.declared.sign.Sign.TheVariants.{Opening, Closing, Semicolon, Attribute, Marker, Other}
use Rattle.cpp_lines.specs.Directives.{Directs, AreDirectives}
use Rattle.cpp_lines.specs.Groups.{is_hidden}
use Rattle.cpp_lines.specs.Signs.{markers, sign_of_byte, sign_of}
use Rattle.cpp_lines.specs.Shown.{follows_attribute, is_enclosed, is_masked, is_word, shown_from, AreShown}
use Rattle.cpp_lines.specs.Visible.{sign_at}
use Rattle.edit_unparse.specs.Fair.{is_stray, after_stray}

-- ---- the sign of a Stray

abbrev is_stray_kind : Option Kind → Bool
is_stray_kind None = false
is_stray_kind (Some kind.Stray) = true
is_stray_kind (Some k) = false

abbrev IsQuiet : List ℕ → Type 0
IsQuiet text = is_stray_kind (kind_of text) ≡ false

byte_quiet : (b c : ℕ) (s : Sign) (rest : Sign) (y : Bool) → (b == c) ≡ y → IsQuiet (c ∷ []) → is_stray_kind (kind_of (b ∷ [])) ≡ true → rest ≡ Other
    → (if y then s else rest) ≡ Other
byte_quiet b c s rest true e quiet is other =
    let same : b ≡ c = (Decides-eqb b c).0 e in
    let clash : is_stray_kind (kind_of (c ∷ [])) ≡ true = subst (λ (n : ℕ). is_stray_kind (kind_of (n ∷ [])) ≡ true) same is in
    absurd cc
byte_quiet b c s rest false e quiet is other = other

one_byte : (b : ℕ) → is_stray_kind (kind_of (b ∷ [])) ≡ true → sign_of_byte b ≡ Other
one_byte b is =
    byte_quiet b 40 (Opening Paren) _ (b == 40) refl refl is
    (byte_quiet b 41 (Closing Paren) _ (b == 41) refl refl is
    (byte_quiet b 91 (Opening Square) _ (b == 91) refl refl is
    (byte_quiet b 93 (Closing Square) _ (b == 93) refl refl is
    (byte_quiet b 123 (Opening Brace) _ (b == 123) refl refl is
    (byte_quiet b 125 (Closing Brace) _ (b == 125) refl refl is
    (byte_quiet b 59 Semicolon Other (b == 59) refl refl is refl))))))

markers_quiet : Each IsQuiet markers
markers_quiet = (
  refl,
  (
    refl,
    (
      refl,
      (
        refl,
        (
          refl,
          (
            refl,
            (
              refl,
              (
                refl,
                (refl, (refl, (refl, (refl, (refl, (refl, (refl, (refl, (refl, (refl, (refl, (refl, (refl, (refl, (refl, (refl, tt)))))))))))))))),
              ),
            ),
          ),
        ),
      ),
    ),
  ),
)

word_quiet : (text : List ℕ) (x y : Bool) → bytes_eq text (codes "__attribute__") ≡ x → is_in markers text ≡ y → is_stray_kind (kind_of text) ≡ true
    → (if x then Attribute else (if y then Marker else Other)) ≡ Other
word_quiet text true y e f is =
    let same : text ≡ codes "__attribute__" = (bytes_eq-Decides text (codes "__attribute__")).0 e in
    let clash : is_stray_kind (kind_of (codes "__attribute__")) ≡ true = subst (λ (t : List ℕ). is_stray_kind (kind_of t) ≡ true) same is in
    let quiet : is_stray_kind (kind_of (codes "__attribute__")) ≡ false = refl in
    absurd cc
word_quiet text false true e f is = let quiet : is_stray_kind (kind_of text) ≡ false = member IsQuiet markers markers_quiet text
    (contained markers text f) in absurd cc
word_quiet text false false e f is = refl

stray_text : (text : List ℕ) → is_stray_kind (kind_of text) ≡ true → sign_of text ≡ Other
stray_text [] is = refl
stray_text (b ∷ []) is = one_byte b is
stray_text (b ∷ c ∷ text) is = word_quiet (b ∷ c ∷ text) (bytes_eq (b ∷ c ∷ text) (codes "__attribute__")) (is_in markers (b ∷ c ∷ text)) refl refl is

-- a piece that is a Stray
abbrev pub stray_kind : PieceKind → Bool
stray_kind (Word k id) = is_stray k
stray_kind Blank = false
stray_kind Comment = false
stray_kind Line = false

token_stray : (k : TokenKind) (id : ℕ) (text rest : List ℕ) → is_stray k ≡ true → IsFirstPiece (record { kind = Word k id; text = text }) rest
    → is_stray_kind (kind_of text) ≡ true
token_stray Stray id text rest e h = ap is_stray_kind h.of_kind
token_stray _ id text rest e h = absurd cc

piece_stray : (k : PieceKind) (text rest : List ℕ) → stray_kind k ≡ true → IsFirstPiece (record { kind = k; text = text }) rest → sign_of text ≡ Other
piece_stray (Word k id) text rest e h = stray_text text (token_stray k id text rest e h)
piece_stray Blank text rest e h = absurd cc
piece_stray Comment text rest e h = absurd cc
piece_stray Line text rest e h = absurd cc

abbrev stray_in : Option TextPiece → Bool
stray_in None = false
stray_in (Some p) = stray_kind p.kind

-- whether the piece of a number is a Stray
abbrev pub is_stray_at : List TextPiece → ℕ → Bool
is_stray_at pieces m = stray_in (slice_get pieces m)

pub stray_sign : (pieces : List TextPiece) (m : ℕ) → Cuts pieces → is_stray_at pieces m ≡ true → sign_at pieces m ≡ Other
stray_sign [] m cuts e = absurd cc
stray_sign (p ∷ pieces) zero cuts e = piece_stray p.kind p.text (text_of pieces) e cuts.0
stray_sign (p ∷ pieces) (suc m) cuts e = stray_sign pieces m cuts.1 e

-- whether the nearest piece before the piece of a number that is no blank is a Stray; `after`: whether it is before the first
abbrev pub is_behind : Bool → List TextPiece → ℕ → Bool
is_behind after [] m = false
is_behind after (p ∷ pieces) zero = after
is_behind after (p ∷ pieces) (suc m) = is_behind (after_stray p.kind after) pieces m

-- ---- shown tokens behind Strays

-- what stands in the bracket group of an attribute is masked, whatever it is
enclosed_masked : (s : Sign) (tokens : List Sign) → is_enclosed zero tokens ≡ true → is_masked s tokens ≡ true
enclosed_masked Marker tokens e = refl
enclosed_masked Attribute tokens e = refl
enclosed_masked (Opening Paren) tokens e = by (follows_attribute tokens) e
  where
    by : (b : Bool) → is_enclosed zero tokens ≡ true → (b || is_enclosed zero tokens) ≡ true
    by true f = refl
    by false f = f
enclosed_masked (Opening Square) tokens e = e
enclosed_masked (Opening Brace) tokens e = e
enclosed_masked (Closing b) tokens e = e
enclosed_masked Semicolon tokens e = e
enclosed_masked Other tokens e = e

-- `stray` and `behind` say of the pieces from a number on what they are and stand behind
abbrev pub Tell : (stray behind : ℕ → Bool) → ℕ → Bool → List TextPiece → Type 0
Tell stray behind number after [] = Unit {0}
Tell stray behind number after (p ∷ pieces) =
    (behind number ≡ after) × (stray number ≡ stray_kind p.kind) × Tell stray behind (number + 1) (after_stray p.kind after) pieces

-- each shown token that stands behind a Stray has a Stray before it among the shown ones; `prev`: whether there is one before the first
abbrev pub Follow : (stray behind : ℕ → Bool) → Bool → List ℕ → Type 0
Follow stray behind prev [] = Unit {0}
Follow stray behind prev (m ∷ ms) = (behind m ≡ true → prev ≡ true) × Follow stray behind (stray m) ms

-- a Stray is hidden, masked, or shown last
abbrev Where : List Directive → List Sign → Bool → Type 0
Where lines tokens prev = (is_hidden 0 0 lines ≡ true) ⊎ ((is_enclosed zero tokens ≡ true) ⊎ (prev ≡ true))

-- a piece that is no line
with_other : (d : Directive) (lines : List Directive) → d ≡ line.Other → is_hidden 0 0 (d ∷ lines) ≡ is_hidden 0 0 lines
with_other d lines e = ap (λ (x : Directive). is_hidden 0 0 (x ∷ lines)) e

no_line : (d : Directive) (lines : List Directive) (tokens : List Sign) (prev : Bool) → d ≡ line.Other → Where lines tokens prev
    → Where (d ∷ lines) tokens prev
no_line d lines tokens prev e (inl h) = inl (with_other d lines e ∙ h)
no_line d lines tokens prev e (inr h) = inr h

at_shown : (lines : List Directive) (tokens : List Sign) (sign : Sign) (prev : Bool) → is_hidden 0 0 lines ≡ false → is_masked sign tokens ≡ false
    → Where lines tokens prev → prev ≡ true
at_shown lines tokens sign prev hid mask (inl h) = absurd cc
at_shown lines tokens sign prev hid mask (inr (inl h)) = let masked : is_masked sign tokens ≡ true = enclosed_masked sign tokens h in absurd cc
at_shown lines tokens sign prev hid mask (inr (inr h)) = h

module _ (stray behind : ℕ → Bool) where
  -- from a number on, whatever stands before
  abbrev Later : ℕ → List TextPiece → List Directive → Type 0
  Later number pieces ds = (lines : List Directive) (tokens : List Sign) (after prev : Bool) → Tell stray behind number after pieces
      → (after ≡ true → Where lines tokens prev)
      → Follow stray behind prev (shown_from lines tokens number pieces ds)

  at_word : (lines : List Directive) (tokens : List Sign) (number : ℕ) (k : TokenKind) (id : ℕ) (text : List ℕ) (pieces : List TextPiece) (d : Directive)
      (ds : List Directive) (after prev hidden masked : Bool)
      → is_hidden 0 0 lines ≡ hidden → is_masked (sign_of text) tokens ≡ masked → IsFirstPiece (record { kind = Word k id; text = text }) (text_of pieces)
      → d ≡ line.Other
      → behind number ≡ after → stray number ≡ is_stray k → Tell stray behind (number + 1) (is_stray k) pieces → (after ≡ true → Where lines tokens prev)
      → Later (number + 1) pieces ds
      → Follow stray behind prev (if not hidden then
      (if masked then shown_from (d ∷ lines) (sign_of text ∷ tokens) (number + 1) pieces ds
      else number ∷ shown_from (d ∷ lines) (sign_of text ∷ tokens) (number + 1) pieces ds)
      else shown_from (d ∷ lines) tokens (number + 1) pieces ds)
  at_word lines tokens number k id text pieces d ds after prev true masked hid mask first own b s tell w rest =
      rest (d ∷ lines) tokens (is_stray k) prev tell (λ e. inl (with_other d lines own ∙ hid))
  at_word lines tokens number k id text pieces d ds after prev false true hid mask first own b s tell w rest =
      rest (d ∷ lines) (sign_of text ∷ tokens) (is_stray k) prev tell
      (λ e. let other : sign_of text ≡ Other = piece_stray (Word k id) text (text_of pieces) e first in
      let within : is_enclosed zero tokens ≡ true = ap (λ (x : Sign). is_masked x tokens) (sym other) ∙ mask in
      let more : is_enclosed zero (sign_of text ∷ tokens) ≡ true = ap (λ (x : Sign). is_enclosed zero (x ∷ tokens)) other ∙ within in
      inr (inl more))
  at_word lines tokens number k id text pieces d ds after prev false false hid mask first own b s tell w rest = (
    (λ e. at_shown lines tokens (sign_of text) prev hid mask (w (sym b ∙ e))),
    rest (d ∷ lines) (sign_of text ∷ tokens) (is_stray k) (stray number) tell (λ e. inr (inr (s ∙ e))),
  )

  at_piece : (lines : List Directive) (tokens : List Sign) (number : ℕ) (k : PieceKind) (text : List ℕ) (pieces : List TextPiece) (d : Directive)
      (ds : List Directive) (after prev : Bool)
      → IsFirstPiece (record { kind = k; text = text }) (text_of pieces) → Directs k text d
      → behind number ≡ after → stray number ≡ stray_kind k → Tell stray behind (number + 1) (after_stray k after) pieces
      → (after ≡ true → Where lines tokens prev) → Later (number + 1) pieces ds
      → Follow stray behind prev (if is_word k && not (is_hidden 0 0 lines) then
      (if is_masked (sign_of text) tokens then shown_from (d ∷ lines) (sign_of text ∷ tokens) (number + 1) pieces ds
      else number ∷ shown_from (d ∷ lines) (sign_of text ∷ tokens) (number + 1) pieces ds)
      else shown_from (d ∷ lines) tokens (number + 1) pieces ds)
  at_piece lines tokens number Blank text pieces d ds after prev first own b s tell w rest = rest (d ∷ lines) tokens after prev tell
      (λ e. no_line d lines tokens prev own (w e))
  at_piece lines tokens number Comment text pieces d ds after prev first own b s tell w rest = rest (d ∷ lines) tokens false prev tell (λ e. absurd cc)
  at_piece lines tokens number Line text pieces d ds after prev first own b s tell w rest = rest (d ∷ lines) tokens false prev tell (λ e. absurd cc)
  at_piece lines tokens number (Word k id) text pieces d ds after prev first own b s tell w rest =
      at_word lines tokens number k id text pieces d ds after prev (is_hidden 0 0 lines) (is_masked (sign_of text) tokens) refl refl first own b s tell w rest

  follow : (lines : List Directive) (tokens : List Sign) (number : ℕ) (pieces : List TextPiece) (ds : List Directive) (after prev : Bool)
      → Cuts pieces → AreDirectives pieces ds → Tell stray behind number after pieces → (after ≡ true → Where lines tokens prev)
      → Follow stray behind prev (shown_from lines tokens number pieces ds)
  follow lines tokens number [] ds after prev cuts are tell w = tt
  follow lines tokens number (p ∷ pieces) [] after prev cuts are tell w = absurd are
  follow lines tokens number (p ∷ pieces) (d ∷ ds) after prev cuts are tell w =
      at_piece lines tokens number p.kind p.text pieces d ds after prev cuts.0 are.0 tell.0 tell.1 tell.2 w
      (λ ls ts a pr t v. follow ls ts (number + 1) pieces ds a pr cuts.1 are.1 t v)

tells : (stray behind : ℕ → Bool) (number : ℕ) (after : Bool) (pieces : List TextPiece) → ((m : ℕ) → behind (number + m) ≡ is_behind after pieces m)
    → ((m : ℕ) → stray (number + m) ≡ is_stray_at pieces m)
    → Tell stray behind number after pieces
tells stray behind number after [] f g = tt
tells stray behind number after (p ∷ pieces) f g =
    let here : number + 0 ≡ number = omega arith in (
      ap behind (sym here) ∙ f 0,
      ap stray (sym here) ∙ g 0,
      tells stray behind (number + 1) (after_stray p.kind after) pieces
          (λ m. let next : number + 1 + m ≡ number + suc m = omega arith in ap behind next ∙ f (suc m))
          (λ m. let next : number + 1 + m ≡ number + suc m = omega arith in ap stray next ∙ g (suc m)),
    )

-- of shown tokens, none but one behind a shown Stray stands behind a Stray
pub shown_follow : (pieces : List TextPiece) (shown : List ℕ) → Cuts pieces → AreShown pieces shown
    → Follow (is_stray_at pieces) (is_behind false pieces) false shown
shown_follow pieces shown cuts are =
    let stray = is_stray_at pieces in
    let behind = is_behind false pieces in
    let tell : Tell stray behind 0 false pieces = tells stray behind 0 false pieces
    (λ m. let same : 0 + m ≡ m = omega arith in ap behind same) (λ m. let same : 0 + m ≡ m = omega arith in ap stray same) in
    subst (Follow stray behind false) (sym are.1.1) (follow stray behind [] [] 0 pieces are.0 false false cuts are.1.0 tell (λ e. absurd cc))
