-- The words of a text, whichever pieces it is cut into.
use Rattle.std.specs.Prelude.{ℕ, ◌≡◌, Bool, true, false, List, [], ◌∷◌, drop, slice_range}
use Rattle.c_lexer.specs.declared.state.Kind.{Kind}
use Rattle.c_lexer.specs.declared.state.Kind.TheVariants as kind
use Rattle.c_lexer.specs.Pieces.{TextPiece, text_of}
use Rattle.c_lexer.specs.Lexes.{Cuts}
use Rattle.cpp_lines.specs.declared.directive.Directive.{Directive}
use Rattle.cpp_lines.specs.Directives.{words_of, is_only_zero, directive_of}

abbrev pub is_token_kind : Kind → Bool
is_token_kind kind.Blank = false
is_token_kind kind.Comment = false
is_token_kind kind.Line = false
is_token_kind k = true

abbrev pub NoWord : List ℕ → Type 0
NoWord text = (pieces : List TextPiece) → Cuts pieces → text_of pieces ≡ text → words_of pieces ≡ []

-- the first word, and the pieces after it
pub record WordThen (pieces : List TextPiece) (word rest : List ℕ) : Type 0 where
  pub more : List TextPiece
  pub cuts : Cuts more
  pub text : text_of more ≡ rest
  pub words : words_of pieces ≡ word ∷ words_of more

abbrev pub IsNextWord : (text : List ℕ) (start end : ℕ) → Type 0
IsNextWord text start end = (pieces : List TextPiece) → Cuts pieces → text_of pieces ≡ text → WordThen pieces (slice_range text start end) (drop end text)

abbrev pub HasOnlyZero : List ℕ → Bool → Type 0
HasOnlyZero text b = (pieces : List TextPiece) → Cuts pieces → text_of pieces ≡ text → b ≡ is_only_zero (words_of pieces)

abbrev pub DoesAll : List ℕ → Directive → Type 0
DoesAll text d = (pieces : List TextPiece) → Cuts pieces → text_of pieces ≡ text → directive_of (words_of pieces) ≡ d

abbrev pub DoesAllAfter : (word rest : List ℕ) → Directive → Type 0
DoesAllAfter word rest d = (pieces : List TextPiece) → Cuts pieces → text_of pieces ≡ rest → directive_of (word ∷ words_of pieces) ≡ d
