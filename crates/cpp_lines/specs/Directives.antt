-- Which preprocessor lines open groups, begin their next arms, and close them.
use Rattle.std.specs.Prelude.{ℕ, ◌≡◌, ◌||◌, Bool, false, List, [], ◌∷◌, drop, if◌then◌else◌, codes}
use Rattle.std.specs.Str.{bytes_eq}
use Rattle.c_lexer.specs.declared.piece.PieceKind.{PieceKind}
use Rattle.c_lexer.specs.declared.piece.PieceKind.TheVariants.{Word, Blank, Comment, Line}
use Rattle.c_lexer.specs.Pieces.{TextPiece, text_of}
use Rattle.c_lexer.specs.Lexes.{Cuts}
use Rattle.cpp_lines.specs.declared.directive.Directive.{Directive}
use Rattle.cpp_lines.specs.declared.directive.Directive.TheVariants.{Open, OpenZero, Next, Close, Other}

-- a text put before others, if it is a token
abbrev pub word_before : PieceKind → List ℕ → List (List ℕ) → List (List ℕ)
word_before (Word kind id) text words = text ∷ words
word_before Blank text words = words
word_before Comment text words = words
word_before Line text words = words

-- the texts of the tokens
abbrev pub words_of : List TextPiece → List (List ℕ)
words_of [] = []
words_of (p ∷ pieces) = word_before p.kind p.text (words_of pieces)

abbrev pub is_only_zero : List (List ℕ) → Bool
is_only_zero [] = false
is_only_zero (word ∷ []) = bytes_eq word (codes "0")
is_only_zero (word ∷ other ∷ words) = false

-- what a line with these words after its `#` does (C11 6.10.1)
abbrev pub directive_of : List (List ℕ) → Directive
directive_of [] = Other
directive_of (word ∷ words) =
    if bytes_eq word (codes "if") then (if is_only_zero words then OpenZero else Open)
    else (if bytes_eq word (codes "ifdef") || bytes_eq word (codes "ifndef") then Open
    else (if bytes_eq word (codes "elif") || bytes_eq word (codes "else") then Next
    else (if bytes_eq word (codes "endif") then Close else Other)))

-- the words of a line are the tokens that the text after the `#` is cut into
abbrev pub IsDirective : List ℕ → Directive → Type 0
IsDirective line d = (pieces : List TextPiece) × (Cuts pieces × ((text_of pieces ≡ drop 1 line) × (directive_of (words_of pieces) ≡ d)))

-- what a piece does; only a preprocessor line does anything
abbrev pub Directs : PieceKind → List ℕ → Directive → Type 0
Directs Line text d = IsDirective text d
Directs (Word kind id) text d = d ≡ Other
Directs Blank text d = d ≡ Other
Directs Comment text d = d ≡ Other

-- what each of the pieces does
abbrev pub AreDirectives : List TextPiece → List Directive → Type 0
AreDirectives [] [] = Unit {0}
AreDirectives [] (d ∷ ds) = ⊥
AreDirectives (p ∷ pieces) [] = ⊥
AreDirectives (p ∷ pieces) (d ∷ ds) = Directs p.kind p.text d × AreDirectives pieces ds
