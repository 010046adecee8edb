-- Which tokens are shown.
use Rattle.std.specs.Prelude.{ℕ, ◌≡◌, ◌+◌, ◌&&◌, ◌||◌, Bool, true, false, not, List, [], ◌∷◌, suc, zero, if◌then◌else◌}
use Rattle.c_lexer.specs.declared.piece.PieceKind.{PieceKind}
use Rattle.c_lexer.specs.declared.piece.PieceKind.TheVariants.{Word, Blank, Comment, Line}
use Rattle.c_lexer.specs.Pieces.{TextPiece}
use Rattle.cpp_lines.specs.declared.directive.Directive.{Directive}
use Rattle.cpp_lines.specs.declared.sign.Bracket.TheVariants.{Paren}
use Rattle.cpp_lines.specs.declared.sign.Sign.{Sign}
use Rattle.cpp_lines.specs.declared.sign.Sign.TheVariants.{Opening, Closing, Attribute, Marker}
use Rattle.cpp_lines.specs.Directives.{AreDirectives}
use Rattle.cpp_lines.specs.Groups.{is_hidden}
use Rattle.cpp_lines.specs.Signs.{sign_of}

abbrev pub follows_attribute : List Sign → Bool
follows_attribute [] = false
follows_attribute (Attribute ∷ tokens) = true
follows_attribute (sign ∷ tokens) = false

-- Whether a place is in the bracket group of an `__attribute__`. Reads the tokens before the place, the nearest first;
-- `closed` groups that end before the place are still to be passed.
abbrev pub is_enclosed : (closed : ℕ) → List Sign → Bool
is_enclosed closed [] = false
is_enclosed closed (Closing _ ∷ tokens) = is_enclosed (suc closed) tokens
is_enclosed (suc closed) (Opening _ ∷ tokens) = is_enclosed closed tokens
is_enclosed zero (Opening Paren ∷ tokens) = follows_attribute tokens || is_enclosed zero tokens
is_enclosed zero (Opening _ ∷ tokens) = is_enclosed zero tokens
is_enclosed closed (sign ∷ tokens) = is_enclosed closed tokens

-- Whether a token after these tokens is a marker, an `__attribute__`, or in the bracket group that follows one.
abbrev pub is_masked : Sign → List Sign → Bool
is_masked Marker tokens = true
is_masked Attribute tokens = true
is_masked (Opening Paren) tokens = follows_attribute tokens || is_enclosed zero tokens
is_masked sign tokens = is_enclosed zero tokens

abbrev pub is_word : PieceKind → Bool
is_word (Word kind id) = true
is_word Blank = false
is_word Comment = false
is_word Line = false

-- The numbers of the shown tokens, those in shown arms that are not masked, among pieces that do these things and are
-- numbered from `number` on. Before the pieces come these lines and these tokens of shown arms, the nearest first.
abbrev pub shown_from : (lines : List Directive) (tokens : List Sign) (number : ℕ) → List TextPiece → List Directive → List ℕ
shown_from lines tokens number [] ds = []
shown_from lines tokens number (p ∷ pieces) [] = []
shown_from lines tokens number (p ∷ pieces) (d ∷ ds) =
    if is_word p.kind && not (is_hidden 0 0 lines) then
    (if is_masked (sign_of p.text) tokens then shown_from (d ∷ lines) (sign_of p.text ∷ tokens) (number + 1) pieces ds
    else number ∷ shown_from (d ∷ lines) (sign_of p.text ∷ tokens) (number + 1) pieces ds)
    else shown_from (d ∷ lines) tokens (number + 1) pieces ds

-- these are the numbers of the shown tokens
abbrev pub AreShown : List TextPiece → List ℕ → Type 0
AreShown pieces shown = (ds : List Directive) × (AreDirectives pieces ds × (shown ≡ shown_from [] [] 0 pieces ds))
