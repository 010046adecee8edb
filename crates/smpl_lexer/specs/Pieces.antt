-- The pieces of a line. Each line is cut on its own, with its newline.
use Rattle.std.specs.Prelude.{ℕ, zero, suc, ◌≡◌, ◌==◌, ◌||◌, not, Bool, true, false, if◌then◌else◌, List, [], ◌∷◌, ◌++◌, length, take, codes}
use Rattle.std.specs.Str.{bytes_eq}
use Rattle.std.specs.List.{list_any}
use Rattle.c_lexer.specs.declared.state.Kind.TheVariants as kind
use Rattle.c_lexer.specs.First.{IsFirst}
use Rattle.smpl_lexer.specs.Lines.{newline}
use Rattle.smpl_lexer.specs.declared.piece.LineKind.{LineKind}
use Rattle.smpl_lexer.specs.declared.piece.LineKind.TheVariants.{Plain, Dots, Sign}

-- the bytes begin with the text
abbrev pub begins : List ℕ → List ℕ → Bool
begins text bytes = bytes_eq (take (length text) bytes) text

abbrev pub backslash : ℕ
backslash = 92

-- `\(`, `\|`, `\&` and `\)`
abbrev pub begins_branch : List ℕ → Bool
begins_branch bytes =
    begins (backslash ∷ codes "(") bytes || begins (backslash ∷ codes "|") bytes
    || begins (backslash ∷ codes "&") bytes || begins (backslash ∷ codes ")") bytes

-- the length of the longest sign of patches with which the bytes begin, or 0 if they begin with none
abbrev pub sign_length : List ℕ → ℕ
sign_length bytes =
    if begins (codes "...+>") bytes || begins (codes "<+...") bytes then 5
    else (if begins (codes "...>") bytes || begins (codes "<...") bytes then 4
    else (if begins (codes "...") bytes then 3
    else (if begins_branch bytes then 2 else 0)))

-- the same if there may be signs, and otherwise 0
abbrev pub sign_at : Bool → List ℕ → ℕ
sign_at true bytes = sign_length bytes
sign_at false bytes = 0

-- `...` is the only sign with three bytes
abbrev pub sign_kind : ℕ → LineKind
sign_kind n = if n == 3 then Dots else Sign

-- a sign of this length, or if it is 0, the piece that C has there
abbrev pub IsFirstBy : ℕ → LineKind → List ℕ → List ℕ → Type 0
IsFirstBy zero (Plain k) text rest = IsFirst k text rest
IsFirstBy zero Dots text rest = ⊥
IsFirstBy zero Sign text rest = ⊥
IsFirstBy (suc n) k text rest = (k ≡ sign_kind (suc n)) × (length text ≡ suc n)

-- the first piece, with the rest after it
abbrev pub IsFirstPiece : Bool → LineKind → List ℕ → List ℕ → Type 0
IsFirstPiece signs k text rest = IsFirstBy (sign_at signs (text ++ rest)) k text rest

pub record LinePiece : Type 0 where
  pub kind : LineKind
  pub text : List ℕ

abbrev pub joined : List LinePiece → List ℕ
joined [] = []
joined (p ∷ ps) = p.text ++ joined ps

-- each piece is the first one at its place
abbrev pub Cut : Bool → List LinePiece → Type 0
Cut signs [] = Unit {0}
Cut signs (p ∷ ps) = IsFirstPiece signs p.kind p.text (joined ps) × Cut signs ps

abbrev pub has_newline : List ℕ → Bool
has_newline text = list_any (λ b. b == newline) text

-- the piece is bad: a preprocessor line, a comment that runs over the line's end, and a Stray other than `@`, or in plus
-- code any Stray
abbrev pub is_bad : Bool → LineKind → List ℕ → Bool
is_bad plus (Plain kind.Line) text = true
is_bad plus (Plain kind.Comment) text = has_newline text
is_bad plus (Plain kind.Stray) text = plus || not (bytes_eq text (codes "@"))
is_bad plus _ text = false
