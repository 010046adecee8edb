-- What a token does to the pieces of code.
use Rattle.std.specs.Prelude.{ℕ, ◌||◌, Bool, true, false, if◌then◌else◌, List, codes}
use Rattle.std.specs.Str.{bytes_eq}
use Rattle.c_terms.specs.declared.token.TokenKind.{TokenKind}
use Rattle.c_terms.specs.declared.token.TokenKind.TheVariants as token
use Rattle.smpl_meta.specs.declared.patterns.Placed.{Placed}
use Rattle.smpl_meta.specs.Patterns.{is_word}
use Rattle.smpl_places.specs.declared.sign.Sign.{Sign}
use Rattle.smpl_places.specs.declared.sign.Sign.TheVariants.{Open, OpenBrace, Close, CloseParen, CloseBrace, Semicolon, Else, Value, Mark, Plain}

-- a value follows a token
abbrev pub begins_value : List ℕ → Bool
begins_value text = bytes_eq text (codes "=") || bytes_eq text (codes "return")

abbrev pub sign_of_text : List ℕ → Sign
sign_of_text text =
    if bytes_eq text (codes "(") then Open else (if bytes_eq text (codes "[") then Open
    else (if bytes_eq text (codes "{") then OpenBrace else (if bytes_eq text (codes "]") then Close
    else (if bytes_eq text (codes ")") then CloseParen else (if bytes_eq text (codes "}") then CloseBrace
    else (if bytes_eq text (codes ";") then Semicolon else (if bytes_eq text (codes "else") then Else
    else (if begins_value text then Value else Plain))))))))

abbrev pub sign_by : TokenKind → List ℕ → Sign
sign_by token.Dots text = Mark
sign_by token.Pat text = Mark
sign_by kind text = sign_of_text text

abbrev pub sign_of : Placed → Sign
sign_of p = sign_by p.token.kind p.token.text

abbrev pub is_when : Placed → Bool
is_when p = is_word (codes "when") p
