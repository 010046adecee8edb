-- Where items end, by the depth of each token.
use Rattle.std.specs.Prelude.{ℕ, ◌≡◌, ◌<◌, ◌+◌, ◌-◌, ◌==◌, ◌&&◌, Bool, true, false, List, [], ◌∷◌, if◌then◌else◌}
use Rattle.cpp_lines.specs.declared.sign.Bracket.TheVariants.{Paren, Brace}
use Rattle.cpp_lines.specs.declared.sign.Sign.{Sign}
use Rattle.cpp_lines.specs.declared.sign.Sign.TheVariants.{Opening, Closing, Semicolon}
use Rattle.cpp_lines.specs.declared.span.ItemSpan.{ItemSpan}
use Rattle.cpp_lines.specs.declared.item.Body.{Body}
use Rattle.cpp_lines.specs.declared.item.Body.TheVariants as body

-- the depth after these tokens, the nearest first; an unmatched closing bracket doesn't count
abbrev pub depth : List Sign → ℕ
depth [] = 0
depth (Opening _ ∷ tokens) = depth tokens + 1
depth (Closing _ ∷ tokens) = depth tokens - 1
depth (sign ∷ tokens) = depth tokens

-- whether a body may follow these tokens: there are none, or the last is `)`
abbrev pub may_precede_body : List Sign → Bool
may_precede_body [] = true
may_precede_body (Closing Paren ∷ tokens) = true
may_precede_body (sign ∷ tokens) = false

-- what a token after these tokens begins, if it is a `{` at depth 0
abbrev pub body_at : Sign → List Sign → Body
body_at (Opening Brace) tokens = if depth tokens == 0 then (if may_precede_body tokens then body.Function else body.Other) else body.Missing
body_at sign tokens = body.Missing

abbrev pub or_body : Body → Body → Body
or_body body.Missing later = later
or_body first later = first

-- what the first `{` at depth 0 of these tokens begins
abbrev pub body_of : List Sign → Body
body_of [] = body.Missing
body_of (sign ∷ tokens) = or_body (body_of tokens) (body_at sign tokens)

abbrev pub is_function : Body → Bool
is_function body.Function = true
is_function b = false

-- Whether a token ends the item whose earlier tokens are these: a `;` at depth 0, or a `}` that returns to depth 0
-- if the first `{` at depth 0 is the first token or follows `)`.
abbrev pub ends_item : Sign → List Sign → Bool
ends_item Semicolon before = depth before == 0
ends_item (Closing Brace) before = depth before == 1 && is_function (body_of before)
ends_item sign before = false

-- what is left at the end is an item
abbrev pub last_item : (first : ℕ) (before : List Sign) (number : ℕ) → List ItemSpan
last_item first [] number = []
last_item first (sign ∷ before) number = record { first = first; last = number } ∷ []

-- the items of tokens numbered from `number` on, if the tokens `before` precede them in an item that begins at `first`
abbrev pub items_from : (first : ℕ) (before : List Sign) (number : ℕ) → List Sign → List ItemSpan
items_from first before number [] = last_item first before number
items_from first before number (sign ∷ tokens) =
    if ends_item sign before then record { first = first; last = number + 1 } ∷ items_from (number + 1) [] (number + 1) tokens
    else items_from first (sign ∷ before) (number + 1) tokens

-- the items of these tokens
abbrev pub items_of : List Sign → List ItemSpan
items_of tokens = items_from 0 [] 0 tokens

-- Each span has a token, each but the first begins where the one before it ends, and together they go from one number to
-- another.
abbrev pub StandEndToEnd : ℕ → List ItemSpan → ℕ → Type 0
StandEndToEnd from [] to = from ≡ to
StandEndToEnd from (span ∷ spans) to = (span.first ≡ from) × (from < span.last) × StandEndToEnd span.last spans to
