-- Where a member of a list ends: at the first `?`, comma or closing bracket outside its own brackets.
use Rattle.std.specs.Prelude.{ℕ, zero, suc, Bool, List, [], ◌∷◌}
use Rattle.c_terms.specs.declared.token.Token.{Token}
use Rattle.c_rows.specs.declared.class.Class.{Class}
use Rattle.c_rows.specs.declared.class.Class.TheVariants as class
use Rattle.c_rows.specs.declared.turn.Turn.{Turn}
use Rattle.c_rows.specs.declared.turn.Turn.TheVariants as turns
use Rattle.c_rows.specs.Words.{ends_member}
use Rattle.c_rows.specs.Look.{Names, look}

-- what a token of this class does to a scan
abbrev pub turn : Class → Turn
turn class.ParenNest = turns.Opening
turn class.ParenList = turns.Opening
turn class.CastNest = turns.Opening
turn class.CastList = turns.Opening
turn class.LiteralNest = turns.Opening
turn class.LiteralList = turns.Opening
turn class.LeftBracket = turns.Opening
turn class.LeftBrace = turns.Opening
turn class.PatOpen = turns.Opening
turn class.PatOpenOfStatements = turns.Opening
turn class.Close = turns.Closing
turn class.RightBracket = turns.Closing
turn class.RightBrace = turns.Closing
turn class.PatClose = turns.Closing
turn class.Question = turns.Asking
turn class.Comma = turns.Parting
turn _ = turns.Plain

-- `go` scans the tokens after this one, inside the given number of brackets.
abbrev pub step : Turn → ℕ → List Token → (ℕ → List Token) → List Token
step turns.Opening d here go = go (suc d)
step turns.Closing zero here go = here
step turns.Closing (suc d) here go = go d
step turns.Asking zero here go = here
step turns.Asking (suc d) here go = go (suc d)
step turns.Parting zero here go = here
step turns.Parting (suc d) here go = go (suc d)
step turns.Plain d here go = go d

-- The tokens from the first `?`, comma or closing bracket on that is outside all brackets, when the scan starts inside
-- d of them.
unfoldable pub scan : Names → ℕ → List Token → List Token
scan names d [] = []
scan names d (t ∷ ts) = step (turn (look names (t ∷ ts))) d (t ∷ ts) (λ e. scan names e ts)

-- What begins here extends to a comma or `)` with no `?` before it, not counting what is inside its own brackets.
abbrev pub ends_as_member : Names → List Token → Bool
ends_as_member names ts = ends_member (look names (scan names 0 ts))
