-- How many brackets are open at once.
use Rattle.std.specs.Prelude.{ℕ, ◌+◌, ◌-◌, max, Bool, ◌||◌, if◌then◌else◌, List, [], ◌∷◌, codes}
use Rattle.std.specs.Str.{bytes_eq}
use Rattle.c_terms.specs.declared.token.Token.{Token}

abbrev pub opens_one : List ℕ → Bool
opens_one s = bytes_eq s (codes "(") || bytes_eq s (codes "[") || bytes_eq s (codes "{")

abbrev pub closes_one : List ℕ → Bool
closes_one s = bytes_eq s (codes ")") || bytes_eq s (codes "]") || bytes_eq s (codes "}")

-- the depth after a token; a surplus closing bracket leaves it at zero
abbrev pub step : Token → ℕ → ℕ
step t depth = if opens_one t.text then depth + 1 else (if closes_one t.text then depth - 1 else depth)

-- the greatest depth that the tokens reach, starting from this one
unfoldable pub opens_from : ℕ → List Token → ℕ
opens_from depth [] = depth
opens_from depth (t ∷ ts) = max depth (opens_from (step t depth) ts)

-- the most brackets that the tokens open at once
abbrev pub opens_of : List Token → ℕ
opens_of = opens_from 0
