-- Which tokens of patterns are outside clauses.
use Rattle.std.specs.Prelude.{ℕ, ◌==◌, ◌||◌, ◌&&◌, not, Bool, true, false, if◌then◌else◌, List, [], ◌∷◌, codes}
use Rattle.c_terms.specs.declared.token.TokenKind.{TokenKind}
use Rattle.c_terms.specs.declared.token.TokenKind.TheVariants as token
use Rattle.smpl_meta.specs.declared.patterns.Placed.{Placed}
use Rattle.smpl_meta.specs.Patterns.{is_word, is_differs, is_host_of}
use Rattle.smpl_plus.specs.declared.clauses.Where.{Where}
use Rattle.smpl_plus.specs.declared.clauses.Where.TheVariants.{Free, After, When, Code}
use Rattle.smpl_plus.specs.declared.clauses.Standing.{Standing}

-- ---- a token, and where the next one is

abbrev pub next_of : Placed → Where
next_of p = if is_host_of p.token.kind p.token.text then After else Free

abbrev pub outside : Placed → Standing
outside p = record { outside = true; next = next_of p }

abbrev pub within : Where → Standing
within next = record { outside = false; next = next }

abbrev pub after : Placed → Standing
after p = if is_word (codes "when") p then within (When p.line) else outside p

abbrev pub behind_when : ℕ → Placed → Standing
behind_when line p =
    if not (p.line == line) then after p
    else (if is_word (codes "any") p || is_word (codes "strict") p then within After
    else (if is_differs p then within (Code line) else after p))

abbrev pub in_code : ℕ → Placed → Standing
in_code line p = if p.line == line then within (Code line) else after p

abbrev pub stand : Where → Placed → Standing
stand Free p = outside p
stand After p = after p
stand (When line) p = behind_when line p
stand (Code line) p = in_code line p

-- ---- where plus code may be anchored

-- a token of C or a metavariable
abbrev pub is_code : TokenKind → Bool
is_code token.Dots = false
is_code token.Pat = false
is_code token.Stray = false
is_code _ = true

-- for each token: it is one of C or a metavariable, outside clauses
abbrev pub may_from : Where → List Placed → List Bool
may_from w [] = []
may_from w (p ∷ ps) = ((stand w p).outside && is_code p.token.kind) ∷ may_from (stand w p).next ps

abbrev pub may_anchor : List Placed → List Bool
may_anchor ps = may_from Free ps

-- the tokens outside clauses
abbrev pub outside_from : Where → List Placed → List Placed
outside_from w [] = []
outside_from w (p ∷ ps) = if (stand w p).outside then p ∷ outside_from (stand w p).next ps else outside_from (stand w p).next ps
