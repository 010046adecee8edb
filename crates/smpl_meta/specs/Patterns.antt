-- The tokens of a rule's patterns, and the clauses among them.
use Rattle.std.specs.Prelude.{ℕ, suc, ◌==◌, ◌||◌, ◌&&◌, not, Bool, true, false, if◌then◌else◌, List, [], ◌∷◌, ◌++◌, length, Option, Some, None, codes}
use Rattle.std.specs.Str.{bytes_eq}
use Rattle.c_terms.specs.declared.token.Token.{Token}
use Rattle.c_terms.specs.declared.token.TokenKind.{TokenKind}
use Rattle.c_terms.specs.declared.token.TokenKind.TheVariants as token
use Rattle.c_terms.specs.declared.token.MetaKind.{MetaKind}
use Rattle.smpl_terms.specs.declared.var.Var.{Var as Variable}
use Rattle.smpl_patch.specs.declared.pattern.VarDecl.{VarDecl}
use Rattle.smpl_patch.specs.declared.pattern.VarKind.TheVariants.{Meta, Position}
use Rattle.smpl_lexer.specs.declared.token.PatchToken.{PatchToken}
use Rattle.smpl_lexer.specs.declared.text.BodyLine.{BodyLine}
use Rattle.smpl_lexer.specs.Tokens.{is_name, is_at}
use Rattle.smpl_meta.specs.declared.patterns.Placed.{Placed}
use Rattle.smpl_meta.specs.Known.{var_named}

-- ---- names that are declared

-- the kind of metavariable that a token is
abbrev pub meta_of : Option VarDecl → Option MetaKind
meta_of None = None
meta_of (Some d) = elim d.kind as (λ k. Option MetaKind) [ Meta k ↦ Some k | Position ↦ None ]

abbrev pub declared_meta : List VarDecl → PatchToken → Option MetaKind
declared_meta vars t = if is_name t then meta_of (var_named t.token.text vars) else None

-- the position that a token is
abbrev pub position_of : Option VarDecl → Option Variable
position_of None = None
position_of (Some d) = elim d.kind as (λ k. Option Variable) [ Meta k ↦ None | Position ↦ Some d.var ]

abbrev pub declared_position : List VarDecl → PatchToken → Option Variable
declared_position vars t = if is_name t then position_of (var_named t.token.text vars) else None

abbrev pub kind_by : Option MetaKind → TokenKind → TokenKind
kind_by None k = k
kind_by (Some m) k = token.Meta m

-- the token with this id, a metavariable if its name is declared
abbrev pub made : List VarDecl → ℕ → PatchToken → Token
made vars id t = record { kind = kind_by (declared_meta vars t) t.token.kind; text = t.token.text; id = id }

-- ---- the tokens of a body without its plus lines

-- the position is attached to the last token
abbrev pub with_position : Variable → List Placed → List Placed
with_position v [] = []
with_position v (p ∷ []) = record p { positions = p.positions ++ v ∷ [] } ∷ []
with_position v (p ∷ q ∷ ps) = p ∷ with_position v (q ∷ ps)

-- `@p` after a token; an `@` in any other context is an ordinary token
abbrev pub at_position : List VarDecl → List Placed → PatchToken → PatchToken → Option Variable
at_position vars [] t n = None
at_position vars (p ∷ ps) t n = if is_at t then declared_position vars n else None

abbrev pub put : List VarDecl → ℕ → ℕ → List Placed → PatchToken → List Placed
put vars sign line out t =
    out ++ record { token = made vars (length out) t; at = t.at; sign = sign; line = line; positions = [] } ∷ []

abbrev pub put_two : List VarDecl → ℕ → ℕ → List Placed → PatchToken → Option Variable → List Placed
put_two vars sign line out t (Some v) = with_position v out
put_two vars sign line out t None = put vars sign line out t

-- the number of tokens taken
abbrev pub width_of : Option Variable → ℕ
width_of (Some v) = 2
width_of None = 1

abbrev pub put_tokens : List VarDecl → ℕ → ℕ → List Placed → List PatchToken → List Placed
put_tokens vars sign line out [] = out
put_tokens vars sign line out (t ∷ []) = put vars sign line out t
put_tokens vars sign line out (t ∷ n ∷ ts) = elim (at_position vars out t n) as (λ o. List Placed) [
  | Some v ↦ put_tokens vars sign line (with_position v out) ts
  | None ↦ put_tokens vars sign line (put vars sign line out t) (n ∷ ts)
]

abbrev pub put_line : List VarDecl → ℕ → List Placed → BodyLine → List Placed
put_line vars line out l = if l.sign == 43 then out else put_tokens vars l.sign line out l.tokens

abbrev pub put_lines : List VarDecl → ℕ → List Placed → List BodyLine → List Placed
put_lines vars line out [] = out
put_lines vars line out (l ∷ ls) = put_lines vars (suc line) (put_line vars line out l) ls

abbrev pub pattern_tokens : List VarDecl → List BodyLine → List Placed
pattern_tokens vars body = put_lines vars 0 [] body

-- ---- clauses: directly after dots, the end of a nest, or another clause

-- `when any`, `when strict`, `when != code`, or a `when` that is none of them
pub data Clause : Type 0 where
  Any : Clause
  Strict : Clause
  Not : List Placed → Clause
  Broken : Clause

-- The context of the next token: it can't begin a clause; it can begin a clause of the token with this number; it follows
-- a `when` in this line; or it follows `when !=` and code.
pub data Where : Type 0 where
  Free : Where
  After : (host : ℕ) → Where
  When : (host line : ℕ) → Where
  Code : (host line : ℕ) → List Placed → Where

-- The tokens outside clauses; the clauses, each with the number of the token that it belongs to; and the words of clauses.
pub record Split : Type 0 where
  pub main : List Placed
  pub clauses : List (ℕ × Clause)
  pub words : List Placed
  pub next : Where

abbrev pub is_word_kind : TokenKind → Bool
is_word_kind token.Name = true
is_word_kind (token.Meta m) = true
is_word_kind _ = false

abbrev pub is_word : List ℕ → Placed → Bool
is_word text p = is_word_kind p.token.kind && bytes_eq p.token.text text

abbrev pub is_punct_kind : TokenKind → Bool
is_punct_kind token.Punct = true
is_punct_kind _ = false

abbrev pub is_differs : Placed → Bool
is_differs p = is_punct_kind p.token.kind && bytes_eq p.token.text (codes "!=")

-- dots, or the end of a nest
abbrev pub is_host_of : TokenKind → List ℕ → Bool
is_host_of token.Dots text = true
is_host_of token.Pat text = bytes_eq text (codes "...>") || bytes_eq text (codes "...+>")
is_host_of _ text = false

abbrev pub next_of : Placed → Where
next_of p = if is_host_of p.token.kind p.token.text then After p.token.id else Free

-- a token outside clauses
abbrev pub to_main : Split → Placed → Split
to_main s p = record { main = s.main ++ p ∷ []; clauses = s.clauses; words = s.words; next = next_of p }

abbrev pub to_words : Split → Placed → Where → Split
to_words s p next = record { main = s.main; clauses = s.clauses; words = s.words ++ p ∷ []; next = next }

abbrev pub to_clauses : Split → ℕ → Clause → Split
to_clauses s host c =
    record { main = s.main; clauses = s.clauses ++ (host, c) ∷ []; words = s.words; next = After host }

-- directly after dots, a nest or a clause
abbrev pub after : ℕ → Split → Placed → Split
after host s p = if is_word (codes "when") p then to_words s p (When host p.line) else to_main s p

-- directly after `when`
abbrev pub when_by : ℕ → ℕ → Split → Placed → Split
when_by host line s p =
    if not (p.line == line) then after host (to_clauses s host Broken) p
    else (if is_word (codes "any") p then to_clauses (to_words s p Free) host Any
    else (if is_word (codes "strict") p then to_clauses (to_words s p Free) host Strict
    else (if is_differs p then to_words s p (Code host line []) else after host (to_clauses s host Broken) p)))

-- code extends to the end of the line
abbrev pub code_by : ℕ → ℕ → List Placed → Split → Placed → Split
code_by host line code s p =
    if p.line == line then record s { next = Code host line (code ++ p ∷ []) }
    else after host (to_clauses s host (Not code)) p

abbrev pub split_by : Where → Split → Placed → Split
split_by Free s p = to_main s p
split_by (After host) s p = after host s p
split_by (When host line) s p = when_by host line s p
split_by (Code host line code) s p = code_by host line code s p

abbrev pub split_all : Split → List Placed → Split
split_all s [] = s
split_all s (p ∷ ps) = split_all (split_by s.next s p) ps

-- the last clause ends at the end of the tokens
abbrev pub ended_by : Where → Split → Split
ended_by Free s = s
ended_by (After host) s = s
ended_by (When host line) s = to_clauses s host Broken
ended_by (Code host line code) s = to_clauses s host (Not code)

abbrev pub ended : Split → Split
ended s = ended_by s.next s

abbrev pub split : List Placed → Split
split ps = ended (split_all (record { main = []; clauses = []; words = []; next = Free }) ps)
