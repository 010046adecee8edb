-- The text of plus code: its lines without the blanks that begin all of them, with metavariables written out.
use Rattle.std.specs.Prelude.{ℕ, zero, suc, ◌≡◌, ◌-◌, ◌||◌, Bool, true, false, min, List, [], ◌∷◌, ◌++◌, drop, length}
use Rattle.std.specs.Prelude.{slice_get, Option, None, Some, option_and_then, if◌then◌else◌, codes}
use Rattle.std.specs.Str.{bytes_eq}
use Rattle.c_terms.specs.declared.token.Token.{Token}
use Rattle.c_terms.specs.declared.token.TokenKind.{TokenKind}
use Rattle.c_terms.specs.declared.token.TokenKind.TheVariants.{Meta}
use Rattle.c_terms.specs.declared.tree.Tree.{Tree}
use Rattle.c_terms.specs.Trees.{leaves}
use Rattle.smpl_terms.specs.declared.var.Var.{Var}
use Rattle.smpl_patch.specs.declared.pattern.VarDecl.{VarDecl}
use Rattle.smpl_patch.specs.Patterns.{declared_as}
use Rattle.smpl_terms.specs.declared.value.Value.{Value}
use Rattle.smpl_terms.specs.declared.value.Value.TheVariants.{Term, Place}
use Rattle.smpl_terms.specs.Environments.{value_in}
use Rattle.c_show.specs.Joint.{runs_together}
use Rattle.c_show.specs.Show.{show_of}
use Rattle.edit_marks.specs.declared.line.Chunk.{Chunk}
use Rattle.smpl_patch.specs.declared.pattern.PlusLine.{PlusLine}
use Rattle.smpl_patch.specs.declared.pattern.PlusBlock.{PlusBlock}

abbrev pub term_of : Value → Option Tree
term_of (Term t) = Some t
term_of (Place p) = None

abbrev pub Environment : Type 0
Environment = List (Var × Value)

-- the term of the variable with this name
abbrev pub term : List VarDecl → Environment → List ℕ → Option Tree
term decls env name = option_and_then (λ d. option_and_then term_of (value_in env d.var)) (declared_as decls name)

abbrev pub is_meta : TokenKind → Bool
is_meta (Meta kind) = true
is_meta kind = false

abbrev pub text_of_token : Option Token → Option (List ℕ)
text_of_token None = None
text_of_token (Some t) = Some t.text

-- the text of a metavariable that has this term
abbrev pub value_chunk : Tree → Chunk
value_chunk t = record { text = show_of t; first = text_of_token (slice_get (leaves t) 0); last = text_of_token (slice_get (leaves t) (length (leaves t) - 1)) }

abbrev pub no_chunk : Chunk
no_chunk = record { text = []; first = None; last = None }

abbrev pub term_chunk : Option Tree → Chunk
term_chunk None = no_chunk
term_chunk (Some t) = value_chunk t

-- the text of a token of plus code
abbrev pub chunk_of : List VarDecl → Environment → Token → Chunk
chunk_of decls env t = if is_meta t.kind then term_chunk (term decls env t.text) else record { text = t.text; first = Some t.text; last = Some t.text }

-- the token to the left, if no blanks separate it from what comes
abbrev pub left_at : Option (List ℕ) → List ℕ → Option (List ℕ)
left_at left [] = left
left_at left (b ∷ bs) = None

-- whether two tokens that are side by side run together
abbrev pub is_together : Option (List ℕ) → Option (List ℕ) → Bool
is_together None first = false
is_together (Some left) None = false
is_together (Some left) (Some first) = runs_together left first

abbrev pub blank_between : Option (List ℕ) → Option (List ℕ) → List ℕ
blank_between left first = if is_together left first then 32 ∷ [] else []

-- the token to the left of what comes after these
abbrev pub left_after : Option (List ℕ) → Option (List ℕ) → Option (List ℕ)
left_after left None = left
left_after left (Some last) = Some last

-- a token with the blanks before it, after a token that it may be beside
abbrev pub chunk_text : Option (List ℕ) → List ℕ → Chunk → List ℕ
chunk_text left gap chunk = gap ++ (blank_between (left_at left gap) chunk.first ++ chunk.text)

-- tokens with the blanks before each, after a token that they may be beside
abbrev pub tokens_text : List VarDecl → Environment → Option (List ℕ) → List (List ℕ) → List Token → List ℕ
tokens_text decls env left gaps [] = []
tokens_text decls env left [] (t ∷ tokens) = []
tokens_text decls env left (gap ∷ gaps) (t ∷ tokens) =
    chunk_text left gap (chunk_of decls env t) ++ tokens_text decls env (left_after (left_at left gap) (chunk_of decls env t).last) gaps tokens

-- without the blanks before the first token, as far as they begin all lines
abbrev pub without_lead : ℕ → List (List ℕ) → List (List ℕ)
without_lead m [] = []
without_lead m (gap ∷ gaps) = drop m gap ∷ gaps

abbrev pub line_text : List VarDecl → Environment → ℕ → PlusLine → List ℕ
line_text decls env m line = tokens_text decls env None (without_lead m line.gaps) line.tokens

-- the least number of blanks at the start of a line that has a token
abbrev pub least : Option ℕ → ℕ → Option ℕ
least None n = Some n
least (Some m) n = Some (min m n)

abbrev pub least_with : Option ℕ → List Token → ℕ → Option ℕ
least_with m [] lead = m
least_with m (t ∷ tokens) lead = least m lead

abbrev pub least_lead : Option ℕ → List PlusLine → Option ℕ
least_lead m [] = m
least_lead m (line ∷ lines) = least_lead (least_with m line.tokens line.lead) lines

abbrev pub lead_of : Option ℕ → ℕ
lead_of None = 0
lead_of (Some m) = m

-- the lines after the first, each preceded by a joint
abbrev pub more_lines : List VarDecl → Environment → ℕ → List ℕ → List PlusLine → List ℕ
more_lines decls env m joint [] = []
more_lines decls env m joint (line ∷ lines) = joint ++ (line_text decls env m line ++ more_lines decls env m joint lines)

abbrev pub lines_text : List VarDecl → Environment → ℕ → List ℕ → List PlusLine → List ℕ
lines_text decls env m joint [] = []
lines_text decls env m joint (line ∷ lines) = line_text decls env m line ++ more_lines decls env m joint lines

-- the text of a block whose lines are joined by these bytes
abbrev pub block_text : List VarDecl → Environment → List ℕ → PlusBlock → List ℕ
block_text decls env joint block = lines_text decls env (lead_of (least_lead None block.lines)) joint block.lines

-- the last token of tokens, of lines
abbrev pub last_token : List VarDecl → Environment → Option (List ℕ) → List Token → Option (List ℕ)
last_token decls env left [] = left
last_token decls env left (t ∷ tokens) = last_token decls env (left_after left (chunk_of decls env t).last) tokens

abbrev pub last_of_lines : List VarDecl → Environment → Option (List ℕ) → List PlusLine → Option (List ℕ)
last_of_lines decls env left [] = left
last_of_lines decls env left (line ∷ lines) = last_of_lines decls env (last_token decls env left line.tokens) lines

-- where a new line of plus code may begin: the text is `;`, `{`, `}` or `:`
abbrev pub ends_line : List ℕ → Bool
ends_line text = bytes_eq text (codes ";") || bytes_eq text (codes "{") || bytes_eq text (codes "}") || bytes_eq text (codes ":")

abbrev pub block_ends : Option (List ℕ) → Bool
block_ends None = false
block_ends (Some text) = ends_line text

-- each line has as many gaps as tokens
abbrev pub AreEven : List PlusLine → Type 0
AreEven [] = Unit {0}
AreEven (line ∷ lines) = (length line.gaps ≡ length line.tokens) × AreEven lines

-- the text of the lines from this number on
abbrev pub rest_lines : List VarDecl → Environment → ℕ → List ℕ → ℕ → List PlusLine → List ℕ
rest_lines decls env m joint zero lines = lines_text decls env m joint lines
rest_lines decls env m joint (suc i) lines = more_lines decls env m joint lines
