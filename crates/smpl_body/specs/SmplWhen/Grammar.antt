-- The grammar of clauses: how the tokens of a body are split into its own tokens and its `when` clauses.
--
-- A clause directly follows dots, the end of a nest, or another clause, and begins with the word `when`:
--   when any        when strict        when != code
-- with `any`, `strict` or `!=` in the line of `when`. Code extends to the end of that line, and is split as a body is: its
-- clauses are clauses of its own dots, whose code is the rest of the line. A `when` that none of the three follows is
-- malformed, and what comes after it is read afresh.
use Rattle.std.specs.Prelude.{ℕ, suc, ◌≡◌, ◌==◌, ◌||◌, not, Bool, true, false, if◌then◌else◌, List, [], ◌∷◌, ◌++◌, None, codes}
use Rattle.std.specs.List.{list_any}
use Rattle.c_terms.specs.declared.token.Token.{Token}
use Rattle.smpl_meta.specs.declared.patterns.Placed.{Placed}
use Rattle.smpl_meta.specs.Patterns.{is_word, is_differs, is_host_of}
use Rattle.smpl_body.specs.declared.smpl_when.clauses.WhenFlags.{WhenFlags}
use Rattle.smpl_body.specs.declared.smpl_when.cutting.Code.{Code}
use Rattle.smpl_body.specs.declared.smpl_when.cutting.Cutting.{Cutting}

-- ---- which clause begins at the front of tokens that follow dots, a nest or a clause

pub data Form : Type 0 where
  -- no clause: the first token is not the word `when`, or there is none
  NoClause : Form
  -- `when any`, `when strict`, `when !=`
  Any : Form
  Strict : Form
  Differs : Form
  -- a `when` that none of the three follows in its line
  Malformed : Form

-- after this `when`
abbrev pub form_behind : Placed → List Placed → Form
form_behind w [] = Malformed
form_behind w (p ∷ ps) =
    if not (p.line == w.line) then Malformed
    else (if is_word (codes "any") p then Any
    else (if is_word (codes "strict") p then Strict
    else (if is_differs p then Differs else Malformed)))

abbrev pub form_of : List Placed → Form
form_of [] = NoClause
form_of (p ∷ ps) = if is_word (codes "when") p then form_behind p ps else NoClause

-- ---- lines

-- the tokens at the front that are in a line
abbrev pub up_to_end_of : ℕ → List Placed → List Placed
up_to_end_of line [] = []
up_to_end_of line (p ∷ ps) = if line == p.line then p ∷ up_to_end_of line ps else []

-- the tokens after those
abbrev pub behind_end_of : ℕ → List Placed → List Placed
behind_end_of line [] = []
behind_end_of line (p ∷ ps) = if line == p.line then behind_end_of line ps else p ∷ ps

-- ---- what tokens are split into

pub record Parts : Type 0 where
  -- the tokens outside clauses
  pub own : List Token
  -- the code of each `when !=`, in the order in which they begin
  pub codes : List Code
  -- the numbers of the tokens that have `when any`, and `when strict`
  pub anys : List ℕ
  pub stricts : List ℕ
  -- the numbers of the words of clauses, `!=` among them
  pub words : List ℕ
  -- some `when` is malformed
  pub broken : Bool

abbrev pub nothing : Parts
nothing = record { own = []; codes = []; anys = []; stricts = []; words = []; broken = false }

-- a token of its own before these parts
abbrev pub with_own : Placed → Parts → Parts
with_own p r = record { own = p.token ∷ r.own; codes = r.codes; anys = r.anys; stricts = r.stricts; words = r.words; broken = r.broken }

-- `when any` of the token with this number
abbrev pub with_any : ℕ → Placed → Placed → Parts → Parts
with_any host w a r = record {
  own = r.own;
  codes = r.codes;
  anys = host ∷ r.anys;
  stricts = r.stricts;
  words = w.token.id ∷ a.token.id ∷ r.words;
  broken = r.broken;
}

abbrev pub with_strict : ℕ → Placed → Placed → Parts → Parts
with_strict host w a r = record {
  own = r.own;
  codes = r.codes;
  anys = r.anys;
  stricts = host ∷ r.stricts;
  words = w.token.id ∷ a.token.id ∷ r.words;
  broken = r.broken;
}

-- `when !=`, the parts of its code, and the parts of what follows that
abbrev pub with_code : Bool → ℕ → Placed → Placed → Parts → Parts → Parts
with_code nested host w d code r = record {
  own = r.own;
  codes = record { host = host; nested = nested; tokens = code.own } ∷ code.codes ++ r.codes;
  anys = code.anys ++ r.anys;
  stricts = code.stricts ++ r.stricts;
  words = w.token.id ∷ d.token.id ∷ code.words ++ r.words;
  broken = code.broken || r.broken;
}

abbrev pub with_malformed : Placed → Parts → Parts
with_malformed w r = record {
  own = r.own;
  codes = r.codes;
  anys = r.anys;
  stricts = r.stricts;
  words = w.token.id ∷ r.words;
  broken = true;
}

-- ---- the grammar

-- Tokens directly follow the token with this number, which may have clauses, or a clause of it; or they don't.
pub data Spot : Type 0 where
  Apart : Spot
  Behind : (host : ℕ) → Spot

abbrev pub takes_clauses : Placed → Bool
takes_clauses p = is_host_of p.token.kind p.token.text

-- Tokens of a body, or of code, have these parts.
pub data IsParted : (nested : Bool) → Spot → List Placed → Parts → Type 0 where
  -- no token
  ends : {nested : Bool} → IsParted nested Apart [] nothing
  -- a token of its own
  plain : {nested : Bool} {ps : List Placed} {r : Parts} → (p : Placed) → takes_clauses p ≡ false
      → IsParted nested Apart ps r → IsParted nested Apart (p ∷ ps) (with_own p r)
  -- dots, or the end of a nest
  dots : {nested : Bool} {ps : List Placed} {r : Parts} → (p : Placed) → takes_clauses p ≡ true
      → IsParted nested (Behind p.token.id) ps r → IsParted nested Apart (p ∷ ps) (with_own p r)
  -- no clause follows
  apart : {nested : Bool} {host : ℕ} {ps : List Placed} {r : Parts} → form_of ps ≡ NoClause
      → IsParted nested Apart ps r → IsParted nested (Behind host) ps r
  any : {nested : Bool} {host : ℕ} {ps : List Placed} {r : Parts} → (w a : Placed) → form_of (w ∷ a ∷ ps) ≡ Any
      → IsParted nested (Behind host) ps r → IsParted nested (Behind host) (w ∷ a ∷ ps) (with_any host w a r)
  strict : {nested : Bool} {host : ℕ} {ps : List Placed} {r : Parts} → (w a : Placed) → form_of (w ∷ a ∷ ps) ≡ Strict
      → IsParted nested (Behind host) ps r → IsParted nested (Behind host) (w ∷ a ∷ ps) (with_strict host w a r)
  -- code up to the end of the line, and what follows that
  differs : {nested : Bool} {host : ℕ} {ps : List Placed} {c r : Parts} → (w d : Placed) → form_of (w ∷ d ∷ ps) ≡ Differs
      → IsParted true Apart (up_to_end_of w.line ps) c → IsParted nested (Behind host) (behind_end_of w.line ps) r
      → IsParted nested (Behind host) (w ∷ d ∷ ps) (with_code nested host w d c r)
  malformed : {nested : Bool} {host : ℕ} {ps : List Placed} {r : Parts} → (w : Placed) → form_of (w ∷ ps) ≡ Malformed
      → IsParted nested (Behind host) ps r → IsParted nested (Behind host) (w ∷ ps) (with_malformed w r)

-- ---- what the clauses of each token say

abbrev pub has : ℕ → List ℕ → Bool
has n ns = list_any (λ m. n == m) ns

-- the numbers of a token's pieces of code, if the pieces are numbered from k
abbrev pub numbers_at : ℕ → ℕ → List Code → List ℕ
numbers_at n k [] = []
numbers_at n k (c ∷ cs) = if n == c.host then k ∷ numbers_at n (suc k) cs else numbers_at n (suc k) cs

-- what the clauses of the token with the number n say
abbrev pub said_at : ℕ → Parts → WhenFlags
said_at n r = record { any = has n r.anys; strict = has n r.stricts; codes = numbers_at n 0 r.codes }

-- what the clauses of these tokens say, which are numbered from n
abbrev pub said_from : ℕ → List Placed → Parts → List WhenFlags
said_from n [] r = []
said_from n (p ∷ ps) r = said_at n r ∷ said_from (suc n) ps r

-- The tokens of a body are split in this way.
pub record IsCut (ps : List Placed) (c : Cutting) : Type 0 where
  pub parts : Parts
  pub are : IsParted false Apart ps parts
  pub main : c.main ≡ parts.own
  pub codes : c.codes ≡ parts.codes
  pub none : c.inner ≡ None
  pub said : c.said ≡ said_from 0 ps parts
  pub words : c.words ≡ parts.words
  pub broken : c.broken ≡ parts.broken
