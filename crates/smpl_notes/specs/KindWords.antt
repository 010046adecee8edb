-- The words for kinds of metavariables, and which of them a word was meant to be.
use Rattle.std.specs.Prelude.{ℕ, Bool, ◌||◌, cond, nat_eq, List, [], ◌∷◌, length, map, Option, None, Some, is_some, codes}
use Rattle.std.specs.List.{fold}
use Rattle.std.specs.Option.{option_or}
use Rattle.strsim.specs.Edits.{levenshtein_row}
use Rattle.c_terms.specs.Same.{same_bytes}
use Rattle.smpl_notes.specs.declared.kind_word.KindWord.{KindWord}
use Rattle.smpl_notes.specs.declared.kind_word.KindWord.TheVariants as kind

abbrev pub kind_text : KindWord → List ℕ
kind_text kind.Expression = codes "expression"
kind_text kind.Identifier = codes "identifier"
kind_text kind.Constant = codes "constant"
kind_text kind.Type = codes "type"
kind_text kind.Parameter = codes "parameter"
kind_text kind.Statement = codes "statement"
kind_text kind.Position = codes "position"
kind_text kind.Symbol = codes "symbol"
kind_text kind.Idexpression = codes "idexpression"

abbrev pub all_kinds : List KindWord
all_kinds =
    kind.Expression ∷ kind.Identifier ∷ kind.Constant ∷ kind.Type ∷ kind.Parameter ∷ kind.Statement ∷ kind.Position ∷ kind.Symbol
    ∷ kind.Idexpression ∷ []

-- how many bytes must be added, left out or replaced: the distance of Levenshtein
unfoldable pub distance : List ℕ → List ℕ → ℕ
distance word text = levenshtein_row nat_eq word text (length text)

-- this kind, if its word is at that distance
abbrev pub one_at : ℕ → List ℕ → KindWord → Option KindWord
one_at far word k = cond (nat_eq (distance word (kind_text k)) far) (Some k) None

-- the first kind whose word is at that distance
abbrev pub kind_at : ℕ → List ℕ → Option KindWord
kind_at far word = fold option_or None (map (one_at far word) all_kinds)

-- The kind whose word this was meant to be: the nearest, at a distance of 1 or 2. A word for a kind was meant to be itself.
abbrev pub kind_meant : List ℕ → Option KindWord
kind_meant word = cond (is_some (kind_at 0 word)) None (option_or (kind_at 1 word) (kind_at 2 word))

abbrev pub is_either : List ℕ → List ℕ → List ℕ → Bool
is_either word one other = same_bytes word one || same_bytes word other

-- Coccinelle has this word for a kind of metavariables that can't be declared here
abbrev pub is_unread_kind : List ℕ → Bool
is_unread_kind word =
    is_either word (codes "declarer") (codes "iterator") || (is_either word (codes "initializer") (codes "initialiser")
    || (is_either word (codes "declaration") (codes "field") || is_either word (codes "function") (codes "metavariable")))
