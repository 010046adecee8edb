-- The rows of bodies: the tokens that stand in their places after edits.
use Rattle.std.specs.Prelude.{ℕ, ◌+◌, ◌&&◌, ◌||◌, Bool, true, false, not, List, [], ◌∷◌, ◌++◌, codes, filter, length, map, nat_eq, nat_lt}
use Rattle.std.specs.Prelude.{slice_get, slice_range, if◌then◌else◌, Option, None, Some}
use Rattle.std.specs.List.{list_all, list_any}
use Rattle.c_terms.specs.declared.token.Token.{Token}
use Rattle.c_terms.specs.declared.token.TokenKind.TheVariants.{Punct}
use Rattle.edit_marks.specs.declared.tidy.shape.Body.{Body}
use Rattle.edit_marks.specs.declared.tidy.shape.LeafRange.{LeafRange}
use Rattle.edit_marks.specs.declared.tidy.touch.PatternStatement.{PatternStatement}
use Rattle.edit_unparse.specs.declared.tidy.plan.Placed.{Placed}
use Rattle.edit_bodies.specs.declared.braces.Coming.{Coming}
use Rattle.edit_bodies.specs.declared.braces.Spot.{Spot}

-- What a text consists of after edits: its tokens by their numbers, which of them the edits remove, which are commas that go
-- since nothing is left beside them, the inserts on either side of a token's place, in the order in which they stand there, and
-- the visible tokens of an insert. At some tokens the edits themselves insert, wherever those inserts then stand.
pub record NewText : Type 0 where
  pub token : ℕ → Token
  pub goes : ℕ → Bool
  pub falls : ℕ → Bool
  pub comes : ℕ → Bool
  pub inserts : ℕ → Bool → List Placed
  pub words : Placed → List Token

-- a token of a row, and where it ends
pub record RowToken : Type 0 where
  pub token : Token
  pub end : Spot

-- a place behind so many of the inserts on a side of a token
abbrev pub spot : ℕ → Bool → ℕ → Spot
spot token after inserts = record { token = token; after = after; inserts = inserts }

abbrev pub same_flag : Bool → Bool → Bool
same_flag true b = b
same_flag false b = not b

abbrev pub same_spot : Spot → Spot → Bool
same_spot a b = nat_eq a.token b.token && (same_flag a.after b.after && nat_eq a.inserts b.inserts)

-- a brace that comes
abbrev pub brace : Bool → Token
brace true = record { kind = Punct; text = codes "{"; id = 0 }
brace false = record { kind = Punct; text = codes "}"; id = 0 }

abbrev pub ending_at : Spot → List Token → List RowToken
ending_at s tokens = map (λ t. record { token = t; end = s }) tokens

-- the braces that come at a place, in the order in which they came
abbrev pub braces_at : List Coming → Spot → List RowToken
braces_at braces s = ending_at s (map (λ b. brace b.opens) (filter (λ b. same_spot b.spot s) braces))

module _ (text : NewText) where
  -- a token, if it stays
  abbrev pub own_token : ℕ → List RowToken
  own_token n = if text.goes n || text.falls n then [] else record { token = text.token n; end = spot n true 0 } ∷ []

module _ (text : NewText) (braces : List Coming) where
  -- these inserts on a side of a token, each with the braces behind it, where so many inserts stand before them
  abbrev pub row_inserts : ℕ → Bool → ℕ → List Placed → List RowToken
  row_inserts token after count [] = []
  row_inserts token after count (p ∷ inserts) = let s = spot token after (count + 1) in
      ending_at s (text.words p) ++ (braces_at braces s ++ row_inserts token after (count + 1) inserts)

  abbrev pub row_side : ℕ → Bool → List Placed → List RowToken
  row_side token after inserts = braces_at braces (spot token after 0) ++ row_inserts token after 0 inserts

  -- a token with what stands before it, and with these of the inserts behind it
  abbrev pub row_token : ℕ → List Placed → List RowToken
  row_token n behind = row_side n false (text.inserts n false) ++ (own_token text n ++ row_side n true behind)

  -- for internal use: tokens with all that stands at them
  abbrev pub row_front : List ℕ → List RowToken
  row_front [] = []
  row_front (n ∷ tokens) = row_token n (text.inserts n true) ++ row_front tokens

  -- tokens, and behind the last of them these of the inserts there
  abbrev pub row_tokens : List Placed → List ℕ → List RowToken
  row_tokens behind [] = []
  row_tokens behind (n ∷ []) = row_token n behind
  row_tokens behind (n ∷ m ∷ tokens) = row_token n (text.inserts n true) ++ row_tokens behind (m ∷ tokens)

  -- what stands behind the token before a body
  abbrev pub row_lead : Option ℕ → List RowToken
  row_lead None = []
  row_lead (Some lead) = row_side lead true (text.inserts lead true)

  -- what stands in the place of a body: the inserts behind the token before it, and its tokens with the inserts at them, of those
  -- behind the last token these
  abbrev pub row : Option ℕ → List ℕ → List Placed → List RowToken
  row lead tokens behind = row_lead lead ++ row_tokens behind tokens

abbrev pub tokens_in : List RowToken → List Token
tokens_in row = map (λ t. t.token) row

-- ---- the inserts behind the last token of a body

abbrev pub is_proper_start : List ℕ → List ℕ → Bool
is_proper_start path [] = false
is_proper_start [] (i ∷ other) = true
is_proper_start (j ∷ path) (i ∷ other) = nat_eq j i && is_proper_start path other

-- the body is within the statement, and is not the statement
abbrev pub is_within : PatternStatement → Body → Bool
is_within s b = nat_eq s.item b.item && is_proper_start s.path b.path

-- The body is within the statement that the pattern names, at each touch of an edit: the pattern itself has written the body.
abbrev pub is_around : List (ℕ × PatternStatement) → Body → ℕ → Bool
is_around statements b edit = list_all (λ s. not (nat_eq s.0 edit) || is_within s.1 b) statements

abbrev pub unless_last : Bool → Placed → List Placed → List Placed
unless_last true p [] = []
unless_last around p inserts = p ∷ inserts

-- the inserts without those at the end whose patterns have written the body
abbrev pub counted : List (ℕ × PatternStatement) → Body → List Placed → List Placed
counted statements b [] = []
counted statements b (p ∷ inserts) = unless_last (is_around statements b p.edit) p (counted statements b inserts)

-- ---- what changes

module _ (text : NewText) where
  abbrev pub has_inserts : ℕ → Bool → Bool
  has_inserts n after = nat_lt 0 (length (text.inserts n after))

  -- the token goes, or something comes at it
  abbrev pub is_changed : ℕ → Bool
  is_changed n = text.goes n || (has_inserts n false || has_inserts n true)

  abbrev pub goes_at : Option ℕ → Bool
  goes_at None = false
  goes_at (Some n) = text.goes n

  abbrev pub comes_at : Bool → Option ℕ → Bool
  comes_at after None = false
  comes_at after (Some n) = has_inserts n after

  -- A token goes or comes in a row. Of the inserts behind the last token these are in it.
  abbrev pub changes_in : List Placed → List ℕ → Bool
  changes_in behind [] = false
  changes_in behind (n ∷ []) = text.goes n || (has_inserts n false || nat_lt 0 (length behind))
  changes_in behind (n ∷ m ∷ tokens) = is_changed n || changes_in behind (m ∷ tokens)

  abbrev pub stays_or_comes : ℕ → Bool
  stays_or_comes n = not (text.goes n) || text.comes n

  -- The leaves that stand for a body: its own, but for the first body of an `if` whose `else` goes while a token of the second body
  -- stays, or an edit inserts at the `else` or there. Then the two with the `else` are one.
  abbrev pub joined_until : List ℕ → LeafRange → ℕ → LeafRange
  joined_until leaves own end =
      if goes_at (slice_get leaves own.to) && list_any stays_or_comes (slice_range leaves own.to end)
      then record { from = own.from; to = end } else own

  abbrev pub leaves_for : List ℕ → LeafRange → Option ℕ → LeafRange
  leaves_for leaves own None = own
  leaves_for leaves own (Some end) = joined_until leaves own end
