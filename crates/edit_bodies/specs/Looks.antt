-- What becomes of bodies: which are looked at, which get braces, and which are broken.
use Rattle.std.specs.Prelude.{ℕ, ◌-◌, ◌&&◌, ◌||◌, Bool, true, false, not, List, [], ◌∷◌, ◌++◌, codes, length, nat_eq, nat_lt}
use Rattle.std.specs.Prelude.{slice_get, slice_range, drop, if◌then◌else◌, Option, None, Some}
use Rattle.std.specs.List.{flat_map, list_any}
use Rattle.std.specs.Str.{bytes_eq}
use Rattle.c_terms.specs.declared.token.Token.{Token}
use Rattle.edit_marks.specs.declared.tidy.shape.Body.{Body}
use Rattle.edit_marks.specs.declared.tidy.shape.LeafRange.{LeafRange}
use Rattle.edit_marks.specs.declared.tidy.touch.PatternStatement.{PatternStatement}
use Rattle.edit_unparse.specs.declared.tidy.plan.Placed.{Placed}
use Rattle.edit_bodies.specs.declared.braces.Coming.{Coming}
use Rattle.edit_bodies.specs.declared.braces.Spot.{Spot}
use Rattle.edit_bodies.specs.Needs.{RowForm, needs_braces}
use Rattle.edit_bodies.specs.Rows.{NewText, RowToken, comes_at, changes_in, counted, goes_at, leaves_for, own_token, row, spot, tokens_in}

-- the braces that come so far, in the order in which they came, and the last tokens of the broken bodies
pub record Seen : Type 0 where
  pub braces : List Coming
  pub broken : List ℕ

-- the inserts behind a token, if there is one
abbrev pub inserts_behind : NewText → Option ℕ → List Placed
inserts_behind text None = []
inserts_behind text (Some n) = text.inserts n true

abbrev pub is_else : Token → Bool
is_else t = bytes_eq t.text (codes "else")

abbrev pub is_first_else : List Token → Bool
is_first_else [] = false
is_first_else (t ∷ tokens) = is_else t

abbrev pub text_is : List ℕ → Option Token → Bool
text_is text None = false
text_is text (Some t) = bytes_eq t.text text

-- the row of a function's own block stands by itself: it begins with `{` and ends with `}`, or it is `;`
abbrev pub is_function_row : List Token → Bool
is_function_row tokens =
    text_is (codes "{") (slice_get tokens 0) && text_is (codes "}") (slice_get tokens (length tokens - 1))
    || nat_eq (length tokens) 1 && text_is (codes ";") (slice_get tokens 0)

abbrev pub some_token : Option ℕ → List ℕ
some_token None = []
some_token (Some n) = n ∷ []

-- where the last token of a row ends, or else at the brace that comes first
abbrev pub end_of : Spot → List RowToken → Spot
end_of start [] = start
end_of start (t ∷ row) = end_of t.end row

-- the tokens of the new text at the place of a token
abbrev pub tokens_there : NewText → ℕ → List Token
tokens_there text n = flat_map text.words (text.inserts n false)
    ++ (tokens_in (own_token text n) ++ flat_map text.words (text.inserts n true))

module _ (text : NewText) (leaves : List ℕ) (statements : List (ℕ × PatternStatement)) where
  -- the leaves that stand for a body
  abbrev pub own_leaves : Body → LeafRange
  own_leaves b = if b.is_function then b.leaves else leaves_for text leaves b.leaves b.second_end

  abbrev pub own_tokens : Body → List ℕ
  own_tokens b = let r = own_leaves b in slice_range leaves r.from r.to

  abbrev pub last_of : Body → Option ℕ
  last_of b = let r = own_leaves b in slice_get leaves (r.to - 1)

  abbrev pub first_of : Body → Option ℕ
  first_of b = slice_get leaves b.leaves.from

  -- the token before a body in its statement or function
  abbrev pub lead_of : Body → Option ℕ
  lead_of b = if nat_lt b.owner b.leaves.from then slice_get leaves (b.leaves.from - 1) else None

  -- the inserts behind the body's last token that are in its row, and those that are not
  abbrev pub behind_of : Body → List Placed
  behind_of b = counted statements b (inserts_behind text (last_of b))

  abbrev pub left_out_of : Body → List Placed
  left_out_of b = drop (length (behind_of b)) (inserts_behind text (last_of b))

  abbrev pub row_of : Body → List Coming → List RowToken
  row_of b braces = row text braces (lead_of b) (own_tokens b) (behind_of b)

  -- the row's own leaves are those of a block
  abbrev pub is_whole_block : Body → Bool
  is_whole_block b = b.is_block && nat_eq (own_leaves b).to b.leaves.to

  -- a brace of the block goes, or an insert stands behind the token before it, before its `{` or, counted, behind its `}`
  abbrev pub opens_up : Body → Bool
  opens_up b = goes_at text (first_of b) || (goes_at text (last_of b) || (comes_at text true (lead_of b)
      || (comes_at text false (first_of b) || nat_lt 0 (length (behind_of b)))))

  abbrev pub has_lead_that_stays : Option ℕ → Bool
  has_lead_that_stays None = false
  has_lead_that_stays (Some lead) = not (text.goes lead)

  -- A body of a statement is looked at if it has tokens, the token before it stays, and a token of its row goes or comes, where
  -- it is no block or the block is opened up.
  abbrev pub is_looked_at : Body → Bool
  is_looked_at b = nat_lt b.leaves.from b.leaves.to && (has_lead_that_stays (lead_of b)
      && ((comes_at text true (lead_of b) || changes_in text (behind_of b) (own_tokens b)) && (not (is_whole_block b) || opens_up b)))

  -- A function's own block is looked at if one of its braces goes while a token of the function before it stays.
  abbrev pub is_torn : Body → Bool
  is_torn b = nat_lt b.leaves.from b.leaves.to && ((goes_at text (first_of b) || goes_at text (last_of b))
      && list_any (λ n. not (text.goes n)) (slice_range leaves b.owner b.leaves.from))

  -- the tokens behind a row, up to the end of the items
  abbrev pub tokens_behind : Body → List Token
  tokens_behind b = flat_map text.words (left_out_of b) ++ flat_map (tokens_there text) (drop (own_leaves b).to leaves)

  -- the braces that a body gets: the first one directly behind the token before the body, before the inserts there, and the other
  -- directly behind the row's last token, or behind the first brace if the row has none
  abbrev pub pair_at : ℕ → Option ℕ → List RowToken → List Coming
  pair_at lead None tokens = []
  pair_at lead (Some owner) tokens = let start = spot lead true 0 in
      record { spot = start; opens = true; owner = owner } ∷ record { spot = end_of start tokens; opens = false; owner = owner } ∷ []

  abbrev pub pair_for : Body → Option ℕ → List RowToken → List Coming
  pair_for b None tokens = []
  pair_for b (Some lead) tokens = pair_at lead (slice_get leaves b.owner) tokens

  abbrev pub last_token : Body → List ℕ
  last_token b = some_token (last_of b)

  -- what becomes of a body, given the form of its row, or None if the row is no list of statements
  abbrev pub seen_row : Body → Option RowForm → Seen → Seen
  seen_row b None s = record s { broken = s.broken ++ last_token b }
  seen_row b (Some f) s = record s {
    braces = s.braces
        ++ (if needs_braces (is_first_else (tokens_behind b)) f then pair_for b (lead_of b) (row_of b s.braces) else []);
  }

  abbrev pub seen_statement : Body → Option RowForm → Seen → Seen
  seen_statement b form s = if is_looked_at b then seen_row b form s else s

  abbrev pub seen_function : Body → Seen → Seen
  seen_function b s = if is_torn b && not (is_function_row (tokens_in (row_of b s.braces))) then record s { broken = s.broken ++ last_token b } else s

  abbrev pub see : Body → Option RowForm → Seen → Seen
  see b form s = if b.is_function then seen_function b s else seen_statement b form s

  -- what becomes of bodies, in their order, given the forms of their rows
  abbrev pub see_all : List Body → List (Option RowForm) → Seen → Seen
  see_all [] forms s = s
  see_all (b ∷ bodies) [] s = s
  see_all (b ∷ bodies) (form ∷ forms) s = see_all bodies forms (see b form s)
