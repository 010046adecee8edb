-- Which bodies go whole, so that their last `;` stays.
use Rattle.std.specs.Prelude.{ℕ, ◌≡◌, ◌<◌, ◌+◌, ◌-◌, ◌==◌, ◌&&◌, ◌||◌, Bool, true, false, not, List, [], ◌∷◌, filter, get_or, length, nat_lt}
use Rattle.std.specs.Prelude.{slice_get, slice_range, take, if◌then◌else◌, Option, None, Some, option_and_then}
use Rattle.std.specs.List.{filter_map, list_all, list_any}
use Rattle.edit_marks.specs.declared.edit_conflict.edit.Insert.{Insert}
use Rattle.edit_marks.specs.declared.edit_conflict.edit.Edit.{Edit}
use Rattle.edit_marks.specs.declared.tidy.bodies.Changes.{Changes}
use Rattle.edit_marks.specs.declared.tidy.shape.Body.{Body}
use Rattle.edit_marks.specs.declared.tidy.shape.Outline.{Outline}
use Rattle.edit_marks.specs.EditConflict.Clashes.{removes}
use Rattle.edit_marks.specs.EditConflict.Same.{side_number}

-- What edits do at tokens: whether some edit removes a token, whether some edit inserts at it, on any side, and whether some
-- edit inserts behind it.
pub record Acts : Type 0 where
  pub goes : ℕ → Bool
  pub comes : ℕ → Bool
  pub comes_behind : ℕ → Bool

abbrev pub is_at : List Insert → ℕ → Bool
is_at inserts token = list_any (λ i. i.token == token) inserts

abbrev pub is_after : List Insert → ℕ → Bool
is_after inserts token = list_any (λ i. i.token == token && side_number i.side == 1) inserts

-- all edits of a rule together
abbrev pub acts_of : List Edit → Acts
acts_of edits = record {
  goes = λ n. list_any (removes n) edits;
  comes = λ n. list_any (λ e. is_at e.inserts n) edits;
  comes_behind = λ n. list_any (λ e. is_after e.inserts n) edits;
}

-- a body of a statement that ends in a `;`, with a token before it in its statement
abbrev pub may_stay : Body → Bool
may_stay b = not b.is_function && b.has_semicolon && nat_lt b.owner b.leaves.from && nat_lt b.leaves.from b.leaves.to

module _ (at : Acts) where
  -- the token goes, and nothing comes at it
  abbrev pub is_bare : ℕ → Bool
  is_bare token = at.goes token && not (at.comes token)

  -- all leaves from one up to another go, and nothing comes at them
  abbrev pub are_bare : List ℕ → ℕ → ℕ → Bool
  are_bare leaves from to = list_all is_bare (slice_range leaves from to)

  abbrev pub leaf_stays : Option ℕ → Bool
  leaf_stays None = true
  leaf_stays (Some token) = not (at.goes token)

  -- the `else` behind the first body of an `if` stays, or goes with the whole second body
  abbrev pub goes_with_else : List ℕ → ℕ → Option ℕ → Bool
  goes_with_else leaves word None = true
  goes_with_else leaves word (Some end) = leaf_stays (slice_get leaves word) || are_bare leaves word end

  -- A body goes whole, given the token before it: that token stays, all tokens of the body go, and nothing comes at them or
  -- behind the token before it. Where the `else` behind it goes too, the same holds of it and of the second body.
  abbrev pub goes_whole : List ℕ → Body → ℕ → Bool
  goes_whole leaves b lead = not (at.goes lead) && not (at.comes_behind lead)
      && are_bare leaves b.leaves.from b.leaves.to && goes_with_else leaves b.leaves.to b.second_end

  -- the last token of a body that goes whole and ends in a `;`
  abbrev pub stays_of : List ℕ → Body → Option ℕ
  stays_of leaves b = if may_stay b then option_and_then (λ lead.
      if goes_whole leaves b lead then slice_get leaves (b.leaves.to - 1) else None) (slice_get leaves (b.leaves.from - 1)) else None

  -- the tokens that stay though they are aligned with minus tokens
  abbrev pub staying : Outline → List ℕ
  staying outline = filter_map (stays_of outline.leaves.items) outline.bodies.items

-- an edit without the removal of tokens that stay
abbrev pub without : List ℕ → Edit → Edit
without stays e = record e { removed = filter (λ n. not (list_any (λ m. m == n) stays)) e.removed }

-- for internal use: flags of tokens

-- what flags of tokens say of the edits
abbrev pub acts_in : Changes → Acts
acts_in c = record {
  goes = λ n. get_or c.removed.items n false;
  comes = λ n. get_or c.inserts.items n false;
  comes_behind = λ n. get_or c.after.items n false;
}

-- the token is this one
abbrev pub is_one : Option ℕ → ℕ → Bool
is_one None n = false
is_one (Some token) n = token == n

-- a flag for each token, set where the test holds
pub record AreFlags (count : ℕ) (test : ℕ → Bool) (flags : List Bool) : Type 0 where
  pub long : length flags ≡ count
  pub each : (n : ℕ) → n < count → get_or flags n false ≡ test n

-- the flags are those from before, and those where the test holds
pub record AddsFlags (old new : List Bool) (test : ℕ → Bool) : Type 0 where
  pub long : length new ≡ length old
  pub each : (n : ℕ) → n < length old → get_or new n false ≡ (get_or old n false || test n)

pub record AreChanges (count : ℕ) (edits : List Edit) (changes : Changes) : Type 0 where
  pub removed : AreFlags count (acts_of edits).goes changes.removed.items
  pub inserts : AreFlags count (acts_of edits).comes changes.inserts.items
  pub after : AreFlags count (acts_of edits).comes_behind changes.after.items

module _ (at : Acts) where
  abbrev pub count_bare : List ℕ → ℕ
  count_bare [] = 0
  count_bare (n ∷ tokens) = (if is_bare at n then 1 else 0) + count_bare tokens

  -- for each number of leaves, how many of these first ones go, with nothing that comes at them
  pub record AreCountsOf (leaves counts : List ℕ) : Type 0 where
    pub long : length counts ≡ length leaves + 1
    pub each : (n : ℕ) (d : ℕ) → n < length counts → get_or counts n d ≡ count_bare (take n leaves)

abbrev pub without_flagged : List Bool → Edit → Edit
without_flagged stays e = record e { removed = filter (λ n. not (get_or stays n false)) e.removed }
