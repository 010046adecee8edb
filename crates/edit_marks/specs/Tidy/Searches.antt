-- For internal use: the search for the token next to a block, from place to place.
use Rattle.std.specs.Prelude.{ℕ, ◌≡◌, ◌≤◌, ◌<◌, ◌+◌, ◌-◌, ◌*◌, ◌&&◌, Bool, false, nat_lt, List, drop, length, take, slice_get, slice_index_or}
use Rattle.std.specs.Prelude.{Option, None, Some}
use Rattle.edit_marks.specs.declared.file_tokens.FileToken.{FileToken}
use Rattle.edit_marks.specs.declared.tidy.edges.PlacedBlock.{PlacedBlock}
use Rattle.edit_marks.specs.declared.tidy.edges.Search.{Search}
use Rattle.edit_marks.specs.declared.tidy.edges.Step.{Step}
use Rattle.edit_marks.specs.declared.tidy.edges.Step.TheVariants.{Found, Go}
use Rattle.edit_marks.specs.Spots.{side}
use Rattle.edit_marks.specs.Tidy.Neighbours.{is_place, before, behind, first_in, last_in}

-- the block is at the place
abbrev pub is_at : Search → Option PlacedBlock → Bool
is_at p None = false
is_at p (Some b) = is_place p.token p.after b

-- of the blocks that were not looked at, the nearest is at the place
abbrev pub is_left_here : List PlacedBlock → Search → Bool
is_left_here blocks p = nat_lt 0 p.next && is_at p (slice_get blocks (p.next - 1))

abbrev pub is_right_here : List PlacedBlock → Search → Bool
is_right_here blocks p = is_at p (slice_get blocks p.next)

abbrev pub text_in : Option FileToken → Option (List ℕ)
text_in None = None
text_in (Some f) = Some f.text

abbrev pub text_at : List FileToken → ℕ → Option (List ℕ)
text_at files token = text_in (slice_get files token)

-- a token that was found, or else the next place
abbrev pub found_or : Option (List ℕ) → Search → Step
found_or None next = Go next
found_or (Some text) next = Found (Some text)

-- places in their order
abbrev pub rank : Search → ℕ
rank p = 2 * p.token + side p.after

abbrev pub rank_of : PlacedBlock → ℕ
rank_of b = 2 * b.spot.token + side b.spot.after

module _ (files : List FileToken) (removed : List ℕ) (blocks : List PlacedBlock) where
  abbrev pub found_left : Search → Option (List ℕ)
  found_left p = last_in None (before files removed (take p.next blocks) p.token p.after)

  abbrev pub found_right : Search → Option (List ℕ)
  found_right p = first_in (behind files removed (drop p.next blocks) p.token p.after)

  -- the blocks that were not looked at are at this place or before it, and the place is in the text
  pub record IsLeftSearch (p : Search) : Type 0 where
    pub next : p.next ≤ length blocks
    pub token : p.token < length files
    pub places : (k : ℕ) (d : PlacedBlock) → k < p.next → rank_of (slice_index_or blocks k d) ≤ rank p

  -- they are at this place or behind it
  pub record IsRightSearch (p : Search) : Type 0 where
    pub next : p.next ≤ length blocks
    pub token : p.token < length files
    pub places : (k : ℕ) (d : PlacedBlock) → p.next ≤ k → k < length blocks → rank p ≤ rank_of (slice_index_or blocks k d)

  -- a step to the left finds the token, or leaves it to be found, earlier
  pub record GoesLeft (p q : Search) : Type 0 where
    pub search : IsLeftSearch q
    pub same : found_left q ≡ found_left p
    pub less : q.next + rank q < p.next + rank p

  pub record GoesRight (p q : Search) : Type 0 where
    pub search : IsRightSearch q
    pub same : found_right q ≡ found_right p
    pub less : (length blocks - q.next) + (2 * length files - rank q) < (length blocks - p.next) + (2 * length files - rank p)

  abbrev pub IsLeftStep : Search → Step → Type 0
  IsLeftStep p (Found text) = text ≡ found_left p
  IsLeftStep p (Go q) = GoesLeft p q

  abbrev pub IsRightStep : Search → Step → Type 0
  IsRightStep p (Found text) = text ≡ found_right p
  IsRightStep p (Go q) = GoesRight p q
