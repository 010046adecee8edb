-- The tokens next to a block of plus code in the new text of its edit alone.
use Rattle.std.specs.Prelude.{ℕ, zero, suc, ◌≡◌, ◌≤◌, ◌<◌, ◌+◌, ◌-◌, ◌==◌, ◌&&◌, Bool, true, false, not, List, [], ◌∷◌, ◌++◌, drop, length, take, slice_get}
use Rattle.std.specs.Prelude.{Option, None, Some, All, if◌then◌else◌}
use Rattle.std.specs.List.{list_any}
use Rattle.std.specs.Ordering.{is_lt}
use Rattle.edit_marks.specs.declared.file_tokens.FileToken.{FileToken}
use Rattle.edit_marks.specs.declared.spot.PlusSpot.{PlusSpot}
use Rattle.edit_marks.specs.declared.tidy.edges.PlacedBlock.{PlacedBlock}
use Rattle.edit_marks.specs.declared.tidy.words.BlockWord.{BlockWord}
use Rattle.edit_marks.specs.Blocks.{left_after}
use Rattle.edit_marks.specs.Spots.{side, spot_order}
use Rattle.edit_marks.specs.Tidy.Brackets.{first_token, with_brackets}
use Rattle.edit_marks.specs.Tidy.Layout.{last_word}

-- no block's place is before those of earlier blocks
abbrev pub AreInPlace : List PlacedBlock → Type 0
AreInPlace [] = Unit {0}
AreInPlace (b ∷ blocks) = All (λ c. is_lt (spot_order c.spot b.spot) ≡ false) blocks × AreInPlace blocks

-- a block or a token of the file in the new text, by its first and its last token, where it has some
pub record Entry : Type 0 where
  pub first : Option (List ℕ)
  pub last : Option (List ℕ)

abbrev pub same_side : Bool → Bool → Bool
same_side true after = after
same_side false after = not after

abbrev pub is_place : ℕ → Bool → PlacedBlock → Bool
is_place token after b = b.spot.token == token && same_side b.spot.after after

abbrev pub block_entry : PlacedBlock → Entry
block_entry b = record { first = first_token b.words None; last = last_word None b.words }

-- the blocks at a place
abbrev pub blocks_at : ℕ → Bool → List PlacedBlock → List Entry
blocks_at token after [] = []
blocks_at token after (b ∷ blocks) = (if is_place token after b then block_entry b ∷ [] else []) ++ blocks_at token after blocks

-- a token of the file, if the edit keeps it
abbrev pub kept_entry : List ℕ → ℕ → Option FileToken → List Entry
kept_entry removed token None = []
kept_entry removed token (Some f) =
    if list_any (λ n. n == token) removed then [] else record { first = Some f.text; last = Some f.text } ∷ []

-- the last token of entries, after an earlier one
abbrev pub last_in : Option (List ℕ) → List Entry → Option (List ℕ)
last_in left [] = left
last_in left (e ∷ entries) = last_in (left_after left e.last) entries

-- the first token of entries
abbrev pub first_in : List Entry → Option (List ℕ)
first_in [] = None
first_in (e ∷ entries) = left_after (first_in entries) e.first

module _ (files : List FileToken) (removed : List ℕ) where
  -- at a token of the file: the blocks before it, the token if the edit keeps it, and the blocks after it
  abbrev pub entries_at : List PlacedBlock → ℕ → List Entry
  entries_at blocks token =
      blocks_at token false blocks ++ (kept_entry removed token (slice_get files token) ++ blocks_at token true blocks)

  -- at the first tokens, this many
  abbrev pub entries_before : List PlacedBlock → ℕ → List Entry
  entries_before blocks zero = []
  entries_before blocks (suc n) = entries_before blocks n ++ entries_at blocks n

  -- at this many tokens from one on
  abbrev pub entries_from : List PlacedBlock → ℕ → ℕ → List Entry
  entries_from blocks token zero = []
  entries_from blocks token (suc n) = entries_at blocks token ++ entries_from blocks (token + 1) n

  -- what stands before what comes after a place, where the blocks there are among these
  abbrev pub before : List PlacedBlock → ℕ → Bool → List Entry
  before blocks token false = entries_before blocks token ++ blocks_at token false blocks
  before blocks token true = entries_before blocks token ++ entries_at blocks token

  -- what stands behind what comes before a place, where the blocks there are among these
  abbrev pub behind : List PlacedBlock → ℕ → Bool → List Entry
  behind blocks token false = entries_at blocks token ++ entries_from blocks (token + 1) (length files - (token + 1))
  behind blocks token true = blocks_at token true blocks ++ entries_from blocks (token + 1) (length files - (token + 1))

  -- the last token before the place of a block, with what the blocks before it put there
  abbrev pub left_of_block : List PlacedBlock → ℕ → Option PlacedBlock → Option (List ℕ)
  left_of_block blocks number None = None
  left_of_block blocks number (Some b) = last_in None (before (take number blocks) b.spot.token b.spot.after)

  -- the first token behind the place of a block, with what the blocks behind it put there
  abbrev pub right_of_block : List PlacedBlock → ℕ → Option PlacedBlock → Option (List ℕ)
  right_of_block blocks number None = None
  right_of_block blocks number (Some b) = first_in (behind (drop (number + 1) blocks) b.spot.token b.spot.after)

  abbrev pub left_of : List PlacedBlock → ℕ → Option (List ℕ)
  left_of blocks number = left_of_block blocks number (slice_get blocks number)

  abbrev pub right_of : List PlacedBlock → ℕ → Option (List ℕ)
  right_of blocks number = right_of_block blocks number (slice_get blocks number)

abbrev pub words_in : Option PlacedBlock → List BlockWord
words_in None = []
words_in (Some b) = b.words

-- the words of the block with a number, with brackets around the values that need them
abbrev pub words_at : List FileToken → List ℕ → List PlacedBlock → ℕ → List BlockWord
words_at files removed blocks number =
    with_brackets (left_of files removed blocks number) (right_of files removed blocks number) (words_in (slice_get blocks number))
