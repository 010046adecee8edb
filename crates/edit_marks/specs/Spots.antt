-- Where an alignment inserts plus code.
use Rattle.std.specs.Prelude.{ℕ, ◌-◌, ◌&&◌, Bool, true, false, List, [], ◌∷◌, ◌++◌, length, nat_lt, slice_index, slice_get}
use Rattle.std.specs.Prelude.{Option, None, Some, is_some, if◌then◌else◌}
use Rattle.std.specs.Ordering.{on, then_cmp, nat_cmp}
use Rattle.std.specs.declared.cmp.Ordering.{Ordering}
use Rattle.smpl_patch.specs.declared.pattern.PatToken.{PatToken}
use Rattle.edit_marks.specs.declared.removals.Aligned.{Aligned}
use Rattle.edit_marks.specs.declared.spot.PlusSpot.{PlusSpot}

abbrev pub side : Bool → ℕ
side true = 1
side false = 0

-- by token, with those before a token first, then by the pattern token
abbrev pub spot_order : PlusSpot → PlusSpot → Ordering
spot_order = then_cmp (then_cmp (on (λ s. s.token) nat_cmp) (on (λ s. side s.after) nat_cmp)) (on (λ s. s.pattern) nat_cmp)

-- the first and the last of the tokens that a pattern token is aligned with, if it has a block before or after it
abbrev pub token_spots : PatToken → Aligned → List PlusSpot
token_spots t p =
    (if is_some t.before && nat_lt 0 (length p.files) then record { token = slice_index p.files 0; after = false; pattern = p.pattern } ∷ [] else [])
    ++ (if is_some t.after && nat_lt 0 (length p.files) then
    record { token = slice_index p.files (length p.files - 1); after = true; pattern = p.pattern } ∷ [] else [])

abbrev pub spots_of : Option PatToken → Aligned → List PlusSpot
spots_of None p = []
spots_of (Some t) p = token_spots t p

abbrev pub all_spots : List PatToken → List Aligned → List PlusSpot
all_spots tokens [] = []
all_spots tokens (p ∷ pairs) = spots_of (slice_get tokens p.pattern) p ++ all_spots tokens pairs
