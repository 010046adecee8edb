-- The statements of which nothing stays.
use Rattle.std.specs.Prelude.{ℕ, ◌≡◌, ◌<◌, ◌≤◌, ◌+◌, ◌-◌, ◌&&◌, Bool, not, List, filter, get_or, length, map, nat_eq, nat_le, nat_lt, slice_range, take}
use Rattle.std.specs.List.{count_by, list_all, list_any}
use Rattle.edit_marks.specs.declared.edit_conflict.edit.Edit.{Edit}
use Rattle.edit_marks.specs.declared.tidy.shape.LeafRange.{LeafRange}
use Rattle.edit_marks.specs.declared.tidy.shape.Outline.{Outline}
use Rattle.edit_unparse.specs.declared.tidy.flags.Extent.{Extent}
use Rattle.edit_unparse.specs.Output.{is_removed}

-- the statement has leaves, and all of them go
abbrev pub is_gone : (ℕ → Bool) → List ℕ → LeafRange → Bool
is_gone goes leaves r = nat_lt r.from r.to && (nat_le r.to (length leaves) && list_all goes (slice_range leaves r.from r.to))

-- the first range is around the second, and not the same
abbrev pub is_around : LeafRange → LeafRange → Bool
is_around a b = nat_le a.from b.from && (nat_le b.to a.to && not (nat_eq a.from b.from && nat_eq a.to b.to))

-- those that are within no other
abbrev pub outermost : List LeafRange → List LeafRange
outermost ranges = filter (λ r. not (list_any (λ a. is_around a r) ranges)) ranges

abbrev pub extent_of : List ℕ → LeafRange → Extent
extent_of leaves r = record { first = get_or leaves r.from 0; last = get_or leaves (r.to - 1) 0 }

-- the statements of which no token stays, the outermost alone
abbrev pub gone_of : List Edit → Outline → List Extent
gone_of edits o = let leaves = o.leaves.items in
    map (extent_of leaves) (outermost (filter (is_gone (λ n. is_removed n edits) leaves) o.statements.items))

-- ---- for internal use

-- for each number of items, how many of these first ones pass
pub record AreCounts (test : ℕ → Bool) (xs counts : List ℕ) : Type 0 where
  pub long : length counts ≡ length xs + 1
  pub each : (n : ℕ) → n < length counts → get_or counts n 0 ≡ count_by test (take n xs)

-- the range has something, and is one of so many leaves
pub record IsProper (count : ℕ) (r : LeafRange) : Type 0 where
  pub some : r.from < r.to
  pub within : r.to ≤ count

-- the range begins at a leaf, or before it, and ends at another or behind it
abbrev pub begins_at : ℕ → ℕ → LeafRange → Bool
begins_at from to r = nat_eq r.from from && nat_le to r.to

abbrev pub begins_before : ℕ → ℕ → LeafRange → Bool
begins_before from to r = nat_lt r.from from && nat_le to r.to

-- for each leaf where the longest of the ranges ends that begin there, or 0
pub record AreEnds (ranges : List LeafRange) (ends : List ℕ) : Type 0 where
  pub each : (from to : ℕ) → from < length ends → 0 < to → nat_le to (get_or ends from 0) ≡ list_any (begins_at from to) ranges

-- for each leaf where the range ends that reaches farthest of those that begin before it, or 0
pub record AreEndsBefore (ranges : List LeafRange) (before : List ℕ) : Type 0 where
  pub each : (from to : ℕ) → from < length before → 0 < to → nat_le to (get_or before from 0) ≡ list_any (begins_before from to) ranges
