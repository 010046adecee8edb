-- The definitions on small cases.
use Rattle.std.proofs.Common.{ℕ, ◌≡◌, ◌∷◌, [], true, false, Some, None, codes, refl}
use Rattle.std.specs.Cmp.Lexicographic.{nat_list_cmp_total}
use Rattle.std.specs.FinMap.{get, get-from_entries, from_entries}
use Rattle.outer_io.specs.Files.{name_cmp, grown}
use Rattle.outer_io.specs.Faults.{counted}
use Rattle.outer_io.specs.Calls.{ShelfState, no_calls, next_fails, after_call, is_rewritten, other_rewrites}

-- of two entries of a name, the first of the reversed list counts
last_counts : get (from_entries {R = name_cmp} ((codes "a", codes "new") ∷ (codes "a", codes "old") ∷ [])) (codes "a") ≡ Some (codes "new")
last_counts = get-from_entries nat_list_cmp_total ((codes "a", codes "new") ∷ (codes "a", codes "old") ∷ []) (codes "a")

-- a name that has no entry
no_entry : get (from_entries {R = name_cmp} ((codes "a", codes "new") ∷ [])) (codes "b") ≡ None
no_entry = get-from_entries nat_list_cmp_total ((codes "a", codes "new") ∷ []) (codes "b")

-- the call with number 1 fails, and no other one
second_fails : next_fails (after_call (no_calls (1 ∷ [])) false) ≡ true
second_fails = refl

first_succeeds : next_fails (no_calls (1 ∷ [])) ≡ false
first_succeeds = refl

third_succeeds : next_fails (after_call (after_call (no_calls (1 ∷ [])) false) true) ≡ false
third_succeeds = refl

-- a file that is rewritten before the call with number 1 is so from that call on, and only under its own name
abbrev shelf_at : ℕ → ShelfState
shelf_at done = record {
  files = from_entries [];
  stores = 0;
  calls = record { done = done; fail = []; faults = 0 };
  rewrites = (1, codes "a") ∷ [];
}

not_yet : is_rewritten (shelf_at 0) (codes "a") ≡ false
not_yet = refl

from_then_on : is_rewritten (shelf_at 2) (codes "a") ≡ true
from_then_on = refl

other_name : is_rewritten (shelf_at 2) (codes "b") ≡ false
other_name = refl

-- a load of it notices that, and a load of another name does not
known_by_load : other_rewrites (shelf_at 2) (codes "a") ≡ []
known_by_load = refl

unknown_by_other : other_rewrites (shelf_at 2) (codes "b") ≡ (1, codes "a") ∷ []
unknown_by_other = refl

-- a count saturates at its maximum
last_value : counted 18446744073709551615 ≡ 18446744073709551615
last_value = refl

-- what is not revealed stays unknown
untold : grown None (codes "a") ≡ None
untold = refl
