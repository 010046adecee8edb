-- How a range is seen, from its last token backwards.
use Rattle.std.specs.Prelude.{ℕ, ◌-◌, ◌==◌, Bool, true, false, Option, Some, None, IsTrue, if◌then◌else◌, List, slice_get}
use Rattle.c_terms.specs.declared.token.Token.{Token}
use Rattle.c_rows.specs.Seen.{Seen}
use Rattle.c_rows.specs.Range.{leads_member, may_be_type, NoMember}

-- a test that decides whether a fact holds
abbrev pub decided : Bool → Type 0 → Type 0
decided true p = p
decided false p = p → ⊥

abbrev pub led : Option Token → Bool
led None = false
led (Some t) = leads_member t

-- whether a member of a call's list may begin at this place
abbrev pub leads_before : List Token → ℕ → Bool
leads_before ts i = if i == 0 then false else led (slice_get ts (i - 1))

-- whether the front of the list is marked; `ends` says that what begins there ends as a member does
pub record Marked (typed leads ends : Bool) (ss : List Seen) : Type 0 where
  pub only : IsTrue typed → IsTrue leads × IsTrue (may_be_type ss) × IsTrue ends × NoMember ss
  pub all : IsTrue leads → IsTrue (may_be_type ss) → IsTrue ends → NoMember ss → IsTrue typed
