-- Which items have been seen, as the reader of declarations records it.
use Rattle.std.specs.Prelude.{ℕ, ◌≡◌, Bool, true, false, if◌then◌else◌, is_some, List}
use Rattle.smpl_meta.specs.declared.item.Item.{Item}
use Rattle.smpl_meta.specs.declared.seen.Seen.{Seen}
use Rattle.smpl_meta.specs.Decls.{is_symbol, is_known}
use Rattle.smpl_meta.specs.Index.{number_in, or_else, only}

abbrev pub name_of : Item → List ℕ
name_of i = i.named.name.token.text

-- an earlier item has the name; for a symbol, an earlier item that isn't one
abbrev pub is_seen : Seen → Item → Bool
is_seen s i =
    if is_symbol i.kind then is_some (number_in s.variables (name_of i)) else is_some (number_in s.all (name_of i))

-- the name was added, unless it is a symbol's
abbrev pub IsPut : Bool → List ℕ → (old new : List (List ℕ × ℕ)) → Type 0
IsPut true name old new = (other : List ℕ) → number_in new other ≡ number_in old other
IsPut false name old new = (other : List ℕ) → number_in new other ≡ or_else (number_in old other) (only name 0 other)

-- the names seen are those of the earlier items
abbrev pub Knows : Seen → List Item → Type 0
Knows s before = (i : Item) → is_seen s i ≡ is_known before i
