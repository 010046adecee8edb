-- Names as they are kept: the last entry of a name is found by its number, and from there the one before it, and so on.
use Rattle.std.specs.Prelude.{◌≡◌, ℕ, zero, suc, ◌<◌, List, [], map, length, slice_index, slice_index_or, if◌then◌else◌}
use Rattle.c_terms.specs.Same.{same_bytes}
use Rattle.c_typing.specs.declared.binding.Binding.{Binding}
use Rattle.c_typing.specs.declared.bindings.Entry.{Entry}
use Rattle.c_typing.specs.Numbers.{Numbered, number_of}

-- one more than the last place below k at which the list has the name, or 0
abbrev pub last_below : List (List ℕ) → ℕ → List ℕ → ℕ
last_below names zero name = 0
last_below names (suc k) name = if same_bytes name (slice_index_or names k []) then suc k else last_below names k name

abbrev pub names_of : List Entry → List (List ℕ)
names_of es = map (λ e. e.name) es

-- each name has one more than the place of its last entry, and each entry that of the entry before it with the same name
pub record AreLinked (lasts : Numbered) (es : List Entry) : Type 0 where
  pub last : (name : List ℕ) → number_of lasts name ≡ last_below (names_of es) (length es) name
  pub before : (k : ℕ) → k < length es
      → slice_index (map (λ e. e.before) es) k ≡ last_below (names_of es) k (slice_index_or (names_of es) k [])

abbrev pub binding_at : Entry → Binding
binding_at e = record { name = e.name; ty = e.ty }

abbrev pub bindings_of : List Entry → List Binding
bindings_of es = map binding_at es
