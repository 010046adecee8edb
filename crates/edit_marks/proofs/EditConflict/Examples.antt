-- Edits that clash at a token and edits that don't.
use Rattle.std.specs.Prelude.{◌≡◌, ℕ, Bool, true, false, List, [], ◌∷◌, refl, codes}
use Rattle.edit_marks.specs.declared.edit_conflict.edit.Side.{Side}
use Rattle.edit_marks.specs.declared.edit_conflict.edit.Side.TheVariants.{Before, After}
use Rattle.edit_marks.specs.declared.edit_conflict.edit.Edit.{Edit}
use Rattle.edit_marks.specs.declared.edit_conflict.edit.Insert.{Insert}
use Rattle.edit_marks.specs.EditConflict.Clashes.{meet_at}
use Rattle.edit_marks.specs.EditConflict.Once.{once}

abbrev removal : List ℕ → Edit
removal tokens = record { removed = tokens; inserts = [] }

abbrev insert : ℕ → Side → Bool → List ℕ → Insert
insert token side many text = record { token = token; side = side; many = many; text = text }

abbrev insertion : ℕ → Side → List ℕ → Edit
insertion token side text = record { removed = []; inserts = insert token side false text ∷ [] }

-- from `++` lines
abbrev addition : ℕ → Side → List ℕ → Edit
addition token side text = record { removed = []; inserts = insert token side true text ∷ [] }

-- a call, and the call around it: in `f(f(x))` the inner one has the tokens 8 to 11
abbrev inner : Edit
inner = removal (8 ∷ 9 ∷ 10 ∷ 11 ∷ [])

abbrev outer : Edit
outer = removal (6 ∷ 7 ∷ 8 ∷ 9 ∷ 10 ∷ 11 ∷ 12 ∷ [])

both_remove : meet_at 8 inner outer ≡ true
both_remove = refl

one_removes : meet_at 7 inner outer ≡ false
one_removes = refl

one_side : meet_at 3 (insertion 3 After (codes "a")) (insertion 3 After (codes "b")) ≡ true
one_side = refl

two_sides : meet_at 3 (insertion 3 Before (codes "a")) (insertion 3 After (codes "b")) ≡ false
two_sides = refl

-- the place between two tokens has two names
neighbours : meet_at 3 (insertion 3 After (codes "a")) (insertion 4 Before (codes "b")) ≡ false
neighbours = refl

inserts_where_another_removes : meet_at 3 (insertion 3 Before (codes "a")) (removal (3 ∷ [])) ≡ true
inserts_where_another_removes = refl

removes_where_another_inserts : meet_at 3 (removal (3 ∷ [])) (insertion 3 After (codes "a")) ≡ true
removes_where_another_inserts = refl

equal_edits_count_once : once (inner ∷ outer ∷ inner ∷ []) ≡ inner ∷ outer ∷ []
equal_edits_count_once = refl

-- edits that insert different texts are different edits
other_texts : once (insertion 3 After (codes "a") ∷ insertion 3 After (codes "b") ∷ []) ≡ insertion 3 After (codes "a") ∷ insertion 3 After (codes "b") ∷ []
other_texts = refl

-- ---- `++` lines

-- two inserts from `++` lines may be on one side of a token
two_of_many : meet_at 3 (addition 3 After (codes "a")) (addition 3 After (codes "b")) ≡ false
two_of_many = refl

-- one from `++` lines and one from other lines may not
one_of_many : meet_at 3 (addition 3 After (codes "a")) (insertion 3 After (codes "b")) ≡ true
one_of_many = refl

other_of_many : meet_at 3 (insertion 3 After (codes "a")) (addition 3 After (codes "b")) ≡ true
other_of_many = refl

-- nor may they if one of the edits has both kinds there
abbrev both_kinds : Edit
both_kinds = record { removed = []; inserts = insert 3 After true (codes "a") ∷ insert 3 After false (codes "b") ∷ [] }

one_of_both_kinds : meet_at 3 both_kinds (addition 3 After (codes "c")) ≡ true
one_of_both_kinds = refl

many_on_two_sides : meet_at 3 (addition 3 Before (codes "a")) (insertion 3 After (codes "b")) ≡ false
many_on_two_sides = refl

many_where_another_removes : meet_at 3 (addition 3 Before (codes "a")) (removal (3 ∷ [])) ≡ true
many_where_another_removes = refl

-- equal edits are one edit, and edits that differ only in this are two
equal_of_many : once (addition 3 After (codes "a") ∷ addition 3 After (codes "a") ∷ []) ≡ addition 3 After (codes "a") ∷ []
equal_of_many = refl

another_kind : once (addition 3 After (codes "a") ∷ insertion 3 After (codes "a") ∷ []) ≡ addition 3 After (codes "a") ∷ insertion 3 After (codes "a") ∷ []
another_kind = refl
