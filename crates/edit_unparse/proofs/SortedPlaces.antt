-- The places in inserts from which pieces go, sorted by their numbers.
use Rattle.std.proofs.Common.{◌≡◌, ◌<◌, ◌+◌, ◌==◌, ◌&&◌, ◌||◌, ℕ, zero, suc, Bool, true, false, refl, sym, ap, ◌∙◌, arith, cond, subst}
use Rattle.std.proofs.Common.{List, [], ◌∷◌, length, get_or, filter}
use Rattle.std.specs.Prelude.{Option, Some, Vec, slice_get, slice_set}
use Rattle.std.specs.List.{list_any}
use Rattle.std.specs.List.Sorted.{IsNonDecreasingBy}
use Rattle.std.proofs.lemmas.Bool.Decides.{nat_tests}
use Rattle.edit_unparse.specs.declared.tidy.parts.Origin.{Origin}
use Rattle.edit_unparse.specs.Tidy.Fallen.{has_here, has_place, is_here, is_numbered, origin_number, own_of, own_places, place_number}

-- a test that only those pass that pass another is passed by those among these that pass the other
any_of : {X : Type 0} (test other : X → Bool) → ((x : X) → other x ≡ false → test x ≡ false) → (xs : List X)
    → list_any test (filter other xs) ≡ list_any test xs
any_of test other not_both [] = refl
any_of {X} test other not_both (x ∷ xs) = by (other x) refl (any_of test other not_both xs)
  where
    by : (b : Bool) → other x ≡ b → list_any test (filter other xs) ≡ list_any test xs
        → list_any test (filter other (x ∷ xs)) ≡ list_any test (x ∷ xs)
    by true e rest = ap (λ b. list_any test (cond b (x ∷ filter other xs) (filter other xs))) e ∙ ap (λ b. test x || b) rest
    by false e rest = ap (λ b. list_any test (cond b (x ∷ filter other xs) (filter other xs))) e
        ∙ rest
        ∙ sym (ap (λ b. b || list_any test xs) (not_both x e))

same_number : (insert offset a b : ℕ) → (a == insert && b == offset) ≡ true → (place_number a b == place_number insert offset) ≡ true
same_number insert offset a b h =
    let first : a ≡ insert = grind (arith, nat_tests) in
    let second : b ≡ offset = grind (arith, nat_tests) in
    (λ i. place_number (first i) (second i) == place_number insert offset) ∙ equal (place_number insert offset)
  where
    equal : (n : ℕ) → (n == n) ≡ true
    equal n = grind (arith, nat_tests)

not_here : (insert offset a b : ℕ) → (place_number a b == place_number insert offset) ≡ false → (a == insert && b == offset) ≡ false
not_here insert offset a b h = by (a == insert && b == offset) refl
  where
    by : (t : Bool) → (a == insert && b == offset) ≡ t → t ≡ false
    by true e = sym (same_number insert offset a b e) ∙ h
    by false e = refl

-- a place has one of these places, where only those with its number are asked
pub here_numbered : (insert offset number : ℕ) (places : List Origin) → number ≡ place_number insert offset
    → list_any (is_here insert offset) (filter (is_numbered number) places) ≡ list_any (is_here insert offset) places
here_numbered insert offset number places is =
    ap (λ (n : ℕ). list_any (is_here insert offset) (filter (is_numbered n) places)) is
    ∙ any_of (is_here insert offset) (is_numbered (place_number insert offset)) (λ o e. not_here insert offset o.insert o.offset e) places

-- what is asked of the places of one edit
pub has_own : {Z : Type 0} (edit insert offset : ℕ) (places all : List (Vec Origin Z)) (o : Option (Vec Origin Z)) → all ≡ places
    → slice_get all edit ≡ o → has_here insert offset o ≡ has_place edit insert offset places
has_own {Z} edit insert offset places all o same is =
    sym (ap (has_here insert offset) is) ∙ ap (λ (l : List (Vec Origin Z)). has_place edit insert offset l) same

-- they are sorted
pub rise_own : {Z : Type 0} (edit : ℕ) (places all : List (Vec Origin Z)) (own : Vec Origin Z) → all ≡ places → slice_get all edit ≡ Some own
    → IsNonDecreasingBy origin_number (own_places edit places) → IsNonDecreasingBy origin_number own.items
rise_own {Z} edit places all own same is rise =
    subst (λ (o : Option (Vec Origin Z)). IsNonDecreasingBy origin_number (own_of o)) is
    (subst (λ (l : List (Vec Origin Z)). IsNonDecreasingBy origin_number (own_places edit l)) (sym same) rise)

-- other places of one edit, which are the same but for their order
pub place_same : {Z : Type 0} (edit insert offset at : ℕ) (old : List (Vec Origin Z)) (own v : Vec Origin Z) → at < length old
    → own ≡ get_or old at own → list_any (is_here insert offset) v.items ≡ list_any (is_here insert offset) own.items
    → has_place edit insert offset (slice_set old at v) ≡ has_place edit insert offset old
place_same edit insert offset at [] own v less is same = absurd (omega arith)
place_same {Z} zero insert offset zero (x ∷ old) own v less is same =
    same ∙ ap (λ (y : Vec Origin Z). list_any (is_here insert offset) y.items) is
place_same (suc edit) insert offset zero (x ∷ old) own v less is same = refl
place_same zero insert offset (suc at) (x ∷ old) own v less is same = refl
place_same (suc edit) insert offset (suc at) (x ∷ old) own v less is same = place_same edit insert offset at old own v (omega arith) is same

-- the places of one edit more are sorted
pub rise_more : {Z : Type 0} (at : ℕ) (old : List (Vec Origin Z)) (v : Vec Origin Z) → at < length old → IsNonDecreasingBy origin_number v.items
    → ((edit : ℕ) → edit < at → IsNonDecreasingBy origin_number (own_places edit old))
    → (edit : ℕ) → edit < at + 1 → IsNonDecreasingBy origin_number (own_places edit (slice_set old at v))
rise_more at [] v less own rise edit before = absurd (omega arith)
rise_more zero (x ∷ old) v less own rise zero before = own
rise_more zero (x ∷ old) v less own rise (suc edit) before = absurd (omega arith)
rise_more (suc at) (x ∷ old) v less own rise zero before = rise 0 (omega arith)
rise_more (suc at) (x ∷ old) v less own rise (suc edit) before =
    rise_more at old v (omega arith) own (λ e lower. rise (suc e) (omega arith)) edit (omega arith)

-- the places of edits beyond the last are none
pub rise_all : {Z : Type 0} (places : List (Vec Origin Z))
    → ((edit : ℕ) → edit < length places → IsNonDecreasingBy origin_number (own_places edit places))
    → (edit : ℕ) → IsNonDecreasingBy origin_number (own_places edit places)
rise_all [] rise zero = λ i j d le within. absurd (omega arith)
rise_all [] rise (suc edit) = λ i j d le within. absurd (omega arith)
rise_all (x ∷ places) rise zero = rise 0 (omega arith)
rise_all (x ∷ places) rise (suc edit) = rise_all places (λ e less. rise (suc e) (omega arith)) edit
