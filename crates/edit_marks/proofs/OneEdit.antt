-- An alignment has only one edit: ascending lists with the same members are equal, and so are ordered lists of places of
-- plus code.
use Rattle.std.proofs.Common.{◌≡◌, ◌<◌, ◌≤◌, ◌+◌, ◌⊎◌, ℕ, zero, suc, Bool, true, false, inl, inr, refl, sym, ap, subst, ◌∙◌}
use Rattle.std.proofs.Common.{arith, List, [], ◌∷◌, length, get_or}
use Rattle.std.specs.Prelude.{All, Contains, ◌==◌, slice_index, slice_index_or, nat_lt, cond}
use Rattle.std.specs.List.{sum_by}
use Rattle.std.specs.List.Sorted.{IsPermutation, IsSortedBy, IsStrictlyIncreasing}
use Rattle.std.specs.Ordering.{is_lt, ordering_then, ordering_reverse, nat_cmp}
use Rattle.std.specs.declared.cmp.Ordering.{Ordering}
use Rattle.std.specs.declared.cmp.Ordering.TheVariants.{Less, Equal, Greater}
use Rattle.std.specs.Cmp.{IsTotalOrder, nat_cmp_total, on_total, then_total, tied_itself}
use Rattle.std.proofs.lemmas.Bool.Decides.{Decides-eqb}
use Rattle.std.proofs.lemmas.List.Sorted.{sorted_far, sum_by-IsPermutation}
use Rattle.std.proofs.lemmas.List.MinMax.{ranks_by}
use Rattle.std.proofs.lemmas.List.Sums.{sum_by-cons}
use Rattle.std.proofs.lemmas.List.Elements.{All-nil, All-cons, All-head, All-tail, All-weaker, All-contains}
use Rattle.smpl_patch.specs.declared.pattern.VarDecl.{VarDecl}
use Rattle.smpl_patch.specs.declared.pattern.PatToken.{PatToken}
use Rattle.edit_marks.specs.declared.edit_conflict.edit.Insert.{Insert}
use Rattle.edit_marks.specs.declared.edit_conflict.edit.Edit.{Edit}
use Rattle.edit_marks.specs.declared.removals.Aligned.{Aligned}
use Rattle.edit_marks.specs.declared.spot.PlusSpot.{PlusSpot}
use Rattle.edit_marks.specs.declared.file_tokens.FileToken.{FileToken}
use Rattle.edit_marks.specs.Blocks.{Environment}
use Rattle.edit_marks.specs.Spots.{side, spot_order, all_spots}
use Rattle.edit_marks.specs.Edits.{inserts_at, EditOf}

-- ---- ascending numbers

abbrev pub Rising : List ℕ → Type 0
Rising [] = Unit {0}
Rising (x ∷ xs) = All (λ y. x < y) xs × Rising xs

tail_rises : (x : ℕ) (xs : List ℕ) → IsStrictlyIncreasing (x ∷ xs) → IsStrictlyIncreasing xs
tail_rises x xs h = λ k less.
    let same : suc k + 1 ≡ suc (k + 1) = omega arith in
    subst (λ (n : ℕ). slice_index xs k < slice_index (x ∷ xs) n) same (h (suc k) (omega (arith, less)))

pub rises : (xs : List ℕ) → IsStrictlyIncreasing xs → Rising xs
rises [] h = tt
rises (x ∷ []) h = (All-nil (λ y. x < y), tt)
rises (x ∷ y ∷ ys) h =
    let rest = rises (y ∷ ys) (tail_rises x (y ∷ ys) h) in
    let first : x < y = h 0 (omega arith) in
    (All-cons (λ z. x < z) y ys first (All-weaker (λ z. y < z) (λ z. x < z) (λ z less. omega (arith, less, first)) ys rest.0), rest)

has_head : (x : ℕ) (xs : List ℕ) → Contains (x ∷ xs) x
has_head x xs = (0, omega arith, refl)

has_later : (x : ℕ) (xs : List ℕ) (y : ℕ) → Contains xs y → Contains (x ∷ xs) y
has_later x xs y h = (suc h.0, omega (arith, h.1), h.2)

head_or_later : (x : ℕ) (xs : List ℕ) (y k : ℕ) → k < length (x ∷ xs) → slice_index_or (x ∷ xs) k y ≡ y → (x ≡ y) ⊎ Contains xs y
head_or_later x xs y zero less at = inl at
head_or_later x xs y (suc k) less at = inr (k, omega (arith, less), at)

either : (x : ℕ) (xs : List ℕ) (y : ℕ) → Contains (x ∷ xs) y → (x ≡ y) ⊎ Contains xs y
either x xs y h = head_or_later x xs y h.0 h.1 h.2

none_in : (y : ℕ) → Contains [] y → ⊥
none_in y h = let less : h.0 < 0 = h.1 in omega (arith, less)

abbrev AreAmong : List ℕ → List ℕ → Type 0
AreAmong xs ys = (n : ℕ) → Contains xs n → Contains ys n

-- an ascending list begins no later than any of its members
head_first : (y : ℕ) (ys : List ℕ) (x : ℕ) → Rising (y ∷ ys) → Contains (y ∷ ys) x → y ≤ x
head_first y ys x r h =
    elim (either y ys x h) [
      | inl same ↦ omega (arith, same)
      | inr later ↦ let less : y < x = All-contains (λ z. y < z) ys x r.0 later in omega (arith, less)
    ]

tail_among : (x : ℕ) (xs : List ℕ) (y : ℕ) (ys : List ℕ) → x ≡ y → Rising (x ∷ xs) → AreAmong (x ∷ xs) (y ∷ ys) → AreAmong xs ys
tail_among x xs y ys same r f = λ n has.
    let less : x < n = All-contains (λ z. x < z) xs n r.0 has in
    elim (either y ys n (f n (has_later x xs n has))) [
      | inl here ↦ absurd (omega (arith, less, here, same))
      | inr later ↦ later
    ]

pub one_rising : (xs ys : List ℕ) → Rising xs → Rising ys → AreAmong xs ys → AreAmong ys xs → xs ≡ ys
one_rising [] [] r s f g = refl
one_rising [] (y ∷ ys) r s f g = absurd (none_in y (g y (has_head y ys)))
one_rising (x ∷ xs) [] r s f g = absurd (none_in x (f x (has_head x xs)))
one_rising (x ∷ xs) (y ∷ ys) r s f g =
    let up : y ≤ x = head_first y ys x s (f x (has_head x xs)) in
    let down : x ≤ y = head_first x xs y r (g y (has_head y ys)) in
    let same : x ≡ y = omega (arith, up, down) in
    let rest : xs ≡ ys = one_rising xs ys r.1 s.1 (tail_among x xs y ys same r f) (tail_among y ys x xs (sym same) s g) in
    λ i. same i ∷ rest i

-- ---- places of plus code

pub spot_total : IsTotalOrder spot_order
spot_total = then_total (then_total (on_total (λ s. s.token) nat_cmp_total) (on_total (λ s. side s.after) nat_cmp_total))
    (on_total (λ s. s.pattern) nat_cmp_total)

-- no place comes before an earlier one
abbrev pub AreRising : List PlusSpot → Type 0
AreRising [] = Unit {0}
AreRising (s ∷ spots) = All (λ t. is_lt (spot_order t s) ≡ false) spots × AreRising spots

rising_by : (spots : List PlusSpot) → ((i j : ℕ) (d : PlusSpot) → i ≤ j → j < length spots
    → is_lt (spot_order (get_or spots j d) (get_or spots i d)) ≡ false) → AreRising spots
rising_by [] far = tt
rising_by (s ∷ spots) far = (
  (λ k d less. far 0 (suc k) d (omega arith) (omega (arith, less))),
  rising_by spots (λ i j d le less. far (suc i) (suc j) d (omega (arith, le)) (omega (arith, less))),
)

pub rising : (spots : List PlusSpot) → IsSortedBy (λ a b. is_lt (spot_order a b)) spots → AreRising spots
rising spots up = rising_by spots (sorted_far (λ a b. is_lt (spot_order a b)) (ranks_by spot_total (λ s. s)) spots up)

equal_by : (o p : Ordering) → o ≡ ordering_reverse p → is_lt o ≡ false → is_lt p ≡ false → o ≡ Equal
equal_by Less p e a b = absurd cc
equal_by Equal p e a b = refl
equal_by Greater Less e a b = absurd cc
equal_by Greater Equal e a b = absurd cc
equal_by Greater Greater e a b = absurd cc

then_equal : (o p : Ordering) → ordering_then o p ≡ Equal → (o ≡ Equal) × (p ≡ Equal)
then_equal Less p e = absurd cc
then_equal Equal p e = (refl, e)
then_equal Greater p e = absurd cc

number_by : (less same : Bool) → cond less Less (cond same Equal Greater) ≡ Equal → same ≡ true
number_by true same e = absurd cc
number_by false true e = refl
number_by false false e = absurd cc

number_equal : (m n : ℕ) → nat_cmp m n ≡ Equal → m ≡ n
number_equal m n e = (Decides-eqb m n).0 (number_by (nat_lt m n) (m == n) e)

side_equal : (a b : Bool) → side a ≡ side b → a ≡ b
side_equal true true e = refl
side_equal true false e = absurd (omega (arith, e))
side_equal false true e = absurd (omega (arith, e))
side_equal false false e = refl

same_spot : (s t : PlusSpot) → spot_order s t ≡ Equal → s ≡ t
same_spot s t e =
    let outer = then_equal (ordering_then (nat_cmp s.token t.token) (nat_cmp (side s.after) (side t.after))) (nat_cmp s.pattern t.pattern) e in
    let inner = then_equal (nat_cmp s.token t.token) (nat_cmp (side s.after) (side t.after)) outer.0 in
    let token = number_equal s.token t.token inner.0 in
    let after = side_equal s.after t.after (number_equal (side s.after) (side t.after) inner.1) in
    let pattern = number_equal s.pattern t.pattern outer.1 in
    λ i. record { token = token i; after = after i; pattern = pattern i }

abbrev one_if : Ordering → ℕ
one_if Less = 0
one_if Equal = 1
one_if Greater = 0

-- how often a place occurs among others
abbrev count : PlusSpot → List PlusSpot → ℕ
count s spots = sum_by (λ t. one_if (spot_order s t)) spots

count_more : (s t : PlusSpot) (spots : List PlusSpot) → count s (t ∷ spots) ≡ one_if (spot_order s t) + count s spots
count_more s t spots = sum_by-cons (λ u. one_if (spot_order s u)) t spots

counts_itself : (s : PlusSpot) (spots : List PlusSpot) → 1 ≤ count s (s ∷ spots)
counts_itself s spots = let one : one_if (spot_order s s) ≡ 1 = ap one_if (tied_itself spot_total s) in omega (arith, one, count_more s s spots)

by_order : (s t u : PlusSpot) (o : Ordering) (n : ℕ) → spot_order s u ≡ o → 1 ≤ one_if o + n → is_lt (spot_order u t) ≡ false
    → (1 ≤ n → is_lt (spot_order s t) ≡ false)
    → is_lt (spot_order s t) ≡ false
by_order s t u Less n e some here later = later (omega (arith, some))
by_order s t u Equal n e some here later = subst (λ (v : PlusSpot). is_lt (spot_order v t) ≡ false) (sym (same_spot s u e)) here
by_order s t u Greater n e some here later = later (omega (arith, some))

none_before : (s t : PlusSpot) (spots : List PlusSpot) → All (λ u. is_lt (spot_order u t) ≡ false) spots → 1 ≤ count s spots → is_lt (spot_order s t) ≡ false
none_before s t [] all some = absurd (omega (arith, some))
none_before s t (u ∷ spots) all some =
    by_order s t u (spot_order s u) (count s spots) refl (omega (arith, some, count_more s u spots))
    (All-head (λ v. is_lt (spot_order v t) ≡ false) u spots all)
    (λ more. none_before s t spots (All-tail (λ v. is_lt (spot_order v t) ≡ false) u spots all) more)

first_by : (s t : PlusSpot) (o : Ordering) (n : ℕ) → spot_order s t ≡ o → 1 ≤ one_if o + n
    → (1 ≤ n → is_lt (spot_order s t) ≡ false) → is_lt (spot_order s t) ≡ false
first_by s t Less n e some later = later (omega (arith, some))
first_by s t Equal n e some later = ap is_lt e
first_by s t Greater n e some later = later (omega (arith, some))

-- places in order begin no later than any of them
first_least : (t : PlusSpot) (spots : List PlusSpot) (s : PlusSpot) → AreRising (t ∷ spots) → 1 ≤ count s (t ∷ spots) → is_lt (spot_order s t) ≡ false
first_least t spots s r some =
    first_by s t (spot_order s t) (count s spots) refl (omega (arith, some, count_more s t spots)) (λ more. none_before s t spots r.0 more)

one_order : (xs ys : List PlusSpot) → AreRising xs → AreRising ys → ((s : PlusSpot) → count s xs ≡ count s ys) → xs ≡ ys
one_order [] [] r q same = refl
one_order [] (y ∷ ys) r q same = absurd (omega (arith, counts_itself y ys, same y))
one_order (x ∷ xs) [] r q same = absurd (omega (arith, counts_itself x xs, same x))
one_order (x ∷ xs) (y ∷ ys) r q same =
    let down = first_least y ys x q (omega (arith, counts_itself x xs, same x)) in
    let up = first_least x xs y r (omega (arith, counts_itself y ys, same y)) in
    let head : x ≡ y = same_spot x y (equal_by (spot_order x y) (spot_order y x) (spot_total.antisymm x y) down up) in
    let rest : xs ≡ ys = one_order xs ys r.1 q.1 (λ s.
    let alike : one_if (spot_order s x) ≡ one_if (spot_order s y) = ap (λ (t : PlusSpot). one_if (spot_order s t)) head in
    omega (arith, same s, count_more s x xs, count_more s y ys, alike)) in
    λ i. head i ∷ rest i

pub one_sorting : (all xs ys : List PlusSpot) → IsPermutation all xs → IsPermutation all ys → AreRising xs → AreRising ys → xs ≡ ys
one_sorting all xs ys p q r s =
    one_order xs ys r s (λ t. let f = λ (u : PlusSpot). one_if (spot_order t u) in sum_by-IsPermutation f all xs p ∙ sym (sum_by-IsPermutation f all ys q))

-- ---- edits

pub one_edit : (decls : List VarDecl) (tokens : List PatToken) (env : Environment) (files : List FileToken) (pairs : List Aligned) (a b : Edit)
    → EditOf decls tokens env files pairs a → EditOf decls tokens env files pairs b → a ≡ b
one_edit decls tokens env files pairs a b e f =
    let removed : a.removed ≡ b.removed =
    one_rising a.removed b.removed (rises a.removed e.rise) (rises b.removed f.rise)
    (λ n has. (f.removed n).1 ((e.removed n).0 has)) (λ n has. (e.removed n).1 ((f.removed n).0 has)) in
    let spots : e.spots ≡ f.spots = one_sorting (all_spots tokens pairs) e.spots f.spots e.all f.all (rising e.spots e.sorted) (rising f.spots f.sorted) in
    let inserts : a.inserts ≡ b.inserts =
    e.inserts ∙ (λ i. inserts_at decls tokens env files (removed i) (spots i)) ∙ sym f.inserts in
    λ i. record { removed = removed i; inserts = inserts i }
