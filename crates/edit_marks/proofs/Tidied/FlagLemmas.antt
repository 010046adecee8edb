-- Flags of tokens, and how many tokens of a row are flagged.
use Rattle.std.proofs.Common.{◌≡◌, ◌<◌, ◌≤◌, ◌+◌, ◌-◌, ◌==◌, ◌&&◌, ◌||◌, ◌⊎◌, ℕ, zero, suc, min, inl, inr, Bool, true, false, refl, sym, ap, subst, ◌∙◌, arith}
use Rattle.std.proofs.Common.{List, [], ◌∷◌, ◌++◌, length, get_or, take, drop, length-append, length-drop}
use Rattle.std.specs.Prelude.{Option, None, Some, not, map, slice_range, if◌then◌else◌}
use Rattle.std.specs.List.{cons_option, filter_map, list_all, list_any}
use Rattle.std.proofs.lemmas.Bool.Decides.{nat_tests}
use Rattle.std.proofs.lemmas.List.{take_more, take_all, length-take-le}
use Rattle.std.proofs.Math.ListN.{get_or-append}
use Rattle.std.proofs.Math.Seq.{get_or-append_seam, take-nil}
use Rattle.edit_marks.specs.Tidy.Bodies.{Acts, AddsFlags, AreFlags, AreCountsOf, is_one, is_bare, count_bare, are_bare}

or_false : (b : Bool) → b ≡ (b || false)
or_false true = refl
or_false false = refl

or_regroup : (a b c : Bool) → ((a || b) || c) ≡ (a || (b || c))
or_regroup true b c = refl
or_regroup false b c = refl

and_true : (b : Bool) → (b && true) ≡ b
and_true true = refl
and_true false = refl

pub adds_none : (flags : List Bool) → AddsFlags flags flags (λ n. false)
adds_none flags = record { long = refl; each = λ n less. or_false (get_or flags n false) }

pub adds_both : (a b c : List Bool) (p q : ℕ → Bool) → AddsFlags a b p → AddsFlags b c q → AddsFlags a c (λ n. p n || q n)
adds_both a b c p q h k = record {
  long = k.long ∙ h.long;
  each = λ n less.
      let here : n < length b = omega (arith, less, h.long) in
      k.each n here ∙ ap (λ (x : Bool). x || q n) (h.each n less) ∙ or_regroup (get_or a n false) (p n) (q n);
}

pub adds_same : (a b : List Bool) (p q : ℕ → Bool) → ((n : ℕ) → p n ≡ q n) → AddsFlags a b p → AddsFlags a b q
adds_same a b p q same h = record {
  long = h.long;
  each = λ n less. h.each n less ∙ ap (λ (x : Bool). get_or a n false || x) (same n);
}

-- what a flag that is always set adds
pub adds_always : (a b : List Bool) (token : ℕ) (is : Bool) → is ≡ true → AddsFlags a b (λ n. token == n && is) → AddsFlags a b (λ n. token == n)
adds_always a b token is e h =
    adds_same a b (λ n. token == n && is) (λ n. token == n) (λ n. ap (λ (x : Bool). token == n && x) e ∙ and_true (token == n)) h

any_push : {X : Type 0} (p : X → Bool) (xs : List X) (x : X) → list_any p (xs ++ x ∷ []) ≡ (list_any p xs || p x)
any_push p [] x = sym (or_false (p x))
any_push p (y ∷ xs) x = ap (λ (b : Bool). p y || b) (any_push p xs x) ∙ sym (or_regroup (p y) (list_any p xs) (p x))

-- a loop that adds flags for each member of a list
pub adds_more : {X : Type 0} (p : X → ℕ → Bool) (xs : List X) (i : ℕ) (x : X) (a b c : List Bool) → i < length xs → x ≡ get_or xs i x
    → AddsFlags a b (λ n. list_any (λ y. p y n) (take i xs)) → AddsFlags b c (p x) → AddsFlags a c (λ n. list_any (λ y. p y n) (take (i + 1) xs))
adds_more p xs i x a b c less is h k =
    adds_same a c (λ n. list_any (λ y. p y n) (take i xs) || p x n) (λ n. list_any (λ y. p y n) (take (i + 1) xs))
    (λ n. sym (ap (list_any (λ y. p y n)) (take_more xs i x less) ∙ any_push (λ y. p y n) (take i xs) (get_or xs i x)
    ∙ ap (λ y. list_any (λ z. p z n) (take i xs) || p y n) (sym is)))
    (adds_both a b c (λ n. list_any (λ y. p y n) (take i xs)) (p x) h k)

pub adds_end : {X : Type 0} (p : X → ℕ → Bool) (xs : List X) (i : ℕ) (a b : List Bool) → length xs ≤ i
    → AddsFlags a b (λ n. list_any (λ y. p y n) (take i xs)) → AddsFlags a b (λ n. list_any (λ y. p y n) xs)
adds_end p xs i a b le h =
    adds_same a b (λ n. list_any (λ y. p y n) (take i xs)) (λ n. list_any (λ y. p y n) xs) (λ n. ap (list_any (λ y. p y n)) (take_all i xs le)) h

any_map : {X Y : Type 0} (p : Y → Bool) (f : X → Y) (xs : List X) → list_any p (map f xs) ≡ list_any (λ x. p (f x)) xs
any_map p f [] = refl
any_map p f (x ∷ xs) = ap (λ (b : Bool). p (f x) || b) (any_map p f xs)

-- flags that are added to none
pub flags_from : {X Y : Type 0} (p : Y → ℕ → Bool) (f : X → Y) (xs : List X) (count : ℕ) (a b : List Bool) → AreFlags count (λ n. false) a
    → AddsFlags a b (λ n. list_any (λ x. p (f x) n) xs) → AreFlags count (λ n. list_any (λ y. p y n) (map f xs)) b
flags_from p f xs count a b h k = record {
  long = k.long ∙ h.long;
  each = λ n less.
      let here : n < length a = omega (arith, less, h.long) in
      k.each n here ∙ ap (λ (x : Bool). x || list_any (λ y. p (f y) n) xs) (h.each n less) ∙ sym (any_map (λ y. p y n) f xs);
}

one_of : (o : Option ℕ) (rest : List ℕ) (n : ℕ) → (is_one o n || list_any (λ m. m == n) rest) ≡ list_any (λ m. m == n) (cons_option o rest)
one_of None rest n = refl
one_of (Some m) rest n = refl

any_given : {X : Type 0} (f : X → Option ℕ) (xs : List X) (n : ℕ) → list_any (λ x. is_one (f x) n) xs ≡ list_any (λ m. m == n) (filter_map f xs)
any_given f [] n = refl
any_given f (x ∷ xs) n = ap (λ (b : Bool). is_one (f x) n || b) (any_given f xs n) ∙ one_of (f x) (filter_map f xs) n

-- flags of the tokens that some of a list give
pub flags_given : {X : Type 0} (f : X → Option ℕ) (xs : List X) (count : ℕ) (a b : List Bool) → AreFlags count (λ n. false) a
    → AddsFlags a b (λ n. list_any (λ x. is_one (f x) n) xs) → AreFlags count (λ n. list_any (λ m. m == n) (filter_map f xs)) b
flags_given f xs count a b h k = record {
  long = k.long ∙ h.long;
  each = λ n less.
      let here : n < length a = omega (arith, less, h.long) in
      k.each n here ∙ ap (λ (x : Bool). x || list_any (λ x. is_one (f x) n) xs) (h.each n less) ∙ any_given f xs n;
}

-- ---- rows

order : (a b : ℕ) → (a ≤ b) ⊎ (b < a)
order a b = grind arith

module _ (at : Acts) where
  count_append : (xs ys : List ℕ) → count_bare at (xs ++ ys) ≡ count_bare at xs + count_bare at ys
  count_append [] ys = omega arith
  count_append (x ∷ xs) ys = let rest = count_append xs ys in omega (arith, rest)

  by_one : (b : Bool) → (if b then 1 else 0) ≤ 1
  by_one true = omega arith
  by_one false = omega arith

  few : (xs : List ℕ) → count_bare at xs ≤ length xs
  few [] = omega arith
  few (x ∷ xs) = let rest = few xs in let one = by_one (is_bare at x) in omega (arith, rest, one)

  counted_by : (b : Bool) (c l : ℕ) (all : Bool) → c ≤ l → (c == l) ≡ all → ((if b then 1 else 0) + c == suc l) ≡ (b && all)
  counted_by true c l all le e = next_same c l ∙ e
    where
      next_same : (c l : ℕ) → (1 + c == suc l) ≡ (c == l)
      next_same c l = grind (arith, nat_tests)
  counted_by false c l all le e = less_not c l le
    where
      less_not : (c l : ℕ) → c ≤ l → (0 + c == suc l) ≡ false
      less_not c l le = grind (arith, nat_tests)

  all_counted : (xs : List ℕ) → (count_bare at xs == length xs) ≡ list_all (is_bare at) xs
  all_counted [] = refl
  all_counted (x ∷ xs) = counted_by (is_bare at x) (count_bare at xs) (length xs) (list_all (is_bare at) xs) (few xs) (all_counted xs)

  take_between : (xs : List ℕ) (from n : ℕ) → take (from + n) xs ≡ take from xs ++ take n (drop from xs)
  take_between xs zero n = let same : zero + n ≡ n = omega arith in ap (λ (m : ℕ). take m xs) same
  take_between [] (suc from) n = take-nil (suc from + n) ∙ sym (take-nil n)
  take_between (x ∷ xs) (suc from) n =
      let next : suc from + n ≡ suc (from + n) = omega arith in
      ap (λ (m : ℕ). take m (x ∷ xs)) next ∙ ap (λ (l : List ℕ). x ∷ l) (take_between xs from n)

  pub count_between : (xs : List ℕ) (from n : ℕ) → count_bare at (take (from + n) xs) ≡ count_bare at (take from xs) + count_bare at (take n (drop from xs))
  count_between xs from n = ap (count_bare at) (take_between xs from n) ∙ count_append (take from xs) (take n (drop from xs))

  past_end : (xs : List ℕ) (from to end : ℕ) → from < length xs → end ≡ min to (length xs) → take (to - from) (drop from xs) ≡ take (end - from) (drop from xs)
  past_end xs from to end within is =
      elim (order to (length xs)) [
        | inl le ↦ let same : to - from ≡ end - from = omega (arith, is, le) in ap (λ (n : ℕ). take n (drop from xs)) same
        | inr more ↦
            take_all (to - from) (drop from xs) (omega (arith, length-drop from xs, more))
            ∙ sym (take_all (end - from) (drop from xs) (omega (arith, length-drop from xs, is, more)))
      ]

  -- how many of a row are flagged says whether all are
  pub bare_between : (leaves counts : List ℕ) (from to end : ℕ) → AreCountsOf at leaves counts → from < length leaves → from < to → end ≡ min to (length leaves)
      → (get_or counts from 0 ≤ get_or counts end 0) × ((get_or counts end 0 - get_or counts from 0 == end - from) ≡ are_bare at leaves from to)
  bare_between leaves counts from to end are within rise is =
      let n = end - from in
      let row = take n (drop from leaves) in
      let whole : from + n ≡ end = omega (arith, is, within, rise) in
      let before : get_or counts from 0 ≡ count_bare at (take from leaves) = are.each from 0 (omega (arith, are.long, within)) in
      let after : get_or counts end 0 ≡ count_bare at (take end leaves) = are.each end 0 (omega (arith, are.long, is)) in
      let between : count_bare at (take end leaves) ≡ count_bare at (take from leaves) + count_bare at row =
      ap (λ (m : ℕ). count_bare at (take m leaves)) (sym whole) ∙ count_between leaves from n in
      let long : length row ≡ n = length-take-le n (drop from leaves) (omega (arith, length-drop from leaves, is)) in
      let left : get_or counts end 0 - get_or counts from 0 ≡ count_bare at row = omega (arith, before, after, between) in (
        omega (arith, before, after, between),
        (λ i. left i == sym long i) ∙ all_counted row ∙ sym (ap (list_all (is_bare at)) (past_end leaves from to end within is)),
      )

  abbrev pub one_if : Bool → ℕ
  one_if is = if is then 1 else 0

  pub few_more : (is : Bool) (count next i : ℕ) → next ≡ one_if is + count → count ≤ i → next ≤ i + 1
  few_more true count next i is_next le = omega (arith, is_next, le)
  few_more false count next i is_next le = omega (arith, is_next, le)

  -- one more leaf
  pub count_more : (leaves : List ℕ) (i x count next : ℕ) (is : Bool) → i < length leaves → x ≡ get_or leaves i x → is ≡ is_bare at x
      → next ≡ one_if is + count → count ≡ count_bare at (take i leaves) → next ≡ count_bare at (take (i + 1) leaves)
  count_more leaves i x count next is less is_x is_is is_next h =
      let one : count_bare at (x ∷ []) ≡ one_if (is_bare at x) = omega arith in
      let more : count_bare at (take (i + 1) leaves) ≡ count_bare at (take i leaves) + count_bare at (x ∷ []) =
      ap (count_bare at) (take_more leaves i x less) ∙ ap (λ (y : ℕ). count_bare at (take i leaves ++ y ∷ [])) (sym is_x) ∙ count_append (take i leaves) (x ∷ []) in
      let own : one_if is ≡ one_if (is_bare at x) = ap one_if is_is in
      omega (arith, one, more, own, is_next, h)

  pub counts_more : (leaves counts new : List ℕ) (i next : ℕ) → length counts ≡ i + 1 → new ≡ counts ++ next ∷ []
      → ((n d : ℕ) → n < length counts → get_or counts n d ≡ count_bare at (take n leaves)) → next ≡ count_bare at (take (i + 1) leaves)
      → (n d : ℕ) → n < length new → get_or new n d ≡ count_bare at (take n leaves)
  counts_more leaves counts new i next long is each own n d less =
      elim (order (length counts) n) [
        | inl le ↦
            let longer : length new ≡ length counts + 1 = ap length is ∙ length-append counts (next ∷ []) in
            let here : n ≡ length counts = omega (arith, longer, le, less) in
            ap (λ (m : ℕ). get_or new m d) here ∙ ap (λ (l : List ℕ). get_or l (length counts) d) is ∙ get_or-append_seam counts next [] d ∙ own
            ∙ ap (λ (m : ℕ). count_bare at (take m leaves)) (sym (here ∙ long))
        | inr more ↦ ap (λ (l : List ℕ). get_or l n d) is ∙ get_or-append counts (next ∷ []) d n more ∙ each n d more
      ]
