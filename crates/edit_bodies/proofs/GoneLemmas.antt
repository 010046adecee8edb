-- Statements of which nothing stays: counts of leaves, and ranges within others.
use Rattle.std.proofs.Common.{◌≡◌, ◌<◌, ◌≤◌, ◌+◌, ◌-◌, ◌&&◌, ◌||◌, ◌⊎◌, ℕ, zero, suc, max, inl, inr, Bool, true, false, not, refl, sym, ap, ◌∙◌, arith}
use Rattle.std.proofs.Common.{List, [], ◌∷◌, ◌++◌, length, get_or, take, drop, length-append, cond, subst}
use Rattle.std.specs.Prelude.{All, filter, nat_eq, nat_le, nat_lt, slice_range, if◌then◌else◌}
use Rattle.std.specs.List.{count_by, list_all, list_any}
use Rattle.std.specs.Ordering.{nat_cmp, ord_max}
use Rattle.std.proofs.lemmas.Bool.Decides.{nat_tests}
use Rattle.std.proofs.lemmas.List.Elements.{filter_more, filter_passes}
use Rattle.std.proofs.lemmas.List.Folds.{list_any_more, sum_by-zero}
use Rattle.std.proofs.lemmas.List.Sums.{count_by_more_no, count_by_more_yes, sum_by-append, sum_by-cons}
use Rattle.std.proofs.Math.ListN.{get_or-append}
use Rattle.std.proofs.Math.Seq.{get_or-append_seam, take-nil}
use Rattle.edit_marks.specs.declared.edit_conflict.edit.Edit.{Edit}
use Rattle.edit_marks.specs.declared.tidy.shape.LeafRange.{LeafRange}
use Rattle.edit_unparse.specs.Output.{is_removed}
use Rattle.edit_bodies.specs.Gone.{AreCounts, AreEnds, AreEndsBefore, IsProper, begins_at, begins_before, is_around, is_gone}

order : (a b : ℕ) → (a ≤ b) ⊎ (b < a)
order a b = grind arith

-- ---- counts

-- one more item
pub count_more : (test : ℕ → Bool) (xs : List ℕ) (i count next : ℕ) (is : Bool) → i < length xs → is ≡ test (get_or xs i 0)
    → next ≡ (if is then count + 1 else count) → count ≡ count_by test (take i xs) → next ≡ count_by test (take (i + 1) xs)
count_more test xs i count next true less is same h =
    same ∙ ap (λ (n : ℕ). n + 1) h ∙ sym (count_by_more_yes test xs i 0 less (sym is))
count_more test xs i count next false less is same h = same ∙ h ∙ sym (count_by_more_no test xs i 0 less (sym is))

pub few_more : (is : Bool) (count next i : ℕ) → next ≡ (if is then count + 1 else count) → count ≤ i → next ≤ i + 1
few_more true count next i same le = omega (arith, same, le)
few_more false count next i same le = omega (arith, same, le)

pub counts_more : (test : ℕ → Bool) (xs counts new : List ℕ) (i next : ℕ) → length counts ≡ i + 1 → new ≡ counts ++ next ∷ []
    → ((n : ℕ) → n < length counts → get_or counts n 0 ≡ count_by test (take n xs)) → next ≡ count_by test (take (i + 1) xs)
    → (n : ℕ) → n < length new → get_or new n 0 ≡ count_by test (take n xs)
counts_more test xs counts new i next long is each own n less =
    elim (order (length counts) n) [
      | inl le ↦
          let longer : length new ≡ length counts + 1 = ap length is ∙ length-append counts (next ∷ []) in
          let here : n ≡ length counts = omega (arith, longer, le, less) in
          ap (λ (m : ℕ). get_or new m 0) here ∙ ap (λ (l : List ℕ). get_or l (length counts) 0) is ∙ get_or-append_seam counts next [] 0 ∙ own
          ∙ ap (λ (m : ℕ). count_by test (take m xs)) (sym (here ∙ long))
      | inr more ↦ ap (λ (l : List ℕ). get_or l n 0) is ∙ get_or-append counts (next ∷ []) 0 n more ∙ each n more
    ]

pub longer : (counts new : List ℕ) (i next : ℕ) → length counts ≡ i + 1 → new ≡ counts ++ next ∷ [] → length new ≡ i + 1 + 1
longer counts new i next long is = ap length is ∙ length-append counts (next ∷ []) ∙ ap (λ (n : ℕ). n + 1) long

take_between : {X : Type 0} (xs : List X) (from n : ℕ) → take (from + n) xs ≡ take from xs ++ take n (drop from xs)
take_between xs zero n = let same : zero + n ≡ n = omega arith in ap (λ (m : ℕ). take m xs) same
take_between [] (suc from) n = take-nil (suc from + n) ∙ sym (take-nil n)
take_between {X} (x ∷ xs) (suc from) n =
    let next : suc from + n ≡ suc (from + n) = omega arith in
    ap (λ (m : ℕ). take m (x ∷ xs)) next ∙ ap (λ (l : List X). x ∷ l) (take_between xs from n)

same_count : (a b : ℕ) → nat_eq a (a + b) ≡ nat_eq b 0
same_count a b = grind (arith, nat_tests)

no_more : (b : Bool) → nat_eq (cond (not b) 1 0) 0 ≡ b
no_more true = refl
no_more false = refl

both_hold : (a b c : Bool) → a ≡ true → b ≡ true → (a && (b && c)) ≡ c
both_hold a b c p q = ap (λ (x : Bool). x && (b && c)) p ∙ ap (λ (x : Bool). x && c) q

less_is : (a b : ℕ) → a < b → nat_lt a b ≡ true
less_is a b less = grind (arith, nat_tests)

le_is : (a b : ℕ) → a ≤ b → nat_le a b ≡ true
le_is a b le = grind (arith, nat_tests)

-- as many leaves stay before the statement as before its end
pub gone_same : (goes : ℕ → Bool) (leaves counts : List ℕ) (r : LeafRange) → AreCounts (λ n. not (goes n)) leaves counts → r.from < r.to
    → r.to < length counts → nat_eq (get_or counts r.from 0) (get_or counts r.to 0) ≡ is_gone goes leaves r
gone_same goes leaves counts r are rise within =
    let stays : ℕ → Bool = λ n. not (goes n) in
    let own = slice_range leaves r.from r.to in
    let before = count_by stays (take r.from leaves) in
    let upto : r.from + (r.to - r.from) ≡ r.to = omega (arith, rise) in
    let parts : take r.to leaves ≡ take r.from leaves ++ own = ap (λ (n : ℕ). take n leaves) (sym upto) ∙ take_between leaves r.from (r.to - r.from) in
    let sum : count_by stays (take r.to leaves) ≡ before + count_by stays own =
    ap (count_by stays) parts ∙ sum_by-append (λ n. cond (stays n) 1 0) (take r.from leaves) own in
    let first : get_or counts r.from 0 ≡ before = are.each r.from (omega (arith, rise, within)) in
    let last : get_or counts r.to 0 ≡ before + count_by stays own = are.each r.to within ∙ sum in
    let fits : r.to ≤ length leaves = omega (arith, within, are.long) in
    (λ i. nat_eq (first i) (last i)) ∙ same_count before (count_by stays own) ∙ sum_by-zero (λ n. cond (stays n) 1 0) own
    ∙ (λ i. list_all (λ n. no_more (goes n) i) own)
    ∙ sym (both_hold (nat_lt r.from r.to) (nat_le r.to (length leaves)) (list_all goes own) (less_is r.from r.to rise) (le_is r.to (length leaves) fits))

left_holds : (a b : Bool) → (a && b) ≡ true → a ≡ true
left_holds true b e = refl
left_holds false b e = e

right_holds : (a b : Bool) → (a && b) ≡ true → b ≡ true
right_holds true b e = e
right_holds false b e = absurd (cc)

less_of : (a b : ℕ) → nat_lt a b ≡ true → a < b
less_of a b e = grind (arith, nat_tests)

le_of : (a b : ℕ) → nat_le a b ≡ true → a ≤ b
le_of a b e = grind (arith, nat_tests)

pub gone_proper : (goes : ℕ → Bool) (leaves : List ℕ) (r : LeafRange) → is_gone goes leaves r ≡ true → IsProper (length leaves) r
gone_proper goes leaves r e =
    let all = list_all goes (slice_range leaves r.from r.to) in
    let rest = right_holds (nat_lt r.from r.to) (nat_le r.to (length leaves) && all) e in
    record {
      some = less_of r.from r.to (left_holds (nat_lt r.from r.to) (nat_le r.to (length leaves) && all) e);
      within = le_of r.to (length leaves) (left_holds (nat_le r.to (length leaves)) all rest);
    }

pub all_proper : (goes : ℕ → Bool) (leaves : List ℕ) (ranges : List LeafRange) → All (IsProper (length leaves)) (filter (is_gone goes leaves) ranges)
all_proper goes leaves ranges k d less =
    gone_proper goes leaves (get_or (filter (is_gone goes leaves) ranges) k d) (filter_passes (is_gone goes leaves) ranges k d less)

-- ---- where ranges end

or_false : (b : Bool) → b ≡ (b || false)
or_false true = refl
or_false false = refl

le_max : (to a b : ℕ) → nat_le to (max a b) ≡ (nat_le to a || nat_le to b)
le_max to a b = grind (arith, nat_tests)

above_none : (to : ℕ) → 0 < to → nat_le to 0 ≡ false
above_none to more = grind (arith, nat_tests)

-- a range that is put among the ends
put_more : (e : Bool) (to old own : ℕ) → nat_le to (if e then max old own else old) ≡ (nat_le to old || (e && nat_le to own))
put_more true to old own = le_max to old own
put_more false to old own = or_false (nat_le to old)

pub ends_more : (ranges : List LeafRange) (i : ℕ) (d : LeafRange) (from to old new : ℕ) → i < length ranges
    → new ≡ (if nat_eq (get_or ranges i d).from from then max old (get_or ranges i d).to else old)
    → nat_le to old ≡ list_any (begins_at from to) (take i ranges) → nat_le to new ≡ list_any (begins_at from to) (take (i + 1) ranges)
ends_more ranges i d from to old new less is h =
    let r = get_or ranges i d in
    ap (nat_le to) is ∙ put_more (nat_eq r.from from) to old r.to ∙ ap (λ (b : Bool). b || begins_at from to r) h
    ∙ sym (list_any_more (begins_at from to) ranges i d less)

-- what is known of the ends before the first leaves, and of the one before all the others
pub record EndsSoFar (ranges : List LeafRange) (i : ℕ) (before : List ℕ) (farthest : ℕ) : Type 0 where
  pub each : (from to : ℕ) → from < i → 0 < to → nat_le to (get_or before from 0) ≡ list_any (begins_before from to) ranges
  pub last : (to : ℕ) → 0 < to → nat_le to farthest ≡ list_any (begins_before i to) ranges

none_before : (to : ℕ) (ranges : List LeafRange) → list_any (begins_before 0 to) ranges ≡ false
none_before to [] = refl
none_before to (r ∷ ranges) = ap (λ (b : Bool). (b && nat_le to r.to) || list_any (begins_before 0 to) ranges) (not_less r.from) ∙ none_before to ranges
  where
    not_less : (n : ℕ) → nat_lt n 0 ≡ false
    not_less n = grind (arith, nat_tests)

pub ends_start : (ranges : List LeafRange) (before : List ℕ) → EndsSoFar ranges 0 before 0
ends_start ranges before = record {
  each = λ from to less more. absurd (omega (arith, less));
  last = λ to more. above_none to more ∙ sym (none_before to ranges);
}

or_mix : (b s c t : Bool) → ((b || s) || (c || t)) ≡ ((b || c) || (s || t))
or_mix true s c t = refl
or_mix false true true t = refl
or_mix false true false t = refl
or_mix false false c t = refl

-- two tests and the one that is either
any_either : (p q s : LeafRange → Bool) → ((r : LeafRange) → p r ≡ (q r || s r)) → (ranges : List LeafRange)
    → list_any p ranges ≡ (list_any q ranges || list_any s ranges)
any_either p q s same [] = refl
any_either p q s same (r ∷ ranges) =
    (λ i. same r i || any_either p q s same ranges i) ∙ or_mix (q r) (s r) (list_any q ranges) (list_any s ranges)

next_before : (i to : ℕ) (r : LeafRange) → begins_before (i + 1) to r ≡ (begins_before i to r || begins_at i to r)
next_before i to r = by r.from (nat_le to r.to)
  where
    by : (n : ℕ) (b : Bool) → (nat_lt n (i + 1) && b) ≡ ((nat_lt n i && b) || (nat_eq n i && b))
    by n b = grind (arith, nat_tests)

greater : (a b : ℕ) → ord_max nat_cmp a b ≡ max a b
greater a b = grind arith

pub before_more : (ranges : List LeafRange) (ends before new : List ℕ) (i farthest next : ℕ) → AreEnds ranges ends → i < length ends
    → length before ≡ i → new ≡ before ++ farthest ∷ [] → next ≡ ord_max nat_cmp farthest (get_or ends i 0) → EndsSoFar ranges i before farthest
    → EndsSoFar ranges (i + 1) new next
before_more ranges ends before new i farthest next are less long is same h = record {
  each = λ from to low more.
      elim (order i from) [
        | inl le ↦
            let here : from ≡ i = omega (arith, le, low) in
            let there : from ≡ length before = omega (arith, here, long) in
            ap (λ (l : List ℕ). nat_le to (get_or l from 0)) is
            ∙ ap (λ (n : ℕ). nat_le to (get_or (before ++ farthest ∷ []) n 0)) there
            ∙ ap (nat_le to) (get_or-append_seam before farthest [] 0) ∙ h.last to more
            ∙ ap (λ (n : ℕ). list_any (begins_before n to) ranges) (sym here)
        | inr earlier ↦
            ap (λ (l : List ℕ). nat_le to (get_or l from 0)) is
            ∙ ap (nat_le to) (get_or-append before (farthest ∷ []) 0 from (omega (arith, earlier, long))) ∙ h.each from to earlier more
      ];
  last = λ to more.
      ap (nat_le to) (same ∙ greater farthest (get_or ends i 0)) ∙ le_max to farthest (get_or ends i 0) ∙ (λ j. h.last to more j || are.each i to less more j)
      ∙ sym (any_either (begins_before (i + 1) to) (begins_before i to) (begins_at i to) (next_before i to) ranges);
}

pub before_end : (ranges : List LeafRange) (before : List ℕ) (i farthest : ℕ) → length before ≡ i → EndsSoFar ranges i before farthest
    → AreEndsBefore ranges before
before_end ranges before i farthest long h = record { each = λ from to less more. h.each from to (omega (arith, less, long)) more }

-- ---- ranges within others

around_is : (r a : LeafRange) → is_around a r ≡ (begins_before r.from r.to a || begins_at r.from (r.to + 1) a)
around_is r a = by a.from a.to r.from r.to
  where
    by : (m n f t : ℕ) → (nat_le m f && (nat_le t n && not (nat_eq m f && nat_eq n t))) ≡ ((nat_lt m f && nat_le t n) || (nat_eq m f && nat_le (t + 1) n))
    by m n f t = grind (arith, nat_tests)

within_is : (ranges : List LeafRange) (ends before : List ℕ) (r : LeafRange) → AreEnds ranges ends → AreEndsBefore ranges before → r.from < length ends
    → r.from < length before → 0 < r.to
    → list_any (λ a. is_around a r) ranges ≡ (nat_le r.to (get_or before r.from 0) || nat_le (r.to + 1) (get_or ends r.from 0))
within_is ranges ends before r are are_before low low_before more =
    any_either (λ a. is_around a r) (begins_before r.from r.to) (begins_at r.from (r.to + 1)) (around_is r) ranges
    ∙ sym (λ j. are_before.each r.from r.to low_before more j || are.each r.from (r.to + 1) low (omega arith) j)

not_either : (b e t : ℕ) → (nat_lt b t && nat_le e t) ≡ not (nat_le t b || nat_le (t + 1) e)
not_either b e t = grind (arith, nat_tests)

pub outer_is : (ranges : List LeafRange) (ends before : List ℕ) (r : LeafRange) → AreEnds ranges ends → AreEndsBefore ranges before → r.from < length ends
    → r.from < length before → 0 < r.to
    → (nat_lt (get_or before r.from 0) r.to && nat_le (get_or ends r.from 0) r.to) ≡ not (list_any (λ a. is_around a r) ranges)
outer_is ranges ends before r are are_before low low_before more =
    not_either (get_or before r.from 0) (get_or ends r.from 0) r.to
    ∙ sym (ap not (within_is ranges ends before r are are_before low low_before more))

and_first : (a b c : Bool) → a ≡ true → (a && b) ≡ c → b ≡ c
and_first true b c e h = h
and_first false b c e h = absurd (cc)

and_none : (a b c : Bool) → a ≡ false → (a && b) ≡ c → a ≡ c
and_none true b c e h = absurd (cc)
and_none false b c e h = h

pub outer_then : (ranges : List LeafRange) (ends before : List ℕ) (r : LeafRange) → AreEnds ranges ends → AreEndsBefore ranges before → r.from < length ends
    → r.from < length before → 0 < r.to → get_or before r.from 0 < r.to
    → nat_le (get_or ends r.from 0) r.to ≡ not (list_any (λ a. is_around a r) ranges)
outer_then ranges ends before r are are_before low low_before more less =
    and_first (nat_lt (get_or before r.from 0) r.to) (nat_le (get_or ends r.from 0) r.to) (not (list_any (λ a. is_around a r) ranges))
    (less_is (get_or before r.from 0) r.to less) (outer_is ranges ends before r are are_before low low_before more)

not_less_is : (a b : ℕ) → b ≤ a → nat_lt a b ≡ false
not_less_is a b le = grind (arith, nat_tests)

pub outer_else : (ranges : List LeafRange) (ends before : List ℕ) (r : LeafRange) → AreEnds ranges ends → AreEndsBefore ranges before → r.from < length ends
    → r.from < length before → 0 < r.to → r.to ≤ get_or before r.from 0
    → nat_lt (get_or before r.from 0) r.to ≡ not (list_any (λ a. is_around a r) ranges)
outer_else ranges ends before r are are_before low low_before more le =
    and_none (nat_lt (get_or before r.from 0) r.to) (nat_le (get_or ends r.from 0) r.to) (not (list_any (λ a. is_around a r) ranges))
    (not_less_is (get_or before r.from 0) r.to le) (outer_is ranges ends before r are are_before low low_before more)

-- ---- those that pass

-- one more range
pub filter_push : (test : LeafRange → Bool) (ranges : List LeafRange) (i : ℕ) (d : LeafRange) (is : Bool) (old new : List LeafRange) → i < length ranges
    → is ≡ test (get_or ranges i d) → new ≡ old ++ (if is then get_or ranges i d ∷ [] else []) → old ≡ filter test (take i ranges)
    → new ≡ filter test (take (i + 1) ranges)
filter_push test ranges i d is old new less same made h =
    made ∙ (λ j. h j ++ (if same j then get_or ranges i d ∷ [] else [])) ∙ sym (filter_more test ranges i d less)

-- each range begins at a leaf, and has something
pub begins_within : (count : ℕ) (ranges : List LeafRange) (i : ℕ) (d : LeafRange) (xs ys : List ℕ) → All (IsProper count) ranges → i < length ranges
    → length xs ≡ count → ys ≡ xs → (get_or ranges i d).from < length ys
begins_within count ranges i d xs ys all less long same =
    let own : IsProper count (get_or ranges i d) = all i d less in
    let some = own.some in
    let within = own.within in
    omega (arith, some, within, long, ap length same)

pub ends_behind : (count : ℕ) (ranges : List LeafRange) (i : ℕ) (d : LeafRange) → All (IsProper count) ranges → i < length ranges
    → 0 < (get_or ranges i d).to
ends_behind count ranges i d all less =
    let own : IsProper count (get_or ranges i d) = all i d less in
    let some = own.some in
    omega (arith, some)

-- ---- by the edits

-- tests that agree on the items count alike
count_same : (p q : ℕ → Bool) (xs : List ℕ) (n : ℕ) → ((k : ℕ) → k < length xs → p (get_or xs k 0) ≡ q (get_or xs k 0))
    → count_by p (take n xs) ≡ count_by q (take n xs)
count_same p q xs zero same = refl
count_same p q [] (suc n) same = ap (count_by p) (take-nil (suc n)) ∙ sym (ap (count_by q) (take-nil (suc n)))
count_same p q (x ∷ xs) (suc n) same =
    let first : p x ≡ q x = same 0 (omega arith) in
    let rest : count_by p (take n xs) ≡ count_by q (take n xs) = count_same p q xs n (λ k less. same (suc k) (omega arith)) in
    sum_by-cons (λ m. cond (p m) 1 0) x (take n xs) ∙ (λ i. cond (first i) 1 0 + rest i) ∙ sym (sum_by-cons (λ m. cond (q m) 1 0) x (take n xs))

counts_same : (p q : ℕ → Bool) (xs counts : List ℕ) → ((k : ℕ) → k < length xs → p (get_or xs k 0) ≡ q (get_or xs k 0))
    → AreCounts p xs counts → AreCounts q xs counts
counts_same p q xs counts same h = record { long = h.long; each = λ n less. h.each n less ∙ count_same p q xs n same }

-- the statements of which nothing stays, found by flags and counts
pub found_gone : (edits : List Edit) (leaves : List ℕ) (statements ranges gone : List LeafRange) (flags removed : List Bool) (counts stays : List ℕ)
    (count : ℕ) → ((k : ℕ) → k < length leaves → get_or leaves k 0 < count)
    → ((n : ℕ) → n < count → get_or removed n false ≡ is_removed n edits) → flags ≡ removed
    → AreCounts (λ n. not (get_or flags n false)) leaves counts → stays ≡ counts
    → ((goes : ℕ → Bool) (ls : List ℕ) → AreCounts (λ n. not (goes n)) ls stays → gone ≡ filter (is_gone goes ls) statements) → ranges ≡ gone
    → ranges ≡ filter (is_gone (λ n. is_removed n edits) leaves) statements
found_gone edits leaves statements ranges gone flags removed counts stays count low flag same are is found whole =
    let goes : ℕ → Bool = λ n. is_removed n edits in
    let by_edits : AreCounts (λ n. not (goes n)) leaves counts =
    counts_same (λ n. not (get_or flags n false)) (λ n. not (goes n)) leaves counts
    (λ k less. ap not (ap (λ (l : List Bool). get_or l (get_or leaves k 0) false) same ∙ flag (get_or leaves k 0) (low k less))) are in
    whole ∙ found goes leaves (subst (λ (l : List ℕ). AreCounts (λ n. not (goes n)) leaves l) (sym is) by_edits)
