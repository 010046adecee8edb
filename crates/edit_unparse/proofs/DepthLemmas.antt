-- Inserts that are sorted by depth, the deepest first.
use Rattle.std.proofs.Common.{◌≡◌, ◌<◌, ◌≤◌, ◌==◌, ◌&&◌, ℕ, zero, suc, Bool, true, false, not, refl, sym, ap, ◌∙◌, arith, cond, max}
use Rattle.std.proofs.Common.{List, [], ◌∷◌, ◌++◌, length, get_or, filter, fold}
use Rattle.std.specs.Cmp.{IsStrictWeakOrder}
use Rattle.std.specs.List.{All}
use Rattle.std.specs.List.Sorted.{IsPermutation, IsSortedBy, IsStableBy}
use Rattle.std.specs.Ordering.{is_lt, nat_cmp}
use Rattle.std.proofs.lemmas.Bool.Decides.{nat_tests}
use Rattle.std.proofs.lemmas.List.Elements.{All-tail}
use Rattle.std.proofs.lemmas.List.Sorted.{All-permutation, sorted_far}
use Rattle.edit_unparse.specs.declared.tidy.plan.Placed.{Placed}
use Rattle.edit_unparse.specs.Tidy.Spots.{deepest_from, spot}

abbrev pub at_depth : ℕ → Placed → Bool
at_depth d p = p.depth == d

keep : (d : ℕ) (p : Placed) (ps : List Placed) → (p.depth == d) ≡ true → filter (at_depth d) (p ∷ ps) ≡ p ∷ filter (at_depth d) ps
keep d p ps e = ap (λ b. cond b (p ∷ filter (at_depth d) ps) (filter (at_depth d) ps)) e

skip : (d : ℕ) (p : Placed) (ps : List Placed) → (p.depth == d) ≡ false → filter (at_depth d) (p ∷ ps) ≡ filter (at_depth d) ps
skip d p ps e = ap (λ b. cond b (p ∷ filter (at_depth d) ps) (filter (at_depth d) ps)) e

above : (a b : ℕ) → b < a → (a == b) ≡ false
above a b less = grind (arith, nat_tests)

below : (a b : ℕ) → a < b → (a == b) ≡ false
below a b less = grind (arith, nat_tests)

equal : (a b : ℕ) → (a == b) ≡ true → a ≡ b
equal a b e = grind (arith, nat_tests)

zero_is : (a : ℕ) → a ≤ zero → (a == zero) ≡ true
zero_is a most = grind (arith, nat_tests)

lesser : (a b : ℕ) → a ≤ b → (a == b) ≡ false → a < b
lesser a b most other = grind (arith, nat_tests)

deepest_nil : (m : ℕ) → deepest_from m [] ≡ []
deepest_nil zero = refl
deepest_nil (suc m) = deepest_nil m

deepest_skip : (m : ℕ) (p : Placed) (ps : List Placed) → m < p.depth → deepest_from m (p ∷ ps) ≡ deepest_from m ps
deepest_skip zero p ps more = skip zero p ps (above p.depth zero more)
deepest_skip (suc m) p ps more = λ i. skip (suc m) p ps (above p.depth (suc m) more) i ++ deepest_skip m p ps (omega arith) i

none_at : (d : ℕ) (ps : List Placed) → All (λ p. p.depth < d) ps → filter (at_depth d) ps ≡ []
none_at d [] all = refl
none_at d (p ∷ ps) all = skip d p ps (below p.depth d (all 0 p (omega arith))) ∙ none_at d ps (All-tail (λ q. q.depth < d) p ps all)

zeros : (ps : List Placed) → All (λ p. p.depth ≤ zero) ps → filter (at_depth zero) ps ≡ ps
zeros [] all = refl
zeros (p ∷ ps) all = keep zero p ps (zero_is p.depth (all 0 p (omega arith)))
    ∙ ap (λ (l : List Placed). p ∷ l) (zeros ps (All-tail (λ q. q.depth ≤ zero) p ps all))

-- none is deeper than one before it
abbrev pub Falls : List Placed → Type 0
Falls ps = (i j : ℕ) (d : Placed) → i ≤ j → j < length ps → (get_or ps j d).depth ≤ (get_or ps i d).depth

falls_tail : (p : Placed) (ps : List Placed) → Falls (p ∷ ps) → Falls ps
falls_tail p ps falls = λ i j d le less. falls (suc i) (suc j) d (omega arith) (omega arith)

-- one depth more, given that of the others
deepest_along : (m : ℕ) → ((ps : List Placed) → Falls ps → All (λ p. p.depth ≤ m) ps → deepest_from m ps ≡ ps)
    → (qs : List Placed) → Falls qs → All (λ p. p.depth ≤ suc m) qs → filter (at_depth (suc m)) qs ++ deepest_from m qs ≡ qs
deepest_along m smaller [] falls most = deepest_nil m
deepest_along m smaller (p ∷ qs) falls most =
    by (p.depth == suc m) refl (deepest_along m smaller qs (falls_tail p qs falls) (All-tail (λ q. q.depth ≤ suc m) p qs most))
  where
    by : (b : Bool) → (p.depth == suc m) ≡ b → filter (at_depth (suc m)) qs ++ deepest_from m qs ≡ qs
        → filter (at_depth (suc m)) (p ∷ qs) ++ deepest_from m (p ∷ qs) ≡ p ∷ qs
    by true e rest =
        let same : p.depth ≡ suc m = equal p.depth (suc m) e in
        let more : m < p.depth = omega arith in
        (λ i. keep (suc m) p qs e i ++ deepest_skip m p qs more i) ∙ ap (λ (l : List Placed). p ∷ l) rest
    by false e rest =
        let top : p.depth ≤ suc m = most 0 p (omega arith) in
        let less : p.depth < suc m = lesser p.depth (suc m) top e in
        let all : (k : ℕ) (d : Placed) → k < length (p ∷ qs) → (get_or (p ∷ qs) k d).depth < suc m =
        λ k d within. let up : (get_or (p ∷ qs) k d).depth ≤ p.depth = falls 0 k d (omega arith) within in omega arith in
        λ i. none_at (suc m) (p ∷ qs) all i
        ++ smaller (p ∷ qs) falls (λ k d within. let l : (get_or (p ∷ qs) k d).depth < suc m = all k d within in omega arith) i

pub deepest_is : (m : ℕ) (ps : List Placed) → Falls ps → All (λ p. p.depth ≤ m) ps → deepest_from m ps ≡ ps
deepest_is zero ps falls most = zeros ps most
deepest_is (suc m) ps falls most = deepest_along m (λ qs f l. deepest_is m qs f l) ps falls most

pub deepest_same : (m : ℕ) (ps qs : List Placed) → ((d : ℕ) → filter (at_depth d) ps ≡ filter (at_depth d) qs) → deepest_from m ps ≡ deepest_from m qs
deepest_same zero ps qs same = same zero
deepest_same (suc m) ps qs same = λ i. same (suc m) i ++ deepest_same m ps qs same i

start_most : (ds : List ℕ) (a : ℕ) → a ≤ fold max a ds
start_most [] a = omega arith
start_most (d ∷ ds) a = let more = start_most ds (max a d) in omega arith

item_most : (ds : List ℕ) (n a : ℕ) → get_or ds n 0 ≤ fold max a ds
item_most [] n a = omega arith
item_most (d ∷ ds) zero a = let more = start_most ds (max a d) in omega arith
item_most (d ∷ ds) (suc n) a = item_most ds n (max a d)

-- no depth is more than the most
pub depth_most : (depths : List ℕ) (n : ℕ) → get_or depths n 0 ≤ fold max 0 depths
depth_most depths n = item_most depths n 0

-- which of two comes first when they are sorted, the deepest first
abbrev pub deeper : Placed → Placed → Bool
deeper x y = is_lt (nat_cmp y.depth x.depth)

one_way : (a b : ℕ) → is_lt (nat_cmp b a) ≡ true → is_lt (nat_cmp a b) ≡ false
one_way a b e = grind (arith, nat_tests)

chain : (a b c : ℕ) → is_lt (nat_cmp b a) ≡ false → is_lt (nat_cmp c b) ≡ false → is_lt (nat_cmp c a) ≡ false
chain a b c e f = grind (arith, nat_tests)

at_most : (a b : ℕ) → is_lt (nat_cmp b a) ≡ false → a ≤ b
at_most a b e = grind (arith, nat_tests)

tied : (d n : ℕ) → (not (is_lt (nat_cmp n d)) && not (is_lt (nat_cmp d n))) ≡ (n == d)
tied d n = grind (arith, nat_tests)

deeper_order : IsStrictWeakOrder deeper
deeper_order = record {
  one_way = λ x y e. one_way x.depth y.depth e;
  chain = λ x y z e f. chain x.depth y.depth z.depth e f;
}

sorted_falls : (ps : List Placed) → IsSortedBy deeper ps → Falls ps
sorted_falls ps up = λ i j d le less. at_most (get_or ps j d).depth (get_or ps i d).depth (sorted_far deeper deeper_order ps up i j d le less)

-- inserts that are sorted by depth, those of one depth in their order
pub sorted_is : (m : ℕ) (ps sorted : List Placed) → All (λ p. p.depth ≤ m) ps → IsPermutation ps sorted → IsSortedBy deeper sorted
    → IsStableBy deeper ps sorted → sorted ≡ deepest_from m ps
sorted_is m ps sorted most moved up stable =
    sym (deepest_is m sorted (sorted_falls sorted up) (All-permutation (λ p. p.depth ≤ m) ps sorted moved most)) ∙ deepest_same m sorted ps same
  where
    same : (d : ℕ) → filter (at_depth d) sorted ≡ filter (at_depth d) ps
    same d =
        let probe : Placed = record { spot = spot 0 false; edit = 0; insert = 0; depth = d } in
        sym (λ i. filter (λ (p : Placed). tied d p.depth i) sorted) ∙ stable probe ∙ (λ i. filter (λ (p : Placed). tied d p.depth i) ps)
