-- Lists that are kept in one list: one more list, and the list of a number.
use Rattle.std.proofs.Common.{◌≡◌, ℕ, zero, suc, ◌+◌, ◌-◌, ◌<◌, ◌≤◌, refl, sym, ap, subst, ◌∙◌, arith, List, [], ◌∷◌, ◌++◌}
use Rattle.std.proofs.Common.{length, take, drop, get_or, length-append, Some, slice_get}
use Rattle.std.specs.List.{slice_range}
use Rattle.std.proofs.lemmas.List.{length-take-le, length-drop, take-append-le, drop-append-le, drop-take, take-take}
use Rattle.std.proofs.Math.Seq.{drop-append_seam, take-length}
use Rattle.cfg_build.specs.CfgGraph.LinkRows.{lists_of, last_end, AreEnds, AreKept}

ends-rise : (from : ℕ) (es : List ℕ) → AreEnds from es → from ≤ last_end from es
ends-rise from [] h = omega arith
ends-rise from (e ∷ es) h = let r = ends-rise e es h.1 in let l = h.0 in omega arith

-- what is before n stays
range-more : (i j n : ℕ) (xs ys : List ℕ) → i ≤ j → j ≤ n → n ≤ length xs → slice_range (take n xs ++ ys) i j ≡ slice_range xs i j
range-more i j n xs ys lo hi w =
    let l = length-take-le n xs w in
    let k : i + (n - i) ≡ n = omega arith in
    let d = drop-append-le i (take n xs) ys (omega arith) in
    let r = length-drop i (take n xs) in
    let e = take-append-le (j - i) (drop i (take n xs)) ys (omega arith) in
    let t = ap (λ m. drop i (take m xs)) (sym k) ∙ drop-take i (n - i) xs in
    ap (take (j - i)) d ∙ e ∙ ap (take (j - i)) t ∙ take-take (j - i) (n - i) (drop i xs) (omega arith)

range-new : (n : ℕ) (xs ys : List ℕ) → n ≤ length xs → slice_range (take n xs ++ ys) n (n + length ys) ≡ ys
range-new n xs ys w =
    let d : drop n (take n xs ++ ys) ≡ ys = ap (λ k. drop k (take n xs ++ ys)) (sym (length-take-le n xs w)) ∙ drop-append_seam (take n xs) ys in
    let s : (n + length ys) - n ≡ length ys = omega arith in
    (λ k. take (s k) (d k)) ∙ take-length ys

lists-more : (from : ℕ) (es : List ℕ) (n : ℕ) (xs ys : List ℕ) → AreEnds from es → last_end from es ≤ n → n ≤ length xs
    → lists_of from es (take n xs ++ ys) ≡ lists_of from es xs
lists-more from [] n xs ys h l w = refl
lists-more from (e ∷ es) n xs ys h l w =
    let r = ends-rise e es h.1 in
    let here = range-more from e n xs ys h.0 (omega arith) w in
    let more = lists-more e es n xs ys h.1 l w in
    λ k. here k ∷ more k

lists-snoc : (from : ℕ) (es : List ℕ) (e : ℕ) (xs : List ℕ) → lists_of from (es ++ e ∷ []) xs ≡ lists_of from es xs ++ slice_range xs (last_end from es) e ∷ []
lists-snoc from [] e xs = refl
lists-snoc from (d ∷ es) e xs = ap (λ ls. slice_range xs from d ∷ ls) (lists-snoc d es e xs)

ends-snoc : (from : ℕ) (es : List ℕ) (e : ℕ) → AreEnds from es → last_end from es ≤ e → AreEnds from (es ++ e ∷ [])
ends-snoc from [] e h l = (l, tt)
ends-snoc from (d ∷ es) e h l = (h.0, ends-snoc d es e h.1 l)

last-snoc : (from : ℕ) (es : List ℕ) (e : ℕ) → last_end from (es ++ e ∷ []) ≡ e
last-snoc from [] e = refl
last-snoc from (d ∷ es) e = last-snoc d es e

-- one more list
row-pushed : (ends xs ys : List ℕ) → AreKept ends (length xs)
    → lists_of 0 (ends ++ length (take (last_end 0 ends) xs ++ ys) ∷ []) (take (last_end 0 ends) xs ++ ys) ≡ lists_of 0 ends xs ++ ys ∷ []
row-pushed ends xs ys k =
    let n = last_end 0 ends in
    let zs = take n xs ++ ys in
    let l = length-take-le n xs k.within in
    let e : length zs ≡ n + length ys = omega (arith, length-append (take n xs) ys, l) in
    let before = lists-more 0 ends n xs ys k.rising (omega arith) k.within in
    let new = ap (slice_range zs n) e ∙ range-new n xs ys k.within in
    lists-snoc 0 ends (length zs) zs ∙ (λ j. before j ++ new j ∷ [])

row-kept : (ends xs ys : List ℕ) → AreKept ends (length xs)
    → AreKept (ends ++ length (take (last_end 0 ends) xs ++ ys) ∷ []) (length (take (last_end 0 ends) xs ++ ys))
row-kept ends xs ys k =
    let n = last_end 0 ends in
    let l = length-take-le n xs k.within in
    let e = length-append (take n xs) ys in
    let s = last-snoc 0 ends (length (take n xs ++ ys)) in
    record { rising = ends-snoc 0 ends (length (take n xs ++ ys)) k.rising (omega (arith, e, l)); within = omega (arith, s) }

pub lists-length : (from : ℕ) (es xs : List ℕ) → length (lists_of from es xs) ≡ length es
lists-length from [] xs = refl
lists-length from (e ∷ es) xs = ap suc (lists-length e es xs)

pub lists-get : (from : ℕ) (es xs : List ℕ) (n : ℕ) → n < length es
    → get_or (lists_of from es xs) n [] ≡ slice_range xs (last_end from (take n es)) (get_or es n 0)
lists-get from [] xs n h = absurd (omega arith)
lists-get from (e ∷ es) xs zero h = refl
lists-get from (e ∷ es) xs (suc n) h = lists-get e es xs n (omega arith)

pub ends-get : (from : ℕ) (es : List ℕ) (n : ℕ) → AreEnds from es → n < length es
    → (last_end from (take n es) ≤ get_or es n 0) × (get_or es n 0 ≤ last_end from es)
ends-get from [] n h l = absurd (omega arith)
ends-get from (e ∷ es) zero h l = (h.0, ends-rise e es h.1)
ends-get from (e ∷ es) (suc n) h l = ends-get e es n h.1 (omega arith)

pub last-get : (from : ℕ) (es : List ℕ) (x : ℕ) → Some x ≡ slice_get es (length es - 1) → x ≡ last_end from es
last-get from [] x h = absurd (cc)
last-get from (e ∷ []) x h = cc
last-get from (e ∷ (f ∷ es)) x h =
    let k : length (e ∷ f ∷ es) - 1 ≡ suc (length (f ∷ es) - 1) = omega arith in
    last-get e (f ∷ es) x (h ∙ ap (slice_get (e ∷ f ∷ es)) k)

-- one more list, as the code appends it
pub pushed : (ends xs ys ends' xs' : List ℕ) (from end : ℕ) → AreKept ends (length xs) → from ≡ last_end 0 ends
    → xs' ≡ take from xs ++ ys → end ≡ length xs' → ends' ≡ ends ++ end ∷ []
    → (lists_of 0 ends' xs' ≡ lists_of 0 ends xs ++ ys ∷ []) × AreKept ends' (length xs')
pushed ends xs ys ends' xs' from end k f x n e =
    let zs = take (last_end 0 ends) xs ++ ys in
    let same : xs' ≡ zs = x ∙ ap (λ m. take m xs ++ ys) f in
    let with : ends' ≡ ends ++ length zs ∷ [] = e ∙ ap (λ m. ends ++ m ∷ []) (n ∙ ap length same) in
    let both : (ends', xs') ≡ (ends ++ length zs ∷ [], zs) = λ j. (with j, same j) in
    let P : List ℕ × List ℕ → Type 0 = λ p. AreKept p.0 (length p.1) in
    (ap (λ (p : List ℕ × List ℕ). lists_of 0 p.0 p.1) both ∙ row-pushed ends xs ys k, subst P (sym both) (row-kept ends xs ys k))

-- the list of a number ends somewhere
pub kept-within : (ends numbers : List ℕ) (all : List (List ℕ)) (found : List ℕ) (n : ℕ) → lists_of 0 ends numbers ≡ all
    → found ≡ ends → n < length all → n < length found
kept-within ends numbers all found n e f h =
    let l = lists-length 0 ends numbers in let a = ap length e in let b = ap length f in omega (arith, l, a, b, h)
