-- Branches, each with what follows it and the negations of those before it, one after another.
use Rattle.std.proofs.Common.{◌≡◌, ℕ, zero, suc, ◌+◌, ◌-◌, ◌<◌, true, arith, refl, sym, ap, subst, ◌∙◌, List, [], ◌∷◌, ◌++◌}
use Rattle.std.proofs.Common.{map, length, take, drop, get_or, nat_lt, append_assoc, append-nil, min, add-one, Result}
use Rattle.std.specs.Result.{IfOk}
use Rattle.std.proofs.lemmas.List.{map-append, take-map, take_min, drop-map, length-map}
use Rattle.std.proofs.Math.Seq.{drop-cons}
use Rattle.ctl_formula.specs.Plain.{Plain, Not}
use Rattle.ctl_formula.specs.declared.node.Node.{Node}
use Rattle.ctl_formula.specs.Tables.{at, plains, Grows, Makes}
use Rattle.ctl_formula.proofs.TableLemmas.{grows-refl, grows-trans, grows-length, and-left, and-right}
use Rattle.ctl_table.specs.Table as table
use Rattle.ctl_table.specs.Settings.{all_below, parts_at, not_first, MakesAll}
use Rattle.ctl_table.proofs.MakingLemmas.{stays, all-stay, all-stand, both-true, made-up}
use Rattle.ctl_table.proofs.RowLemmas.{all-at, all-more, all-as, all-next, one-more, choices-but_last}

-- how far the branches are processed: those that are made, and what excludes the next ones
pub record IsChosen (a b : List Node) (with alone made earlier : List ℕ) (i : ℕ) : Type 0 where
  pub within : all_below (length b) made ≡ true
  pub excluded : all_below (length b) earlier ≡ true
  pub are : parts_at b made ++ table.choices (parts_at b earlier) (drop i (parts_at a with)) (drop i (parts_at a alone))
      ≡ table.choices [] (parts_at a with) (parts_at a alone)
  pub grows : Grows a b

pub chosen-none : (a : List Node) (with alone made earlier : List ℕ) → made ≡ [] → earlier ≡ [] → IsChosen a a with alone made earlier 0
chosen-none a with alone made earlier p q =
    subst (λ (z : List ℕ). IsChosen a a with alone z earlier 0) (sym p)
    (subst (λ (z : List ℕ). IsChosen a a with alone [] z 0) (sym q) (record { within = refl; excluded = refl; are = refl; grows = grows-refl a }))

choices-one : (e : List Plain) (f : Plain) (fs gs : List Plain)
    → table.choices e (f ∷ fs) gs ≡ table.and_all f e ∷ table.choices (e ++ not_first gs) fs (drop 1 gs)
choices-one e f fs [] = ap (λ (z : List Plain). table.and_all f e ∷ table.choices z fs []) (sym (append-nil e))
choices-one e f fs (g ∷ gs) = refl

drop-one : (i : ℕ) (gs : List Plain) → drop (suc i) gs ≡ drop 1 (drop i gs)
drop-one zero gs = refl
drop-one (suc i) [] = refl
drop-one (suc i) (g ∷ gs) = drop-one i gs

drop-parts : (a : List Node) (is : List ℕ) (i d f : ℕ) → i < length is → f ≡ get_or is i d
    → drop i (parts_at a is) ≡ at (plains a) f ∷ drop (suc i) (parts_at a is)
drop-parts a is i d f l q =
    drop-map (at (plains a)) i is
    ∙ ap (map (at (plains a))) (drop-cons is i d l ∙ ap (λ (z : ℕ). z ∷ drop (suc i) is) (sym q))
    ∙ ap (λ (z : List Plain). at (plains a) f ∷ z) (sym (drop-map (at (plains a)) (suc i) is))

join : (p : List Plain) (x : Plain) (r : List Plain) → (p ++ x ∷ []) ++ r ≡ p ++ x ∷ r
join p x r = append_assoc p (x ∷ []) r

-- one branch more
pub chosen-more : (a b c d : List Node) (with alone made most earlier shown next : List ℕ) (i e f j : ℕ) → i < length with → f ≡ get_or with i e
    → all_below (length a) with ≡ true → all_below (length a) alone ≡ true
    → IsChosen a b with alone made earlier i
    → shown ≡ earlier → Makes b c j (table.and_all (at (plains b) f) (parts_at b shown)) → most ≡ made ++ j ∷ []
    → MakesAll c d next (parts_at c earlier ++ not_first (drop i (parts_at c alone)))
    → IsChosen a d with alone most next (i + 1)
chosen-more a b c d with alone made most earlier shown next i e f j l q hw ha x seen y o z =
    let ac = grows-trans a b c x.grows y.grows in
    let bd = grows-trans b c d y.grows z.grows in
    let ws = parts_at a with in
    let gs = parts_at a alone in
    let es = parts_at b earlier in
    let one = table.and_all (at (plains a) f) es in
    let one_is : at (plains d) j ≡ one =
    stays c d j z.grows y.within ∙ y.is ∙ ap (λ (v : List ℕ). table.and_all (at (plains b) f) (parts_at b v)) seen
    ∙ ap (λ (v : Plain). table.and_all v es) (stays a b f x.grows (all-at (length a) with i e f l q hw)) in
    let made_is : parts_at d (made ++ j ∷ []) ≡ parts_at b made ++ one ∷ [] =
    map-append (at (plains d)) made (j ∷ [])
    ∙ ap (λ (v : List Plain). v ++ at (plains d) j ∷ []) (all-stay b d made bd x.within)
    ∙ ap (λ (v : Plain). parts_at b made ++ v ∷ []) one_is in
    let next_is : parts_at d next ≡ es ++ not_first (drop i gs) =
    z.are ∙ ap (λ (v : List Plain). v ++ not_first (drop i (parts_at c alone))) (all-stay b c earlier y.grows x.excluded)
    ∙ ap (λ (v : List Plain). es ++ not_first (drop i v)) (all-stay a c alone ac ha) in
    let n : i + 1 ≡ suc i = add-one i in
    subst (λ (v : List ℕ). IsChosen a d with alone v next (i + 1)) (sym o) (record {
      within = all-more (length d) made j (all-stand b d made bd x.within) (omega (arith, y.within, grows-length c d z.grows));
      excluded = z.within;
      are = ap (λ (v : ℕ). parts_at d (made ++ j ∷ []) ++ table.choices (parts_at d next) (drop v ws) (drop v gs)) n
          ∙ ap (λ (v : List Plain). v ++ table.choices (parts_at d next) (drop (suc i) ws) (drop (suc i) gs)) made_is
          ∙ ap (λ (v : List Plain). (parts_at b made ++ one ∷ []) ++ table.choices v (drop (suc i) ws) (drop (suc i) gs)) next_is
          ∙ join (parts_at b made) one (table.choices (es ++ not_first (drop i gs)) (drop (suc i) ws) (drop (suc i) gs))
          ∙ ap (λ (v : List Plain). parts_at b made ++ one ∷ table.choices (es ++ not_first (drop i gs)) (drop (suc i) ws) v) (drop-one i gs)
          ∙ ap (λ (v : List Plain). parts_at b made ++ v) (sym (choices-one es (at (plains a) f) (drop (suc i) ws) (drop i gs)))
          ∙ ap (λ (v : List Plain). parts_at b made ++ table.choices es v (drop i gs)) (sym (drop-parts a with i e f l q))
          ∙ x.are;
      grows = grows-trans a b d x.grows bd;
    })

drop-all : (fs : List Plain) → drop (length fs) fs ≡ []
drop-all [] = refl
drop-all (f ∷ fs) = drop-all fs

-- all branches
pub chosen-all : (a b : List Node) (with alone made earlier : List ℕ) (i : ℕ) → i ≡ length with → IsChosen a b with alone made earlier i
    → MakesAll a b made (table.choices [] (parts_at a with) (parts_at a alone))
chosen-all a b with alone made earlier i n x =
    let e : drop i (parts_at a with) ≡ [] =
    ap (λ (v : ℕ). drop v (parts_at a with)) (n ∙ sym (length-map with (at (plains a)))) ∙ drop-all (parts_at a with) in
    record {
      within = x.within;
      are = sym (append-nil (parts_at b made))
          ∙ ap (λ (v : List Plain). parts_at b made ++ table.choices (parts_at b earlier) v (drop i (parts_at a alone))) (sym e)
          ∙ x.are;
      grows = x.grows;
    }

all-front : (n i : ℕ) (is : List ℕ) → all_below n is ≡ true → all_below n (take i is) ≡ true
all-front n zero is h = refl
all-front n (suc i) [] h = refl
all-front n (suc i) (x ∷ is) h =
    both-true (nat_lt x n) (all_below n (take i is)) (and-left (nat_lt x n) (all_below n is) h) (all-front n i is (and-right (nat_lt x n) (all_below n is) h))

pub all-but_last : (n i : ℕ) (is : List ℕ) → all_below n is ≡ true → all_below n (take i is) ≡ true
all-but_last = all-front

take-least : (n : ℕ) (is : List ℕ) → take (min (length is) n) is ≡ take n is
take-least n is = let e : min (length is) n ≡ min n (length is) = omega arith in ap (λ (z : ℕ). take z is) e ∙ take_min n is

-- the last branch isn't needed alone
pub choices-least : (a : List Node) (with alone : List ℕ)
    → table.choices [] (parts_at a with) (parts_at a (take (min (length alone) (length with - 1)) alone))
    ≡ table.choices [] (parts_at a with) (parts_at a alone)
choices-least a with alone =
    ap (λ (z : List ℕ). table.choices [] (parts_at a with) (parts_at a z)) (take-least (length with - 1) alone)
    ∙ ap (λ (z : List Plain). table.choices [] (parts_at a with) z) (sym (take-map (at (plains a)) (length with - 1) alone))
    ∙ ap (λ (n : ℕ). table.choices [] (parts_at a with) (take (n - 1) (parts_at a alone))) (sym (length-map with (at (plains a))))
    ∙ choices-but_last [] (parts_at a with) (parts_at a alone)

-- one more negation
pub exclude-made : (a b : List Node) (alone earlier next : List ℕ) (i e f j : ℕ) → i < length alone → f ≡ get_or alone i e → all_below (length a) earlier ≡ true
    → Makes a b j (Not (at (plains a) f)) → next ≡ earlier ++ j ∷ []
    → MakesAll a b next (parts_at a earlier ++ not_first (drop i (parts_at a alone)))
exclude-made a b alone earlier next i e f j l q h m o =
    let n : not_first (drop i (parts_at a alone)) ≡ Not (at (plains a) f) ∷ [] = ap not_first (drop-parts a alone i e f l q) in
    all-next a b earlier next j (parts_at a earlier ++ not_first (drop i (parts_at a alone))) o
    (all-as a b (earlier ++ j ∷ []) (parts_at a earlier ++ Not (at (plains a) f) ∷ []) (parts_at a earlier ++ not_first (drop i (parts_at a alone)))
    (ap (λ (v : List Plain). parts_at a earlier ++ v) (sym n))
    (one-more a a b earlier j (parts_at a earlier) (Not (at (plains a) f)) (record { within = h; are = refl; grows = grows-refl a }) m))

-- the first branch that holds, if the list of the branches alone omits the last
pub first-made : {E : Type 0} (a b c : List Node) (with alone cut is js : List ℕ) (r : Result ℕ E)
    → cut ≡ take (min (length alone) (length with - 1)) alone → js ≡ is
    → MakesAll a b is (table.choices [] (parts_at a with) (parts_at a cut))
    → IfOk r (λ i. Makes b c i (table.any_of (parts_at b js)))
    → IfOk r (λ i. Makes a c i (table.any_of (table.choices [] (parts_at a with) (parts_at a alone))))
first-made a b c with alone cut is js r e j x y =
    made-up a b c r (table.any_of (parts_at b js)) (table.any_of (table.choices [] (parts_at a with) (parts_at a alone))) x.grows
    (ap table.any_of (ap (parts_at b) j ∙ x.are ∙ ap (λ (v : List ℕ). table.choices [] (parts_at a with) (parts_at a v)) e ∙ choices-least a with alone)) y
