-- Lists of parts that a loop makes one after another, and rows made from parts of several tables.
use Rattle.std.proofs.Common.{◌≡◌, ℕ, zero, suc, ◌+◌, ◌-◌, ◌<◌, true, arith, refl, sym, ap, subst, ◌∙◌, List, [], ◌∷◌, ◌++◌}
use Rattle.std.proofs.Common.{length, take, get_or, nat_lt, None, Result}
use Rattle.std.specs.List.{filter}
use Rattle.std.specs.Result.{IfOk}
use Rattle.std.proofs.Math.Seq.{take-length}
use Rattle.std.proofs.lemmas.List.{map-append, take_more, length-map, length-take-le}
use Rattle.smpl_terms.specs.declared.var.Var.{Var}
use Rattle.smpl_patch.specs.declared.elem.Elem.{Elem}
use Rattle.smpl_patch.specs.Bodies.{body}
use Rattle.smpl_patch.proofs.BodyLemmas.{bodies}
use Rattle.ctl_formula.specs.Plain.{Plain, And, After, Not, InBranch}
use Rattle.ctl_formula.specs.declared.node.Node.{Node}
use Rattle.ctl_formula.specs.Tables.{at, plains, Grows, Makes}
use Rattle.ctl_formula.proofs.TableLemmas.{grows-refl, grows-trans, and-left, and-right, lt-true}
use Rattle.pattern_vars.specs.VarPlaces.Placing.{occurs_body}
use Rattle.ctl_table.specs.Table as table
use Rattle.ctl_table.specs.Settings.{all_below, parts_at, when_at, MakesAll}
use Rattle.ctl_table.proofs.MakingLemmas.{stays, all-stay, all-stand, lt-test, both-true, made-up, and-of}

pub all-more : (n : ℕ) (is : List ℕ) (i : ℕ) → all_below n is ≡ true → i < n → all_below n (is ++ i ∷ []) ≡ true
all-more n [] i h l = both-true _ _ (lt-test i n l) refl
all-more n (j ∷ is) i h l = both-true _ _ (and-left (nat_lt j n) (all_below n is) h) (all-more n is i (and-right (nat_lt j n) (all_below n is) h) l)

-- no parts yet
pub none-made : (a : List Node) → MakesAll a a [] []
none-made a = record { within = refl; are = refl; grows = grows-refl a }

-- one more part
pub one-more : (a b c : List Node) (is : List ℕ) (i : ℕ) (fs : List Plain) (f : Plain) → MakesAll a b is fs → Makes b c i f
    → MakesAll a c (is ++ i ∷ []) (fs ++ f ∷ [])
one-more a b c is i fs f x y = record {
  within = all-more (length c) is i (all-stand b c is y.grows x.within) y.within;
  are = map-append (at (plains c)) is (i ∷ []) ∙ ap (λ z. z ++ at (plains c) i ∷ []) (all-stay b c is y.grows x.within ∙ x.are) ∙ ap (λ z. fs ++ z ∷ []) y.is;
  grows = grows-trans a b c x.grows y.grows;
}

-- a loop over bodies makes one more
pub each-more : (m : table.Setting) (k : table.Follow) (w s : List Var) (bs : List (List Elem)) (b : List Elem)
    → table.each m (bodies (bs ++ b ∷ [])) k w s ≡ table.each m (bodies bs) k w s
    ++ table.seq m None (body b) k (filter (occurs_body m.reading (body b)) w) s s ∷ []
each-more m k w s [] b = refl
each-more m k w s (c ∷ bs) b = ap (λ z. table.seq m None (body c) k (filter (occurs_body m.reading (body c)) w) s s ∷ z) (each-more m k w s bs b)

pub when-more : (m : table.Setting) (s : List Var) (ws : List (List Elem)) (w : List Elem)
    → table.when_parts m (bodies (ws ++ w ∷ [])) s ≡ table.when_parts m (bodies ws) s ++ when_at m (body w) s ∷ []
when-more m s [] w = refl
when-more m s (v ∷ ws) w = ap (λ z. when_at m (body v) s ∷ z) (when-more m s ws w)

pub in_branches-more : (i : ℕ) (fs : List Plain) (f : Plain) → table.in_branches i (fs ++ f ∷ []) ≡ table.in_branches i fs ++ InBranch (i + length fs) f ∷ []
in_branches-more i [] f = let z : i ≡ i + 0 = omega arith in ap (λ n. InBranch n f ∷ []) z
in_branches-more i (g ∷ fs) f =
    let z : suc i + length fs ≡ i + length (g ∷ fs) = omega arith in
    ap (λ gs. InBranch i g ∷ gs) (in_branches-more (suc i) fs f ∙ ap (λ n. table.in_branches (suc i) fs ++ InBranch n f ∷ []) z)

-- the last branch is never excluded
pub choices-but_last : (e fs gs : List Plain) → table.choices e fs (take (length fs - 1) gs) ≡ table.choices e fs gs
choices-but_last e [] gs = refl
choices-but_last e (f ∷ []) [] = refl
choices-but_last e (f ∷ []) (g ∷ gs) = refl
choices-but_last e (f ∷ f2 ∷ fs) [] = let z : length (f ∷ f2 ∷ fs) - 1 ≡ suc (length fs) = omega arith in ap (λ n. table.choices e (f ∷ f2 ∷ fs) (take n [])) z
choices-but_last e (f ∷ f2 ∷ fs) (g ∷ gs) =
    let z : length (f ∷ f2 ∷ fs) - 1 ≡ suc (length (f2 ∷ fs) - 1) = omega arith in
    ap (λ n. table.choices e (f ∷ f2 ∷ fs) (take n (g ∷ gs))) z
    ∙ ap (λ hs. table.and_all f e ∷ hs) (choices-but_last (e ++ Not g ∷ []) (f2 ∷ fs) gs)

-- a part and what follows, made one after the other, and their row in the last table
pub past-made : {E : Type 0} (a c d : List Node) (r : Result ℕ E) (f g : ℕ) (F G : Plain) → Grows a c → at (plains c) f ≡ F → at (plains c) g ≡ G
    → IfOk r (λ i. Makes c d i (And (at (plains c) f) (After (at (plains c) g)))) → IfOk r (λ i. Makes a d i (And F (After G)))
past-made a c d r f g F G s p q h =
    made-up a c d r (And (at (plains c) f) (After (at (plains c) g))) (And F (After G)) s
    (and-of (at (plains c) f) (After (at (plains c) g)) F (After G) p (ap After q)) h

-- the number at a place of a list
pub all-at : (n : ℕ) (is : List ℕ) (i d f : ℕ) → i < length is → f ≡ get_or is i d → all_below n is ≡ true → f < n
all-at n [] i d f l q h = absurd (omega (arith, l))
all-at n (x ∷ is) zero d f l q h = let w = lt-true x n (and-left (nat_lt x n) (all_below n is) h) in omega (arith, q, w)
all-at n (x ∷ is) (suc i) d f l q h = all-at n is i d f (omega (arith, l)) q (and-right (nat_lt x n) (all_below n is) h)

-- the parts of a list's front, with one more
pub parts-more : (a : List Node) (is : List ℕ) (i d f : ℕ) → i < length is → f ≡ get_or is i d
    → parts_at a (take (i + 1) is) ≡ parts_at a (take i is) ++ at (plains a) f ∷ []
parts-more a is i d f l q =
    ap (parts_at a) (take_more is i d l ∙ ap (λ (z : ℕ). take i is ++ z ∷ []) (sym q)) ∙ map-append (at (plains a)) (take i is) (f ∷ [])

pub length-parts-take : (a : List Node) (is : List ℕ) (i : ℕ) → i < length is → length (parts_at a (take i is)) ≡ i
length-parts-take a is i l = length-map (take i is) (at (plains a)) ∙ length-take-le i is (omega (arith, l))

pub all-as : (a b : List Node) (is : List ℕ) (fs gs : List Plain) → fs ≡ gs → MakesAll a b is fs → MakesAll a b is gs
all-as a b is fs gs e m = record { within = m.within; are = m.are ∙ e; grows = m.grows }

-- one more part at the body with its number
pub in_branches-step : (a b c : List Node) (inside is : List ℕ) (i d f j : ℕ) → i < length inside → f ≡ get_or inside i d → all_below (length a) inside ≡ true
    → MakesAll a b is (table.in_branches 0 (parts_at a (take i inside))) → Makes b c j (InBranch i (at (plains b) f))
    → MakesAll a c (is ++ j ∷ []) (table.in_branches 0 (parts_at a (take (i + 1) inside)))
in_branches-step a b c inside is i d f j l q h x y =
    let same = stays a b f x.grows (all-at (length a) inside i d f l q h) in
    let front = parts_at a (take i inside) in
    let n : 0 + length front ≡ i = omega (arith, length-parts-take a inside i l) in
    let e : table.in_branches 0 front ++ InBranch i (at (plains b) f) ∷ [] ≡ table.in_branches 0 (parts_at a (take (i + 1) inside)) =
    ap (λ (z : Plain). table.in_branches 0 front ++ InBranch i z ∷ []) same
    ∙ ap (λ (z : ℕ). table.in_branches 0 front ++ InBranch z (at (plains a) f) ∷ []) (sym n)
    ∙ sym (in_branches-more 0 front (at (plains a) f))
    ∙ ap (table.in_branches 0) (sym (parts-more a inside i d f l q)) in
    all-as a c (is ++ j ∷ []) (table.in_branches 0 front ++ InBranch i (at (plains b) f) ∷ []) (table.in_branches 0 (parts_at a (take (i + 1) inside))) e
    (one-more a b c is j (table.in_branches 0 front) (InBranch i (at (plains b) f)) x y)

-- one more body or branch
pub each-step : (m : table.Setting) (a b c : List Node) (k l : table.Follow) (w s v : List Var) (bs : List (List Elem))
    (x y : List Elem) (is : List ℕ) (i j : ℕ)
    → i < length bs → x ≡ get_or bs i x → y ≡ x → v ≡ filter (occurs_body m.reading (body y)) w → l ≡ k
    → MakesAll a b is (table.each m (bodies (take i bs)) k w s)
    → Makes b c j (table.seq m None (body y) l v s s)
    → MakesAll a c (is ++ j ∷ []) (table.each m (bodies (take (i + 1) bs)) k w s)
each-step m a b c k l w s v bs x y is i j n q p u f made one =
    let row = λ (z : List Elem). table.seq m None (body z) k (filter (occurs_body m.reading (body z)) w) s s in
    let e : table.seq m None (body y) l v s s ≡ row x =
    ap (λ (z : List Var). table.seq m None (body y) l z s s) u
    ∙ ap (λ (z : table.Follow). table.seq m None (body y) z (filter (occurs_body m.reading (body y)) w) s s) f
    ∙ ap row p in
    let g : table.each m (bodies (take i bs)) k w s ++ table.seq m None (body y) l v s s ∷ [] ≡ table.each m (bodies (take (i + 1) bs)) k w s =
    ap (λ (z : Plain). table.each m (bodies (take i bs)) k w s ++ z ∷ []) e
    ∙ sym (each-more m k w s (take i bs) x)
    ∙ ap (λ (z : List (List Elem)). table.each m (bodies z) k w s) (ap (λ (z : List Elem). take i bs ++ z ∷ []) q ∙ sym (take_more bs i x n)) in
    all-as a c (is ++ j ∷ []) _ (table.each m (bodies (take (i + 1) bs)) k w s) g
    (one-more a b c is j (table.each m (bodies (take i bs)) k w s) (table.seq m None (body y) l v s s) made one)

-- one more piece of `when` code
pub when-step : (m : table.Setting) (a b c : List Node) (s : List Var) (ws : List (List Elem)) (x y : List Elem) (is : List ℕ) (i j : ℕ)
    → i < length ws → x ≡ get_or ws i x → y ≡ x
    → MakesAll a b is (table.when_parts m (bodies (take i ws)) s)
    → Makes b c j (when_at m (body y) s)
    → MakesAll a c (is ++ j ∷ []) (table.when_parts m (bodies (take (i + 1) ws)) s)
when-step m a b c s ws x y is i j n q p made one =
    let g : table.when_parts m (bodies (take i ws)) s ++ when_at m (body y) s ∷ [] ≡ table.when_parts m (bodies (take (i + 1) ws)) s =
    ap (λ (z : List Elem). table.when_parts m (bodies (take i ws)) s ++ when_at m (body z) s ∷ []) p
    ∙ sym (when-more m s (take i ws) x)
    ∙ ap (λ (z : List (List Elem)). table.when_parts m (bodies z) s) (ap (λ (z : List Elem). take i ws ++ z ∷ []) q ∙ sym (take_more ws i x n)) in
    all-as a c (is ++ j ∷ []) _ (table.when_parts m (bodies (take (i + 1) ws)) s) g
    (one-more a b c is j (table.when_parts m (bodies (take i ws)) s) (when_at m (body y) s) made one)

-- all of a list
pub taken : {A : Type 0} (n : ℕ) (xs : List A) → n ≡ length xs → take n xs ≡ xs
taken n xs e = ap (λ (z : ℕ). take z xs) e ∙ take-length xs

pub all-next : (a c : List Node) (is next : List ℕ) (j : ℕ) (fs : List Plain) → next ≡ is ++ j ∷ [] → MakesAll a c (is ++ j ∷ []) fs → MakesAll a c next fs
all-next a c is next j fs e m = subst (λ (z : List ℕ). MakesAll a c z fs) (sym e) m

pub init-all : (a : List Node) (is : List ℕ) → is ≡ [] → MakesAll a a is []
init-all a is e = subst (λ (z : List ℕ). MakesAll a a z []) (sym e) (none-made a)
