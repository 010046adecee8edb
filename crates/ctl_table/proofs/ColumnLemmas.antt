-- Branches before each of the things that may follow, column by column.
use Rattle.std.proofs.Common.{◌≡◌, ℕ, zero, suc, ◌+◌, ◌-◌, ◌<◌, ◌≤◌, true, ◌&&◌, nat_lt, nat_eq, arith, refl, sym, ap, subst, ◌∙◌, List, [], ◌∷◌, ◌++◌}
use Rattle.std.proofs.Common.{map, length, take, drop, get_or, length-append, inl, inr, None, Some}
use Rattle.std.specs.Prelude.{slice_get}
use Rattle.std.specs.List.{list_all, filter, range_with_len}
use Rattle.std.proofs.lemmas.Bool.Decides.{nat_tests}
use Rattle.std.proofs.lemmas.List.{map-append, take_more, length-map, get_or-take, get_or-map, length-take, take-append-le}
use Rattle.std.proofs.lemmas.Option.{slice_get_within, get_or_from_slice_get}
use Rattle.std.proofs.Math.Seq.{take-length}
use Rattle.std.proofs.lemmas.List.Folds.{list_all-append}
use Rattle.std.proofs.lemmas.List.FromFn.{fill_by_all, map-range_with_len_more}
use Rattle.smpl_terms.specs.declared.var.Var.{Var}
use Rattle.smpl_patch.specs.declared.elem.Elem.{Elem}
use Rattle.smpl_patch.specs.Bodies.{AnyOf, AllOf, body}
use Rattle.smpl_patch.proofs.BodyLemmas.{bodies}
use Rattle.ctl_formula.specs.Plain.{Plain, True, Not}
use Rattle.ctl_formula.specs.declared.node.Node.{Node}
use Rattle.ctl_formula.specs.Tables.{at, plains, Grows, Makes}
use Rattle.ctl_formula.proofs.TableLemmas.{grows-trans, and-left, and-right}
use Rattle.pattern_vars.specs.VarPlaces.Placing.{occurs_body}
use Rattle.ctl_table.specs.Table as table
use Rattle.ctl_table.specs.declared.follow.Continuation.{Continuation}
use Rattle.ctl_table.specs.declared.follow.Continuation.TheVariants as made
use Rattle.ctl_table.specs.Settings.{all_below, parts_at, made_below, all_made_below, next_of, MakesAll}
use Rattle.ctl_table.specs.Columns.{EndsWithNothing, column, rows_within, first_of_column, MakesColumns}
use Rattle.ctl_table.proofs.MakingLemmas.{stays, all-stand, all-stay, both-true, lt-test}
use Rattle.ctl_table.proofs.FollowLemmas.{follow-stays, all-kept}
use Rattle.ctl_table.proofs.RowLemmas.{all-at, all-next, all-as, one-more, each-more}
use Rattle.ctl_table.proofs.EachLemmas.{item-is, map-map}
use Rattle.ctl_table.proofs.SuffixLemmas.{all-up}

eq-true : (i n : ℕ) → nat_eq i n ≡ true → i ≡ n
eq-true i n h = grind (arith, nat_tests)

eq-test : (i n : ℕ) → i ≡ n → nat_eq i n ≡ true
eq-test i n h = grind (arith, nat_tests)

-- rows that are in range stay so in a table that grew
pub rows-stand : (a b : List Node) (w : ℕ) (rows : List (List ℕ)) → Grows a b → rows_within (length a) w rows ≡ true → rows_within (length b) w rows ≡ true
rows-stand a b w [] g h = refl
rows-stand a b w (row ∷ rows) g h =
    let here = and-left (nat_eq (length row) w && all_below (length a) row) (rows_within (length a) w rows) h in
    let more = and-right (nat_eq (length row) w && all_below (length a) row) (rows_within (length a) w rows) h in
    both-true (nat_eq (length row) w && all_below (length b) row) (rows_within (length b) w rows)
    (both-true (nat_eq (length row) w) (all_below (length b) row) (and-left (nat_eq (length row) w) (all_below (length a) row) here)
    (all-stand a b row g (and-right (nat_eq (length row) w) (all_below (length a) row) here)))
    (rows-stand a b w rows g more)

below-at : (n j : ℕ) (row : List ℕ) → j < length row → all_below n row ≡ true → nat_lt (get_or row j 0) n ≡ true
below-at n j row l h = item-is (λ i. nat_lt i n) row j (get_or row j 0) 0 l refl h

-- a number of a list, in a longer table
pub below-in : (n m : ℕ) (row : List ℕ) (j : ℕ) → j < length row → n ≤ m → all_below n row ≡ true → get_or row j 0 < m
below-in n m row j l h w = let b = all-at n row j 0 (get_or row j 0) l refl w in omega (arith, b, h)

-- a column of the rows
pub column-within : (n w j : ℕ) (rows : List (List ℕ)) → j < w → rows_within n w rows ≡ true → all_below n (column j rows) ≡ true
column-within n w j [] l h = refl
column-within n w j (row ∷ rows) l h =
    let here = and-left (nat_eq (length row) w && all_below n row) (rows_within n w rows) h in
    let long = eq-true (length row) w (and-left (nat_eq (length row) w) (all_below n row) here) in
    both-true (nat_lt (get_or row j 0) n) (all_below n (column j rows))
    (below-at n j row (omega (arith, long, l)) (and-right (nat_eq (length row) w) (all_below n row) here))
    (column-within n w j rows l (and-right (nat_eq (length row) w && all_below n row) (rows_within n w rows) h))

pub column-long : (n w j : ℕ) (rows : List (List ℕ)) → j < w → rows_within n w rows ≡ true → list_all (λ row. nat_lt j (length row)) rows ≡ true
column-long n w j [] l h = refl
column-long n w j (row ∷ rows) l h =
    let here = and-left (nat_eq (length row) w && all_below n row) (rows_within n w rows) h in
    let long = eq-true (length row) w (and-left (nat_eq (length row) w) (all_below n row) here) in
    both-true (nat_lt j (length row)) (list_all (λ row. nat_lt j (length row)) rows)
    (lt-test j (length row) (omega (arith, long, l)))
    (column-long n w j rows l (and-right (nat_eq (length row) w && all_below n row) (rows_within n w rows) h))

-- no rows yet
pub no-rows : (a : List Node) (nexts : List Continuation) (rows : List (List ℕ)) (fs : Continuation → List Plain) → ((n : Continuation) → fs n ≡ []) → Grows a a
    → rows ≡ [] → MakesColumns a a nexts rows fs
no-rows a nexts rows fs e g q = subst (λ (z : List (List ℕ)). MakesColumns a a nexts z fs) (sym q) (record {
  within = refl;
  are = λ j d l. sym (e (get_or nexts j d));
  grows = g;
})

-- the part at a place of a row
part-at : {A : Type 0} (c : List Node) (f : A → Plain) (xs : List A) (row : List ℕ) (j : ℕ) (d : A) → j < length xs → parts_at c row ≡ map f xs
    → at (plains c) (get_or row j 0) ≡ f (get_or xs j d)
part-at c f [] row j d l e = absurd (omega (arith, l))
part-at c f (x ∷ xs) [] j d l e = absurd cc
part-at c f (x ∷ xs) (i ∷ row) zero d l e = ap (λ (z : List Plain). get_or z 0 True) e
part-at c f (x ∷ xs) (i ∷ row) (suc j) d l e = part-at c f xs row j d (omega (arith, l)) (ap (λ (z : List Plain). drop 1 z) e)

-- one branch more
pub columns-step : (m : table.Setting) (a b c : List Node) (nexts : List Continuation) (w s v : List Var) (bs : List (List Elem)) (x y : List Elem)
    (rows next : List (List ℕ)) (row : List ℕ) (i : ℕ)
    → i < length bs → x ≡ get_or bs i x → y ≡ x → v ≡ filter (occurs_body m.reading (body y)) w → next ≡ rows ++ row ∷ []
    → all_made_below (length a) nexts ≡ true
    → MakesColumns a b nexts rows (λ n. table.each m (bodies (take i bs)) (next_of (plains a) m n) w s)
    → MakesAll b c row (map (λ n. table.seq m None (body y) (next_of (plains b) m n) v s s) nexts)
    → MakesColumns a c nexts next (λ n. table.each m (bodies (take (i + 1) bs)) (next_of (plains a) m n) w s)
columns-step m a b c nexts w s v bs x y rows next row i l q p u o below made one =
    let k = λ (n : Continuation). next_of (plains a) m n in
    let f = λ (n : Continuation). table.seq m None (body y) (next_of (plains b) m n) v s s in
    let g = λ (n : Continuation). table.seq m None (body x) (k n) (filter (occurs_body m.reading (body x)) w) s s in
    let same : (n : Continuation) → made_below (length a) n ≡ true → f n ≡ g n =
    λ n h. ap (λ (z : table.Follow). table.seq m None (body y) z v s s) (follow-stays a b m n made.grows h)
    ∙ ap (λ (z : List Var). table.seq m None (body y) (k n) z s s) u
    ∙ ap (λ (z : List Elem). table.seq m None (body z) (k n) (filter (occurs_body m.reading (body z)) w) s s) p in
    let long : length row ≡ length nexts =
    sym (length-map row (at (plains c))) ∙ ap length one.are ∙ length-map nexts f in
    subst (λ (z : List (List ℕ)). MakesColumns a c nexts z (λ n. table.each m (bodies (take (i + 1) bs)) (k n) w s)) (sym o) (record {
      within = list_all-append (λ r. nat_eq (length r) (length nexts) && all_below (length c) r) rows (row ∷ [])
          ∙ both-true (rows_within (length c) (length nexts) rows) (rows_within (length c) (length nexts) (row ∷ []))
          (rows-stand b c (length nexts) rows one.grows made.within)
          (both-true (nat_eq (length row) (length nexts) && all_below (length c) row) true
          (both-true (nat_eq (length row) (length nexts)) (all_below (length c) row) (eq-test (length row) (length nexts) long) one.within) refl);
      are = λ j d h.
          let n = get_or nexts j d in
          ap (parts_at c) (map-append (λ (r : List ℕ). get_or r j 0) rows (row ∷ []))
          ∙ map-append (at (plains c)) (column j rows) (get_or row j 0 ∷ [])
          ∙ ap (λ (z : List Plain). z ++ at (plains c) (get_or row j 0) ∷ [])
          (all-stay b c (column j rows) one.grows (column-within (length b) (length nexts) j rows h made.within) ∙ made.are j d h)
          ∙ ap (λ (z : Plain). table.each m (bodies (take i bs)) (k n) w s ++ z ∷ [])
          (part-at c f nexts row j d h one.are ∙ same n (item-is (made_below (length a)) nexts j n d h refl below))
          ∙ sym (each-more m (k n) w s (take i bs) x)
          ∙ ap (λ (z : List (List Elem)). table.each m (bodies z) (k n) w s) (ap (λ (z : List Elem). take i bs ++ z ∷ []) q ∙ sym (take_more bs i x l));
      grows = grows-trans a b c made.grows one.grows;
    })

-- a list with one more at its end
pub last-pushed : {A : Type 0} (xs : List A) (x : A) → slice_get (xs ++ x ∷ []) (length (xs ++ x ∷ []) - 1) ≡ Some x
last-pushed [] x = refl
last-pushed (y ∷ xs) x =
    let n : length (y ∷ xs ++ x ∷ []) - 1 ≡ suc (length (xs ++ x ∷ []) - 1) = omega (arith, length-append xs (x ∷ [])) in
    ap (slice_get (y ∷ xs ++ x ∷ [])) n ∙ last-pushed xs x

-- what may follow is at the front of the list that ends with nothing
front-of : (nexts all : List Continuation) → EndsWithNothing nexts all → take (length nexts) all ≡ nexts
front-of nexts all e = elim e.kept [
  | inl q ↦ ap (take (length nexts)) q ∙ take-length nexts
  | inr q ↦ ap (take (length nexts)) q ∙ take-append-le (length nexts) nexts (made.Nothing ∷ []) (omega arith) ∙ take-length nexts
]

front-at : (nexts all : List Continuation) (j : ℕ) (d : Continuation) → j < length nexts → EndsWithNothing nexts all → get_or all j d ≡ get_or nexts j d
front-at nexts all j d l e = sym (get_or-take (length nexts) all j d l) ∙ ap (λ (z : List Continuation). get_or z j d) (front-of nexts all e)

pub front-long : (nexts all : List Continuation) → EndsWithNothing nexts all → length nexts ≤ length all
front-long nexts all e =
    let n : length (take (length nexts) all) ≡ length nexts = ap length (front-of nexts all e) in
    omega (arith, n, length-take (length nexts) all)

-- all of it has its parts in range
pub all-within : (n : ℕ) (nexts all : List Continuation) → EndsWithNothing nexts all → all_made_below n nexts ≡ true → all_made_below n all ≡ true
all-within n nexts all e h = elim e.kept [
  | inl q ↦ ap (all_made_below n) q ∙ h
  | inr q ↦ ap (all_made_below n) q ∙ list_all-append (made_below n) nexts (made.Nothing ∷ []) ∙ both-true (all_made_below n nexts) true h refl
]

pub last-long : (nexts all : List Continuation) → EndsWithNothing nexts all → length all - 1 < length all
last-long nexts all e = slice_get_within all (length all - 1) made.Nothing e.last

-- as many parts as things that may follow
pub all-long : (a b : List Node) (is : List ℕ) (f : Continuation → Plain) (nexts : List Continuation) → MakesAll a b is (map f nexts) → length is ≡ length nexts
all-long a b is f nexts x = sym (length-map is (at (plains b))) ∙ ap length x.are ∙ length-map nexts f

-- the branch that the last would exclude doesn't exist
choices-front : (e fs gs : List Plain) (f g : Plain) → length fs ≡ length gs
    → table.choices e (fs ++ f ∷ []) gs ≡ table.choices e (fs ++ f ∷ []) (gs ++ g ∷ [])
choices-front e [] [] f g l = refl
choices-front e [] (y ∷ gs) f g l = absurd (omega (arith, l))
choices-front e (x ∷ fs) [] f g l = absurd (omega (arith, l))
choices-front e (x ∷ fs) (y ∷ gs) f g l =
    ap (λ (z : List Plain). table.and_all x e ∷ z) (choices-front (e ++ Not y ∷ []) fs gs f g (omega (arith, l)))

each-long : (m : table.Setting) (k h : table.Follow) (w s : List Var) (bs : List (List Elem))
    → length (table.each m (bodies bs) k w s) ≡ length (table.each m (bodies bs) h w s)
each-long m k h w s [] = refl
each-long m k h w s (b ∷ bs) = let e = each-long m k h w s bs in omega (arith, e)

-- the first branch that holds, if the last isn't made alone
first-whole : (m : table.Setting) (k : table.Follow) (w s : List Var) (bs : List (List Elem)) (b : List Elem)
    → table.choices [] (table.each m (bodies bs) k w s
    ++ table.seq m None (body b) k (filter (occurs_body m.reading (body b)) w) s s ∷ []) (table.each m (bodies bs) table.nothing w s)
    ≡ table.choices [] (table.each m (bodies (bs ++ b ∷ [])) k w s) (table.each m (bodies (bs ++ b ∷ [])) table.nothing w s)
first-whole m k w s bs b =
    let row = λ (n : table.Follow). table.seq m None (body b) n (filter (occurs_body m.reading (body b)) w) s s in
    let fs = table.each m (bodies bs) k w s in
    let gs = table.each m (bodies bs) table.nothing w s in
    choices-front [] fs gs (row k) (row table.nothing) (each-long m k table.nothing w s bs)
    ∙ ap (λ (z : List Plain). table.choices [] z (gs ++ row table.nothing ∷ [])) (sym (each-more m k w s bs b))
    ∙ ap (table.choices [] (table.each m (bodies (bs ++ b ∷ [])) k w s)) (sym (each-more m table.nothing w s bs b))

-- the first branch that holds, before each of the things that may follow
pub choice-each : (m : table.Setting) (a b c d : List Node) (nexts all : List Continuation) (w s : List Var) (bs front : List (List Elem)) (x y : List Elem)
    (rows : List (List ℕ)) (ends es is : List ℕ) (last : ℕ)
    → EndsWithNothing nexts all → last ≡ length all - 1 → bs ≡ front ++ x ∷ [] → y ≡ x → es ≡ ends → all_made_below (length a) nexts ≡ true
    → MakesColumns a b all rows (λ n. table.each m (bodies front) (next_of (plains a) m n) w s)
    → MakesAll b c ends (map (λ n. table.seq m None (body y) (next_of (plains b) m n) (filter (occurs_body m.reading (body y)) w) s s) nexts)
    → MakesAll c d is (map (first_of_column (plains c) rows es last) (range_with_len 0 (length es)))
    → MakesAll a d is (map (λ n. table.elem m None None (AnyOf (bodies bs)) (next_of (plains a) m n) w s s) nexts)
choice-each m a b c d nexts all w s bs front x y rows ends es is last ends_with q o p r below columns one firsts =
    let k = λ (n : Continuation). next_of (plains a) m n in
    let f = λ (n : Continuation). table.seq m None (body y) (next_of (plains b) m n) (filter (occurs_body m.reading (body y)) w) s s in
    let g = λ (n : Continuation). table.seq m None (body x) (k n) (filter (occurs_body m.reading (body x)) w) s s in
    let same : (n : Continuation) → made_below (length a) n ≡ true → f n ≡ g n =
    λ n h. ap (λ (z : table.Follow). table.seq m None (body y) z (filter (occurs_body m.reading (body y)) w) s s) (follow-stays a b m n columns.grows h)
    ∙ ap (λ (z : List Elem). table.seq m None (body z) (k n) (filter (occurs_body m.reading (body z)) w) s s) p in
    let row = λ (n : Continuation). table.elem m None None (AnyOf (bodies bs)) (k n) w s s in
    let first = first_of_column (plains c) rows es last in
    let shown = first_of_column (plains c) rows ends last in
    let long = all-long b c ends f nexts one in
    let kept : (j : ℕ) → j < length all → parts_at c (column j rows) ≡ parts_at b (column j rows) =
    λ j l. all-stay b c (column j rows) one.grows (column-within (length b) (length all) j rows l columns.within) in
    let alone : parts_at c (column last rows) ≡ table.each m (bodies front) table.nothing w s =
    kept last (omega (arith, q, last-long nexts all ends_with))
    ∙ columns.are last made.Nothing (omega (arith, q, last-long nexts all ends_with))
    ∙ ap (λ (n : Continuation). table.each m (bodies front) (k n) w s)
    (ap (λ (z : ℕ). get_or all z made.Nothing) q ∙ get_or_from_slice_get all (length all - 1) made.Nothing made.Nothing ends_with.last) in
    let at_one : (j : ℕ) → j < length nexts → get_or (map row nexts) j True ≡ shown j =
    λ j l.
    let n = get_or nexts j made.Nothing in
    get_or-map row nexts j made.Nothing True l
    ∙ ap (λ (z : List (List Elem)). table.any_of (table.choices [] (table.each m (bodies z) (k n) w s) (table.each m (bodies z) table.nothing w s))) o
    ∙ ap table.any_of (sym (first-whole m (k n) w s front x))
    ∙ sym (ap (λ (z : List Plain). table.any_of (table.choices [] (z ++ at (plains c) (get_or ends j 0) ∷ []) (parts_at c (column last rows))))
    (kept j (omega (arith, l, front-long nexts all ends_with))
    ∙ columns.are j made.Nothing (omega (arith, l, front-long nexts all ends_with))
    ∙ ap (λ (z : Continuation). table.each m (bodies front) (k z) w s) (front-at nexts all j made.Nothing l ends_with))
    ∙ ap (λ (z : Plain). table.any_of (table.choices [] (table.each m (bodies front) (k n) w s ++ z ∷ []) (parts_at c (column last rows))))
    (part-at c f nexts ends j made.Nothing l one.are ∙ same n (item-is (made_below (length a)) nexts j n made.Nothing l refl below))
    ∙ ap (λ (z : List Plain). table.any_of (table.choices [] (table.each m (bodies front) (k n) w s ++ g n ∷ []) z)) alone) in
    all-up a c d is (map first (range_with_len 0 (length es))) (map row nexts) (grows-trans a b c columns.grows one.grows)
    (ap (λ (z : List ℕ). map (first_of_column (plains c) rows z last) (range_with_len 0 (length z))) r
    ∙ ap (λ (z : ℕ). map shown (range_with_len 0 z)) long
    ∙ sym (fill_by_all shown (map row nexts) (length nexts) True (length-map nexts row) at_one)) firsts

-- no branches
pub choice-none : (m : table.Setting) (a b : List Node) (k : Continuation → table.Follow) (nexts : List Continuation)
    (is : List ℕ) (bs : List (List Elem)) (w s : List Var) → length bs ≡ 0
    → MakesAll a b is (map (λ n. table.any_of []) nexts) → MakesAll a b is (map (λ n. table.elem m None None (AnyOf (bodies bs)) (k n) w s s) nexts)
choice-none m a b k nexts is [] w s e x = x
choice-none m a b k nexts is (z ∷ zs) w s e x = absurd (omega (arith, e))

-- the branches except the last, and the last
pub last-branch : {A : Type 0} (xs : List A) (x : A) → 1 ≤ length xs → x ≡ get_or xs (length xs - 1) x → xs ≡ take (length xs - 1) xs ++ x ∷ []
last-branch {A = A} xs x l q =
    let n : length xs - 1 + 1 ≡ length xs = omega (arith, l) in
    sym (ap (λ (z : ℕ). take z xs) n ∙ take-length xs)
    ∙ take_more xs (length xs - 1) x (omega (arith, l))
    ∙ ap (λ (z : A). take (length xs - 1) xs ++ z ∷ []) (sym q)

tail-slice : {A : Type 0} (x : A) (xs : List A) → take (length (x ∷ xs) - 1) (drop 1 (x ∷ xs)) ≡ xs
tail-slice x xs = let e : length (x ∷ xs) - 1 ≡ length xs = omega arith in ap (λ (n : ℕ). take n xs) e ∙ take-length xs

-- no branches: what follows alone
pub every-none : (m : table.Setting) (a b : List Node) (k : Continuation → table.Follow) (nexts : List Continuation)
    (is : List ℕ) (bs : List (List Elem)) (w s : List Var) → length bs ≡ 0
    → MakesAll a b is (map (λ n. (k n).at s) nexts) → MakesAll a b is (map (λ n. table.elem m None None (AllOf (bodies bs)) (k n) w s s) nexts)
every-none m a b k nexts is [] w s e x = x
every-none m a b k nexts is (z ∷ zs) w s e x = absurd (omega (arith, e))

-- all branches, the first before each of the things that may follow
pub every-each : (m : table.Setting) (a b c d : List Node) (k : Continuation → table.Follow) (nexts : List Continuation)
    (bs : List (List Elem)) (x y : List Elem) (w v s : List Var)
    (fs gs is js ks : List ℕ)
    → 1 ≤ length bs → x ≡ get_or bs 0 x → y ≡ x → v ≡ filter (occurs_body m.reading (body y)) w → gs ≡ fs → js ≡ is
    → MakesAll a b fs (map (λ n. table.seq m None (body y) (k n) v s s) nexts)
    → MakesAll b c is (table.each m (bodies (take (length bs - 1) (drop 1 bs))) table.nothing w s)
    → MakesAll c d ks (map (λ f. table.and_all (at (plains c) f) (parts_at c js)) gs)
    → MakesAll a d ks (map (λ n. table.elem m None None (AllOf (bodies bs)) (k n) w s s) nexts)
every-each m a b c d k nexts [] x y w v s fs gs is js ks l q p u i j g h z = absurd (omega (arith, l))
every-each m a b c d k nexts (t ∷ ts) x y w v s fs gs is js ks l q p u i j g h z =
    let others = table.each m (bodies ts) table.nothing w s in
    let row = λ (n : Continuation) (e : List Elem). table.seq m None (body e) (k n) (filter (occurs_body m.reading (body e)) w) s s in
    let others_are : parts_at c js ≡ others =
    ap (parts_at c) j ∙ h.are ∙ ap (λ (e : List (List Elem)). table.each m (bodies e) table.nothing w s) (tail-slice t ts) in
    let firsts_are : parts_at c gs ≡ map (λ n. row n t) nexts =
    ap (parts_at c) i ∙ all-kept a b c fs (map (λ n. table.seq m None (body y) (k n) v s s) nexts) g h.grows
    ∙ ap (λ (e : List Var). map (λ n. table.seq m None (body y) (k n) e s s) nexts) u
    ∙ ap (λ (e : List Elem). map (λ n. row n e) nexts) (p ∙ q) in
    all-up a c d ks (map (λ f. table.and_all (at (plains c) f) (parts_at c js)) gs) (map (λ n. table.and_all (row n t) others) nexts)
    (grows-trans a b c g.grows h.grows)
    (ap (λ (e : List Plain). map (λ f. table.and_all (at (plains c) f) e) gs) others_are
    ∙ sym (map-map (λ f. table.and_all f others) (at (plains c)) gs)
    ∙ ap (map (λ f. table.and_all f others)) firsts_are
    ∙ map-map (λ f. table.and_all f others) (λ n. row n t) nexts) z

-- one more thing that may follow
pub first-step : (a b c : List Node) (rows : List (List ℕ)) (ends : List ℕ) (last j i e : ℕ) (is next alone : List ℕ)
    → alone ≡ column last rows → next ≡ is ++ i ∷ []
    → e ≡ get_or ends j 0 → e < length a
    → all_below (length a) (column j rows) ≡ true → all_below (length a) (column last rows) ≡ true
    → MakesAll a b is (map (first_of_column (plains a) rows ends last) (range_with_len 0 j))
    → Makes b c i (table.any_of (table.choices [] (parts_at b (column j rows) ++ at (plains b) e ∷ []) (parts_at b alone)))
    → MakesAll a c next (map (first_of_column (plains a) rows ends last) (range_with_len 0 (j + 1)))
first-step a b c rows ends last j i e is next alone q o p l h g x y =
    let f = first_of_column (plains a) rows ends last in
    let one = table.any_of (table.choices [] (parts_at b (column j rows) ++ at (plains b) e ∷ []) (parts_at b alone)) in
    let one_is : one ≡ f j =
    ap (λ (z : List Plain). table.any_of (table.choices [] (z ++ at (plains b) e ∷ []) (parts_at b alone))) (all-stay a b (column j rows) x.grows h)
    ∙ ap (λ (z : Plain). table.any_of (table.choices [] (parts_at a (column j rows) ++ z ∷ []) (parts_at b alone)))
    (stays a b e x.grows l ∙ ap (at (plains a)) p)
    ∙ ap (λ (z : List Plain). table.any_of (table.choices [] (parts_at a (column j rows) ++ at (plains a) (get_or ends j 0) ∷ []) z))
    (ap (parts_at b) q ∙ all-stay a b (column last rows) x.grows g) in
    let whole : map f (range_with_len 0 j) ++ one ∷ [] ≡ map f (range_with_len 0 (j + 1)) =
    ap (λ (z : Plain). map f (range_with_len 0 j) ++ z ∷ []) one_is ∙ sym (map-range_with_len_more f 0 j j (omega arith)) in
    all-next a c is next i (map f (range_with_len 0 (j + 1))) o
    (all-as a c (is ++ i ∷ []) (map f (range_with_len 0 j) ++ one ∷ []) (map f (range_with_len 0 (j + 1))) whole
    (one-more a b c is i (map f (range_with_len 0 j)) one x y))
