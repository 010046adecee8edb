-- Where the variables of a sequence are quantified: by where each of them is, and element by element.
use Rattle.std.proofs.Common.{◌≡◌, ℕ, suc, ◌+◌, ◌<◌, Bool, true, false, true≢false, not, ◌&&◌, ◌||◌, cond, nat_eq, refl, sym, ap, ◌∙◌, arith}
use Rattle.std.proofs.Common.{List, [], ◌∷◌, ◌++◌, length, get_or, take, drop, ◌-◌, subst, length-drop, Option, None, Some}
use Rattle.std.specs.List.{filter}
use Rattle.std.proofs.Math.Seq.{take-length}
use Rattle.std.proofs.lemmas.Bool.Decides.{nat_tests}
use Rattle.smpl_terms.specs.declared.var.Var.{Var}
use Rattle.smpl_patch.specs.declared.pattern.Pattern.{Pattern}
use Rattle.smpl_patch.specs.Bodies.{Element, Atom, Compound, Block, Gap, Nest, AnyOf, AllOf, Body, End, Then, Bodies, NoMore, More, element, body}
use Rattle.smpl_patch.specs.declared.elem.Elem.{Elem}
use Rattle.pattern_vars.specs.Reads.{has}
use Rattle.pattern_vars.specs.declared.set.Key.{Key}
use Rattle.pattern_vars.specs.Keys.{value_of}
use Rattle.pattern_vars.specs.VarPlaces.Placing.{Reading, is_dots, is_choice, any_option, any_element, any_body, any_bodies}
use Rattle.pattern_vars.specs.VarPlaces.Placing.{occurs_element, occurs_body, is_inside, after_dots, at_suffix}
use Rattle.pattern_vars.specs.declared.var_places.homes.Home.{Home}
use Rattle.pattern_vars.specs.declared.var_places.place.Place.{Place}
use Rattle.pattern_vars.specs.declared.var_places.place.Shares.{Shares}
use Rattle.pattern_vars.specs.VarPlaces.Places.{places, later_at}
use Rattle.pattern_vars.proofs.VarPlaces.KeptLemmas.{drop-here, filter-same, filter-filter}
use Rattle.pattern_vars.specs.VarPlaces.Homes.{home_in, AreHomes, passes, is_here, is_within, shares_from, scoped}

-- tests

pub and-false : (a b : Bool) → b ≡ false → (a && b) ≡ false
and-false true b h = h
and-false false b h = refl

pub and-true : (a b : Bool) → b ≡ true → (a && b) ≡ a
and-true true b h = h
and-true false b h = refl

pub and-left : (a b : Bool) → (a && b) ≡ true → a ≡ true
and-left true b h = refl
and-left false b h = h

pub and-right : (a b : Bool) → (a && b) ≡ true → b ≡ true
and-right true b h = h
and-right false b h = absurd (true≢false (sym h))

or-left : (a b : Bool) → a ≡ true → (a || b) ≡ true
or-left true b h = refl
or-left false b h = absurd (true≢false (sym h))

pub or-right : (a b : Bool) → b ≡ true → (a || b) ≡ true
or-right true b h = refl
or-right false b h = h

or-both : (a b c d : Bool) → (a ≡ true → c ≡ true) → (b ≡ true → d ≡ true) → (a || b) ≡ true → (c || d) ≡ true
or-both true b c d f g h = or-left c d (f refl)
or-both false b c d f g h = or-right c d (g h)

regroup : (a b c d : Bool) → ((a || b) || (c || d)) ≡ ((a || c) || (b || d))
regroup true b c d = refl
regroup false true true d = refl
regroup false true false d = refl
regroup false false true d = refl
regroup false false false d = refl

pub same-number : (n : ℕ) → nat_eq n n ≡ true
same-number n = grind (arith, nat_tests)

pub apart : (m n : ℕ) → n < m → nat_eq m n ≡ false
apart m n l = grind (arith, nat_tests)

pub before : (m n : ℕ) → m < n → nat_eq m n ≡ false
before m n l = grind (arith, nat_tests)

-- what appears outside `when` code appears in the part
module _ (test : Pattern → Bool) where
  mutual
    pub stands-element : (e : Element) → any_element false test e ≡ true → any_element true test e ≡ true
    stands-element (Atom p) h = h
    stands-element (Compound p bs t) h =
        or-both (test p || any_bodies false test bs) (any_option test t) (test p || any_bodies true test bs) (any_option test t)
        (or-both (test p) (any_bodies false test bs) (test p) (any_bodies true test bs) (λ k. k) (stands-bodies bs)) (λ k. k) h
    stands-element (Block o b c) h =
        or-both (test o || any_body false test b) (test c) (test o || any_body true test b) (test c)
        (or-both (test o) (any_body false test b) (test o) (any_body true test b) (λ k. k) (stands-body b)) (λ k. k) h
    stands-element (Gap ws any strict) h = absurd (true≢false (sym h))
    stands-element (Nest plus b ws any strict) h =
        or-both (any_body false test b) false (any_body true test b) (any_bodies true test ws) (stands-body b) (λ k. absurd (true≢false (sym k))) h
    stands-element (AnyOf bs) h = stands-bodies bs h
    stands-element (AllOf bs) h = stands-bodies bs h

    stands-body : (b : Body) → any_body false test b ≡ true → any_body true test b ≡ true
    stands-body End h = h
    stands-body (Then e rest) h =
        or-both (any_element false test e) (any_body false test rest) (any_element true test e) (any_body true test rest)
        (stands-element e) (stands-body rest) h

    stands-bodies : (bs : Bodies) → any_bodies false test bs ≡ true → any_bodies true test bs ≡ true
    stands-bodies NoMore h = h
    stands-bodies (More b bs) h =
        or-both (any_body false test b) (any_bodies false test bs) (any_body true test b) (any_bodies true test bs) (stands-body b) (stands-bodies bs) h

-- lists that pass tests

pub shares-same : (h i h' i' : List Var) (t t' : List Shares) → h ≡ h' → i ≡ i' → t ≡ t'
    → (let s : Shares = record { here = h; inside = i } in s ∷ t) ≡ (let s : Shares = record { here = h'; inside = i' } in s ∷ t')
shares-same h i h' i' t t' a b c = cc

places-same : (h i h' i' s : List Var) (t t' : List Place) → h ≡ h' → i ≡ i' → t ≡ t'
    → (let p : Place = record { here = h; inside = i; scope = s ++ h } in p ∷ t)
    ≡ (let p : Place = record { here = h'; inside = i'; scope = s ++ h' } in p ∷ t')
places-same h i h' i' s t t' a b c = cc

-- where one variable is quantified

abbrev is_at : Option Home → ℕ → Bool
is_at None n = false
is_at (Some h) n = nat_eq h.place n

not-here : (h : Option Home) (n : ℕ) → is_at h n ≡ false → is_here h n ≡ false
not-here None n q = refl
not-here (Some h) n q = and-false h.here (nat_eq h.place n) q

not-within : (h : Option Home) (n : ℕ) → is_at h n ≡ false → is_within h n ≡ false
not-within None n q = refl
not-within (Some h) n q = and-false (not h.here) (nat_eq h.place n) q

module _ (r : Reading) where
  abbrev own : ℕ → Element → Body → Var → Home
  own n e rest x = record { place = n; here = not (is_inside r e x) || occurs_body r rest x; again = occurs_body r rest x }

  abbrev made : ℕ → Bool → Bool → Home
  made n a b = record { place = n; here = a || b; again = b }

  abbrev dotted : ℕ → Home
  dotted n = record { place = n; here = true; again = true }

  later-home : (n m : ℕ) (b : Body) (x : Var) → n < m → is_at (home_in r m b x) n ≡ false
  later-home n m End x l = refl
  later-home n m (Then e rest) x l = by (occurs_element r e x) (after_dots r e rest x) (later-home n (suc m) rest x (omega arith))
    where
      by : (o d : Bool) → is_at (home_in r (suc m) rest x) n ≡ false
          → is_at (cond o (Some (own m e rest x)) (cond d (Some (dotted m)) (home_in r (suc m) rest x))) n ≡ false
      by true d h = apart m n l
      by false true h = apart m n l
      by false false h = h

  here-is : (n : ℕ) (e : Element) (rest : Body) (x : Var) → is_here (home_in r n (Then e rest) x) n ≡ at_suffix r e rest x
  here-is n e rest x = by (occurs_element r e x) (after_dots r e rest x)
    where
      by : (o d : Bool) → is_here (cond o (Some (own n e rest x)) (cond d (Some (dotted n)) (home_in r (suc n) rest x))) n
          ≡ cond o (not (is_inside r e x) || occurs_body r rest x) d
      by true d = and-true (not (is_inside r e x) || occurs_body r rest x) (nat_eq n n) (same-number n)
      by false true = same-number n
      by false false = not-here (home_in r (suc n) rest x) n (later-home n (suc n) rest x (omega arith))

  within-is : (n : ℕ) (e : Element) (rest : Body) (x : Var) → is_within (home_in r n (Then e rest) x) n ≡ (not (at_suffix r e rest x) && occurs_element r e x)
  within-is n e rest x = by (occurs_element r e x) (after_dots r e rest x)
    where
      by : (o d : Bool) → is_within (cond o (Some (own n e rest x)) (cond d (Some (dotted n)) (home_in r (suc n) rest x))) n
          ≡ (not (cond o (not (is_inside r e x) || occurs_body r rest x) d) && o)
      by true d = ap (λ (b : Bool). not (not (is_inside r e x) || occurs_body r rest x) && b) (same-number n)
      by false true = refl
      by false false = not-within (home_in r (suc n) rest x) n (later-home n (suc n) rest x (omega arith))

  here-later : (n m : ℕ) (e : Element) (rest : Body) (x : Var) → n < m
      → is_here (home_in r n (Then e rest) x) m ≡ (not (at_suffix r e rest x) && (not (occurs_element r e x) && is_here (home_in r (suc n) rest x) m))
  here-later n m e rest x l = by (occurs_element r e x) (after_dots r e rest x)
    where
      by : (o d : Bool) → is_here (cond o (Some (own n e rest x)) (cond d (Some (dotted n)) (home_in r (suc n) rest x))) m
          ≡ (not (cond o (not (is_inside r e x) || occurs_body r rest x) d) && (not o && is_here (home_in r (suc n) rest x) m))
      by true d =
          and-false (not (is_inside r e x) || occurs_body r rest x) (nat_eq n m) (before n m l)
          ∙ sym (and-false (not (not (is_inside r e x) || occurs_body r rest x)) false refl)
      by false true = before n m l
      by false false = refl

  within-later : (n m : ℕ) (e : Element) (rest : Body) (x : Var) → n < m
      → is_within (home_in r n (Then e rest) x) m ≡ (not (at_suffix r e rest x) && (not (occurs_element r e x) && is_within (home_in r (suc n) rest x) m))
  within-later n m e rest x l = by (occurs_element r e x) (after_dots r e rest x)
    where
      by : (o d : Bool) → is_within (cond o (Some (own n e rest x)) (cond d (Some (dotted n)) (home_in r (suc n) rest x))) m
          ≡ (not (cond o (not (is_inside r e x) || occurs_body r rest x) d) && (not o && is_within (home_in r (suc n) rest x) m))
      by true d =
          and-false (not (not (is_inside r e x) || occurs_body r rest x)) (nat_eq n m) (before n m l)
          ∙ sym (and-false (not (not (is_inside r e x) || occurs_body r rest x)) false refl)
      by false true = refl
      by false false = refl

  -- those of the variables quantified later that pass a test
  passing-later : (e : Element) (rest : Body) (p q : Var → Bool) (w : List Var)
      → ((x : Var) → p x ≡ (not (at_suffix r e rest x) && (not (occurs_element r e x) && q x))) → filter p w ≡ filter q (later_at r e rest w)
  passing-later e rest p q w h =
      let outside : Var → Bool = λ x. not (at_suffix r e rest x) in
      let apart_from : Var → Bool = λ x. not (occurs_element r e x) in
      filter-same p (λ x. outside x && (apart_from x && q x)) w h
      ∙ sym (filter-filter apart_from q (filter outside w) ∙ filter-filter outside (λ x. apart_from x && q x) w)

  shares-later : (n m : ℕ) (e : Element) (rest b : Body) (w : List Var) → n < m
      → shares_from (home_in r n (Then e rest)) m b w ≡ shares_from (home_in r (suc n) rest) m b (later_at r e rest w)
  shares-later n m e rest End w l = refl
  shares-later n m e rest (Then d more) w l =
      shares-same _ _ _ _ _ _
      (passing-later e rest (λ x. is_here (home_in r n (Then e rest) x) m) (λ x. is_here (home_in r (suc n) rest x) m) w (λ x. here-later n m e rest x l))
      (passing-later e rest (λ x. is_within (home_in r n (Then e rest) x) m) (λ x. is_within (home_in r (suc n) rest x) m) w (λ x. within-later n m e rest x l))
      (shares-later n (suc m) e rest more w (omega arith))

  -- the places are those of the definition
  pub places-are : (n : ℕ) (b : Body) (w s : List Var) → scoped (shares_from (home_in r n b) n b w) s ≡ places r b w s
  places-are n End w s = refl
  places-are n (Then e rest) w s =
      let home = home_in r n (Then e rest) in
      let here : filter (λ x. is_here (home x) n) w ≡ filter (at_suffix r e rest) w =
      filter-same (λ x. is_here (home x) n) (at_suffix r e rest) w (λ x. here-is n e rest x) in
      let inside : filter (λ x. is_within (home x) n) w ≡ filter (occurs_element r e) (filter (λ x. not (at_suffix r e rest x)) w) =
      filter-same (λ x. is_within (home x) n) (λ x. not (at_suffix r e rest x) && occurs_element r e x) w (λ x. within-is n e rest x)
      ∙ sym (filter-filter (λ x. not (at_suffix r e rest x)) (occurs_element r e) w) in
      places-same (filter (λ x. is_here (home x) n) w) (filter (λ x. is_within (home x) n) w) (filter (at_suffix r e rest) w)
      (filter (occurs_element r e) (filter (λ x. not (at_suffix r e rest x)) w)) s
      (scoped (shares_from home (suc n) rest w) (s ++ filter (λ x. is_here (home x) n) w))
      (places r rest (later_at r e rest w) (s ++ filter (at_suffix r e rest) w))
      here inside
      (ap (λ (z : List Shares). scoped z (s ++ filter (λ x. is_here (home x) n) w)) (shares-later n (suc n) e rest rest w (omega arith))
      ∙ ap (λ (z : List Var). scoped (shares_from (home_in r (suc n) rest) (suc n) rest (later_at r e rest w)) (s ++ z)) here
      ∙ places-are (suc n) rest (later_at r e rest w) (s ++ filter (at_suffix r e rest) w))

  -- what occurs in a sequence is quantified somewhere

  occurs-then : (e : Element) (rest : Body) (x : Var) → occurs_body r (Then e rest) x ≡ (occurs_element r e x || occurs_body r rest x)
  occurs-then e rest x =
      regroup (any_element false (λ p. r.used p x) e) (any_body false (λ p. r.used p x) rest)
      (any_element true (λ p. r.stands p x) e) (any_body true (λ p. r.stands p x) rest)

  dots-occur : (e : Element) (rest : Body) (x : Var) → after_dots r e rest x ≡ true → occurs_body r rest x ≡ true
  dots-occur e End x h = absurd (true≢false (sym h))
  dots-occur e (Then n more) x h =
      occurs-then n more x ∙ or-right (occurs_element r n x) (occurs_body r more x)
      (and-right (is_dots e && not (is_choice n) && any_element false (λ p. r.stands p x) n) (occurs_body r more x) h)

  known-is : (m : ℕ) (b : Body) (x : Var) → passes false (home_in r m b x) ≡ occurs_body r b x
  known-is m End x = refl
  known-is m (Then e rest) x = by (occurs_element r e x) (after_dots r e rest x) refl (known-is (suc m) rest x) ∙ sym (occurs-then e rest x)
    where
      by : (o d : Bool) → after_dots r e rest x ≡ d → passes false (home_in r (suc m) rest x) ≡ occurs_body r rest x
          → passes false (cond o (Some (own m e rest x)) (cond d (Some (dotted m)) (home_in r (suc m) rest x))) ≡ (o || occurs_body r rest x)
      by true d h k = refl
      by false true h k = sym (dots-occur e rest x h)
      by false false h k = k

  -- the variables that occur in the element are quantified at it or inside it
  pub spread-step : (n : ℕ) (e : Element) (vars spread later : List Var) (old new : Option Home) (y : Var)
      → has vars y ≡ occurs_element r e y
      → (occurs_element r e y ≡ true → has spread y ≡ not (is_inside r e y))
      → new ≡ cond (has vars y) (Some (record { place = n; here = has spread y || has later y; again = has later y })) old
      → new ≡ cond (occurs_element r e y) (Some (record { place = n; here = not (is_inside r e y) || has later y; again = has later y })) old
  spread-step n e vars spread later old new y v s w =
      w ∙ ap (λ (z : Bool). cond z (Some (made n (has spread y) (has later y))) old) v ∙ by (occurs_element r e y) refl
    where
      by : (c : Bool) → occurs_element r e y ≡ c
          → cond c (Some (made n (has spread y) (has later y))) old ≡ cond c (Some (made n (not (is_inside r e y)) (has later y))) old
      by true q = ap (λ (z : Bool). Some (made n z (has later y))) (s q)
      by false q = refl

  -- one more element before a sequence
  pub homes-step : (n : ℕ) (e : Element) (rest : Body) (old mid new : List (Key × Home)) (vars later : List Var)
      → AreHomes old r (suc n) rest
      → ((y : Var) → has vars y ≡ occurs_element r e y)
      → ((y : Var) → has later y ≡ (has vars y && passes false (value_of old y)))
      → ((y : Var) → value_of mid y ≡ cond (after_dots r e rest y) (Some (dotted n)) (value_of old y))
      → ((y : Var) → value_of new y
      ≡ cond (occurs_element r e y) (Some (record { place = n; here = not (is_inside r e y) || has later y; again = has later y })) (value_of mid y))
      → AreHomes new r n (Then e rest)
  homes-step n e rest old mid new vars later o v l m w x = w x ∙ by (occurs_element r e x) refl
    where
      by : (c : Bool) → occurs_element r e x ≡ c
          → cond c (Some (made n (not (is_inside r e x)) (has later x))) (value_of mid x)
          ≡ cond c (Some (own n e rest x)) (cond (after_dots r e rest x) (Some (dotted n)) (home_in r (suc n) rest x))
      by true q =
          let again : has later x ≡ occurs_body r rest x =
          l x ∙ ap (λ (z : Bool). z && passes false (value_of old x)) (v x ∙ q) ∙ ap (passes false) (o x) ∙ known-is (suc n) rest x in
          ap (λ (z : Bool). Some (made n (not (is_inside r e x)) z)) again
      by false q = m x ∙ ap (λ (z : Option Home). cond (after_dots r e rest x) (Some (dotted n)) z) (o x)

  -- what counts at dots
  pub dots-are : (n : ℕ) (e d : Element) (more : Body) (entries : List (Key × Home)) (near found : List Var) (y : Var)
      → (is_dots e && not (is_choice d)) ≡ true
      → AreHomes entries r n (Then d more)
      → has near y ≡ any_element false (λ p. r.stands p y) d
      → has found y ≡ (has near y && passes true (value_of entries y))
      → has found y ≡ after_dots r e (Then d more) y
  dots-are n e d more entries near found y c a h f =
      f ∙ ap (λ (z : Bool). z && passes true (value_of entries y)) h
      ∙ ap (λ (z : Option Home). any_element false (λ p. r.stands p y) d && passes true z) (a y)
      ∙ by (any_element false (λ p. r.stands p y) d) refl
      ∙ ap (λ (z : Bool). z && any_element false (λ p. r.stands p y) d && occurs_body r more y) (sym c)
    where
      by : (b : Bool) → any_element false (λ p. r.stands p y) d ≡ b → (b && passes true (home_in r n (Then d more) y)) ≡ ((true && b) && occurs_body r more y)
      by false q = refl
      by true q =
          let occurs : occurs_element r d y ≡ true =
          or-right (any_element false (λ p. r.used p y) d) (any_element true (λ p. r.stands p y) d) (stands-element (λ p. r.stands p y) d q) in
          ap (λ (z : Bool). passes true (cond z (Some (own n d more y)) (cond (after_dots r d more y) (Some (dotted n)) (home_in r (suc n) more y)))) occurs

  pub no-dots : (e d : Element) (more : Body) (y : Var) → (is_dots e && not (is_choice d)) ≡ false → false ≡ after_dots r e (Then d more) y
  no-dots e d more y h = ap (λ (z : Bool). z && any_element false (λ p. r.stands p y) d && occurs_body r more y) (sym h)

  pub dots-end : (e : Element) (rest : List Elem) (vs : List Var) (y : Var) → length rest ≡ 0 → vs ≡ [] → has vs y ≡ after_dots r e (body rest) y
  dots-end e [] vs y l h = ap (λ (z : List Var). has z y) h
  dots-end e (d ∷ ds) vs y l h = absurd (omega (arith, l))

-- the first of some elements
pub first-of : (rest : List Elem) (d : Elem) → 0 < length rest → d ≡ get_or rest 0 d → d ∷ drop 1 rest ≡ rest
first-of [] d l q = absurd (omega (arith, l))
first-of (e ∷ es) d l q = ap (λ (z : Elem). z ∷ es) q

rest-is : {A : Type 0} (xs : List A) (n : ℕ) → take (length xs - n) (drop n xs) ≡ drop n xs
rest-is xs n = ap (λ (k : ℕ). take k (drop n xs)) (sym (length-drop n xs)) ∙ take-length (drop n xs)

-- the homes of the elements after one
pub homes-behind : (r : Reading) (es : List Elem) (i : ℕ) (entries : List (Key × Home)) → 0 < i
    → AreHomes entries r i (body (drop i es))
    → AreHomes entries r (suc (i - 1)) (body (take (length es - (i - 1 + 1)) (drop (i - 1 + 1) es)))
homes-behind r es i entries l h =
    let more : i ≡ suc (i - 1) = omega arith in
    let after : i ≡ i - 1 + 1 = omega arith in
    subst (λ (ds : List Elem). AreHomes entries r (suc (i - 1)) (body ds)) (sym (rest-is es (i - 1 + 1)))
    (subst (λ (n : ℕ). AreHomes entries r (suc (i - 1)) (body (drop n es))) after (subst (λ (n : ℕ). AreHomes entries r n (body (drop i es))) more h))

-- the homes of the elements from one on
pub homes-from : (r : Reading) (es : List Elem) (k : ℕ) (d : Elem) (entries : List (Key × Home)) → k < length es → d ≡ get_or es k d
    → AreHomes entries r k (Then (element d) (body (take (length es - (k + 1)) (drop (k + 1) es))))
    → AreHomes entries r k (body (drop k es))
homes-from r es k d entries l q h =
    subst (λ (ds : List Elem). AreHomes entries r k (body ds)) (ap (λ (ds : List Elem). d ∷ ds) (rest-is es (k + 1)) ∙ sym (drop-here es k d l q)) h
