-- At each atom of a body's formula that may be touched, the variables that its pattern uses are quantified above it.
-- Proof: by recursion on the body, row by row of the table: what occurs in a part is quantified around it, or among the variables
-- that are quantified inside it.
use Rattle.std.proofs.Common.{◌≡◌, ℕ, suc, Bool, true, false, not, ◌||◌, cond, refl, sym, ◌∙◌, subst, ⊎_elim, Option, None, Some, List, [], ◌∷◌, ◌++◌}
use Rattle.std.specs.List.{filter, AllByRecursion}
use Rattle.smpl_terms.specs.declared.var.Var.{Var}
use Rattle.smpl_terms.specs.Vars.{same_var}
use Rattle.smpl_terms.proofs.VarLaws.{same_var-equal}
use Rattle.smpl_patch.specs.declared.pattern.Pattern.{Pattern}
use Rattle.smpl_patch.specs.declared.rule.Rule.{Rule}
use Rattle.smpl_patch.specs.Patterns.{used}
use Rattle.smpl_patch.specs.Bodies.{Element, Compound, Block, Gap, Nest, AnyOf, AllOf, Body, End, Then, Bodies, NoMore, More, body}
use Rattle.smpl_patch.specs.Bodies as bodies
use Rattle.ctl_formula.specs.Plain.{Plain, True, Atom, EarlyExit, BraceOpen, BraceClose, Inside, Outside, Not, And, Or, AX, EX, AU, EU, After, InBranch, Exists}
use Rattle.ctl_fixpoint.proofs.CtlHolds.TestLemmas.{or_cases, or_left, or_right, true_or_false, not_both}
use Rattle.pattern_vars.specs.Reads.{has}
use Rattle.pattern_vars.specs.VarPlaces.Placing.{Reading, any_option, any_element, any_body, any_bodies, occurs_element, occurs_body, is_inside, after_dots}
use Rattle.pattern_vars.specs.VarPlaces.Placing.{at_suffix, is_alone}
use Rattle.ctl_table.specs.Table.{Setting, Follow, Start, Nothing, Brace, Dots, Other, nothing, start_of, first_of, in_scope}
use Rattle.ctl_table.specs.Table.{exists_all, and_all, or_all, all_of, any_of, nots, hidden, own, ends_of_option, joined, target, stays}
use Rattle.ctl_table.specs.Table.{within, until, nested, condition, closing, with_tail, in_branches, choices, seq, elem, each, first_and, when_parts}
use Rattle.ctl_table.specs.Table.{setting}
use Rattle.ctl_translate.specs.Rules.{formula_of, reading, ranges_over_all, locals}
use Rattle.insert_laws.specs.ScopeLaws.Scopes.{Covers, is_free}

-- ---- tests

or_again : (a b c : Bool) → (a || (b || c)) ≡ true → ((a || b) || c) ≡ true
or_again true b c h = refl
or_again false b c h = h

or_more : (a b c : Bool) → (a ≡ true → b ≡ true) → (a || c) ≡ true → (b || c) ≡ true
or_more a b c f h = ⊎_elim (λ k. or_left b c (f k)) (λ k. or_right b c k) (or_cases a c h)

not_of_false : (b : Bool) → b ≡ false → not b ≡ true
not_of_false true h = absurd (cc)
not_of_false false h = refl

-- ---- lists of variables

kept_in : (q : Var → Bool) (x y : Var) (ys : List Var) (b : Bool) → b ≡ true → in_scope (cond b (y ∷ ys) ys) x ≡ in_scope (y ∷ ys) x
kept_in q x y ys true e = refl
kept_in q x y ys false e = absurd (cc)

left_in : (x y : Var) (ys : List Var) (b : Bool) → in_scope ys x ≡ true → in_scope (cond b (y ∷ ys) ys) x ≡ true
left_in x y ys true h = or_right (same_var y x) (in_scope ys x) h
left_in x y ys false h = h

-- what passes stays among those that pass
in_filter : (q : Var → Bool) (x : Var) (ys : List Var) → in_scope ys x ≡ true → q x ≡ true → in_scope (filter q ys) x ≡ true
in_filter q x [] h k = not_both false h refl
in_filter q x (y ∷ ys) h k = ⊎_elim
    (λ e. let here : q y ≡ true = subst (λ z. q z ≡ true) (sym (same_var-equal y x e)) k in
    kept_in q x y (filter q ys) (q y) here ∙ or_left (same_var y x) (in_scope (filter q ys) x) e)
    (λ r. left_in x y (filter q ys) (q y) (in_filter q x ys r k))
    (or_cases (same_var y x) (in_scope ys x) h)

module _ (used : Pattern → Var → Bool) where
  abbrev Has : (Var → Bool) → Plain → Type 0
  Has test f = Covers used test f

  abbrev HaveAll : (Var → Bool) → List Plain → Type 0
  HaveAll test fs = AllByRecursion (Has test) fs

  -- each variable that passes the one test passes the other
  abbrev Under : (Var → Bool) → (Var → Bool) → Type 0
  Under q r = (x : Var) → q x ≡ true → r x ≡ true

  has-more : (q r : Var → Bool) (f : Plain) → Under q r → Has q f → Has r f
  has-more q r True u h = tt
  has-more q r (Atom p) u h = λ x k. u x (h x k)
  has-more q r EarlyExit u h = tt
  has-more q r (BraceOpen p b) u h = λ x k. u x (h x k)
  has-more q r (BraceClose p b) u h = λ x k. u x (h x k)
  has-more q r (Inside b) u h = tt
  has-more q r (Outside b) u h = tt
  has-more q r (Not f) u h = tt
  has-more q r (And f g) u h = (has-more q r f u h.0, has-more q r g u h.1)
  has-more q r (Or f g) u h = (has-more q r f u h.0, has-more q r g u h.1)
  has-more q r (AX f) u h = has-more q r f u h
  has-more q r (EX f) u h = has-more q r f u h
  has-more q r (AU f g) u h = (has-more q r f u h.0, has-more q r g u h.1)
  has-more q r (EU f g) u h = (has-more q r f u h.0, has-more q r g u h.1)
  has-more q r (After f) u h = has-more q r f u h
  has-more q r (InBranch i f) u h = has-more q r f u h
  has-more q r (Exists y f) u h =
      has-more (λ x. q x || same_var y x) (λ x. r x || same_var y x) f (λ x k. or_more (q x) (r x) (same_var y x) (u x) k) h

  has-exists_all : (test : Var → Bool) (xs : List Var) (f : Plain) → Has (λ x. test x || in_scope xs x) f → Has test (exists_all xs f)
  has-exists_all test [] f h = has-more (λ x. test x || false) test f (λ x k. ⊎_elim (λ a. a) (λ n. not_both false n refl) (or_cases (test x) false k)) h
  has-exists_all test (y ∷ ys) f h =
      has-exists_all (λ x. test x || same_var y x) ys f
      (has-more (λ x. test x || (same_var y x || in_scope ys x)) (λ x. (test x || same_var y x) || in_scope ys x) f
      (λ x k. or_again (test x) (same_var y x) (in_scope ys x) k) h)

  all-append : (test : Var → Bool) (xs ys : List Plain) → HaveAll test xs → HaveAll test ys → HaveAll test (xs ++ ys)
  all-append test [] ys h k = k
  all-append test (x ∷ xs) ys h k = (h.0, all-append test xs ys h.1 k)

  module _ (test : Var → Bool) where
    has-and_all : (f : Plain) (gs : List Plain) → Has test f → HaveAll test gs → Has test (and_all f gs)
    has-and_all f [] h k = h
    has-and_all f (g ∷ gs) h k = has-and_all (And f g) gs (h, k.0) k.1

    has-or_all : (f : Plain) (gs : List Plain) → Has test f → HaveAll test gs → Has test (or_all f gs)
    has-or_all f [] h k = h
    has-or_all f (g ∷ gs) h k = has-or_all (Or f g) gs (h, k.0) k.1

    has-all_of : (fs : List Plain) → HaveAll test fs → Has test (all_of fs)
    has-all_of [] h = tt
    has-all_of (f ∷ fs) h = has-and_all f fs h.0 h.1

    has-any_of : (fs : List Plain) → HaveAll test fs → Has test (any_of fs)
    has-any_of [] h = tt
    has-any_of (f ∷ fs) h = has-or_all f fs h.0 h.1

    has-nots : (o : Option Plain) → HaveAll test (nots o)
    has-nots None = tt
    has-nots (Some f) = (tt, tt)

    has-until : (forall_walks strict : Bool) (d t : Plain) → Has test d → Has test t → Has test (until forall_walks strict d t)
    has-until false strict d t h k = (h, k)
    has-until true true d t h k = ((h, k), (h, k))
    has-until true false d t h k = ((h, (k, tt)), (h, k))

    has-nested : (forall_walks plus strict : Bool) (d p t : Plain) → Has test d → Has test p → Has test t
        → Has test (nested forall_walks plus strict d p t)
    has-nested forall_walks false strict d p t h k l = has-until forall_walks strict (And d (Or p (Not p))) t (h, (k, tt)) l
    has-nested forall_walks true strict d p t h k l =
        (has-until forall_walks strict (And d (Or p (Not p))) t (h, (k, tt)) l, (h, ((h, k), (h, l))))

    has-joined : (forall_walks statement : Bool) (f : Plain) (s : Start) (g : Plain) → Has test f → Has test g
        → Has test (joined forall_walks statement f s g)
    has-joined forall_walks statement f Nothing g h k = h
    has-joined forall_walks true f Dots g h k = (h, k)
    has-joined true false f Dots g h k = (h, k)
    has-joined false false f Dots g h k = (h, k)
    has-joined forall_walks statement f Brace g h k = (h, k)
    has-joined forall_walks statement f Other g h k = (h, k)

    has-target : (o : Option Var) (s : Start) (f : Plain) → Has test f → Has test (target o s f)
    has-target None s f h = h
    has-target (Some b) Brace f h = (h, tt)
    has-target (Some b) Nothing f h = (tt, h)
    has-target (Some b) Dots f h = (tt, h)
    has-target (Some b) Other f h = (tt, h)

    has-stays : (o : Option Var) (fs : List Plain) → HaveAll test fs → HaveAll test (stays o ++ fs)
    has-stays None fs h = h
    has-stays (Some b) fs h = (tt, h)

    has-condition : (any : Bool) (whens : List Plain) (before after : Option Plain) → HaveAll test whens
        → Has test (condition any whens before after)
    has-condition true whens before after h = has-all_of (whens ++ []) (all-append test whens [] h tt)
    has-condition false whens before after h =
        has-all_of (whens ++ (nots before ++ nots after))
        (all-append test whens (nots before ++ nots after) h (all-append test (nots before) (nots after) (has-nots before) (has-nots after)))

    has-in_branches : (i : ℕ) (fs : List Plain) → HaveAll test fs → HaveAll test (in_branches i fs)
    has-in_branches i [] h = tt
    has-in_branches i (f ∷ fs) h = (h.0, has-in_branches (suc i) fs h.1)

    has-choices : (earlier fs gs : List Plain) → HaveAll test earlier → HaveAll test fs → HaveAll test (choices earlier fs gs)
    has-choices earlier [] gs h k = tt
    has-choices earlier (f ∷ fs) [] h k = (has-and_all f earlier k.0 h, has-choices earlier fs [] h k.1)
    has-choices earlier (f ∷ fs) (g ∷ gs) h k =
        (has-and_all f earlier k.0 h, has-choices (earlier ++ Not g ∷ []) fs gs (all-append test earlier (Not g ∷ []) h (tt, tt)) k.1)

    has-whens : (m : Setting) (ws : Bodies) (s : List Var) → HaveAll test (when_parts m ws s)
    has-whens m NoMore s = tt
    has-whens m (More w ws) s = (tt, has-whens m ws s)

-- ---- the table

-- each variable that the part uses, `when` code aside, passes, or is one of those
abbrev Known : (Var → Bool) → List Var → (Var → Bool) → Type 0
Known test w uses = (x : Var) → uses x ≡ true → (test x || in_scope w x) ≡ true

module _ (m : Setting) where
  abbrev uses_element : Element → Var → Bool
  uses_element e x = any_element false (λ p. m.reading.used p x) e

  abbrev uses_body : Body → Var → Bool
  uses_body b x = any_body false (λ p. m.reading.used p x) b

  abbrev uses_bodies : Bodies → Var → Bool
  uses_bodies bs x = any_bodies false (λ p. m.reading.used p x) bs

  -- of a part in which it is used
  known-filter : (test : Var → Bool) (w : List Var) (uses : Var → Bool) (q : Var → Bool) → Known test w uses
      → ((x : Var) → uses x ≡ true → q x ≡ true) → Known test (filter q w) uses
  known-filter test w uses q h f x k = ⊎_elim
      (λ a. or_left (test x) (in_scope (filter q w) x) a)
      (λ a. or_right (test x) (in_scope (filter q w) x) (in_filter q x w a (f x k)))
      (or_cases (test x) (in_scope w x) (h x k))

  used-in-body : (b : Body) (x : Var) → uses_body b x ≡ true → occurs_body m.reading b x ≡ true
  used-in-body b x h = or_left (uses_body b x) (any_body true (λ p. m.reading.stands p x) b) h

  used-in-element : (e : Element) (x : Var) → uses_element e x ≡ true → occurs_element m.reading e x ≡ true
  used-in-element e x h = or_left (uses_element e x) (any_element true (λ p. m.reading.stands p x) e) h

  known-body : (test : Var → Bool) (w : List Var) (b : Body) → Known test w (uses_body b)
      → Known test (filter (occurs_body m.reading b) w) (uses_body b)
  known-body test w b h = known-filter test w (uses_body b) (occurs_body m.reading b) h (used-in-body b)

  has-own : (test : Var → Bool) (w : List Var) (p : Pattern) (f : Plain) → Known test w (m.reading.used p)
      → (((x : Var) → m.reading.used p x ≡ true → (test x || in_scope (filter (λ y. m.reading.used p y) w) x) ≡ true)
      → Covers m.reading.used (λ x. test x || in_scope (filter (λ y. m.reading.used p y) w) x) f)
      → Covers m.reading.used test (own m w p f)
  has-own test w p f h g =
      has-exists_all m.reading.used test (filter (λ y. m.reading.used p y) w) f
      (g (known-filter test w (m.reading.used p) (λ y. m.reading.used p y) h (λ x k. k)))

  has-with_tail : (test : Var → Bool) (w : List Var) (t : Option Pattern) (f : Plain)
      → Known test w (λ x. any_option (λ p. m.reading.used p x) t) → Covers m.reading.used test f
      → Covers m.reading.used test (with_tail m w t f)
  has-with_tail test w None f h k = k
  has-with_tail test w (Some p) f h k = (k, has-own test w p (Atom p) h (λ u. u))

  -- ---- a sequence: which variables are quantified at the suffix, in the element, and later

  module _ (test : Var → Bool) (e : Element) (rest : Body) (w : List Var) where
    abbrev here : List Var
    here = filter (at_suffix m.reading e rest) w

    abbrev inside : List Var
    inside = filter (λ x. not (at_suffix m.reading e rest x)) w

    abbrev now : Var → Bool
    now x = test x || in_scope here x

    placed : (x : Var) (q : Var → Bool) → (test x || in_scope w x) ≡ true → (at_suffix m.reading e rest x ≡ false → q x ≡ true)
        → (now x || in_scope (filter q inside) x) ≡ true
    placed x q h f = ⊎_elim
        (λ a. or_left (now x) (in_scope (filter q inside) x) (or_left (test x) (in_scope here x) a))
        (λ a. ⊎_elim
        (λ b. or_left (now x) (in_scope (filter q inside) x) (or_right (test x) (in_scope here x) (in_filter (at_suffix m.reading e rest) x w a b)))
        (λ b. or_right (now x) (in_scope (filter q inside) x)
        (in_filter q x inside (in_filter (λ y. not (at_suffix m.reading e rest y)) x w a (not_of_false (at_suffix m.reading e rest x) b)) (f b)))
        (true_or_false (at_suffix m.reading e rest x)))
        (or_cases (test x) (in_scope w x) h)

    -- what is not quantified at the suffix and occurs later doesn't occur in the element
    suffix_by : (x : Var) (o : Bool) → occurs_body m.reading rest x ≡ true
        → cond o (not (is_inside m.reading e x) || occurs_body m.reading rest x) (after_dots m.reading e rest x) ≡ false → not o ≡ true
    suffix_by x true h k = not_both (not (is_inside m.reading e x) || occurs_body m.reading rest x)
        (or_right (not (is_inside m.reading e x)) (occurs_body m.reading rest x) h) k
    suffix_by x false h k = refl

    known-element : Known test w (uses_body (Then e rest)) → Known now (filter (occurs_element m.reading e) inside) (uses_element e)
    known-element h x k =
        placed x (occurs_element m.reading e) (h x (or_left (uses_element e x) (uses_body rest x) k)) (λ n. used-in-element e x k)

    known-rest : Known test w (uses_body (Then e rest)) → Known now (filter (λ x. not (occurs_element m.reading e x)) inside) (uses_body rest)
    known-rest h x k =
        placed x (λ y. not (occurs_element m.reading e y)) (h x (or_right (uses_element e x) (uses_body rest x) k))
        (λ n. suffix_by x (occurs_element m.reading e x) (used-in-body rest x k) n)

mutual
  has-seq : (m : Setting) (test : Var → Bool) (before : Option Element) (b : Body) (k : Follow) (w s t : List Var)
      → Known test w (uses_body m b) → ((u : List Var) → Covers m.reading.used test (k.at u))
      → Covers m.reading.used test (seq m before b k w s t)
  has-seq m test before End k w s t h g = g t
  has-seq m test before (Then e rest) k w s t h g =
      let front : List Var = here m test e rest w in
      let later : List Var = filter (λ x. not (occurs_element m.reading e x)) (inside m test e rest w) in
      let own : List Var = filter (occurs_element m.reading e) (inside m test e rest w) in
      let next : Var → Bool = now m test e rest w in
      let follow : Follow = record { start = start_of rest k.start; at = λ u. seq m (Some e) rest k later (s ++ front) u } in
      has-exists_all m.reading.used test front (elem m before (first_of rest) e follow own (s ++ front) (t ++ front))
      (has-elem m next before (first_of rest) e follow own (s ++ front) (t ++ front) (known-element m test e rest w h)
      (λ u. has-seq m next (Some e) rest k later (s ++ front) u (known-rest m test e rest w h)
      (λ v. has-more m.reading.used test next (k.at v) (λ x a. or_left (test x) (in_scope front x) a) (g v))))

  has-elem : (m : Setting) (test : Var → Bool) (before after : Option Element) (e : Element) (k : Follow) (w s t : List Var)
      → Known test w (uses_element m e) → ((u : List Var) → Covers m.reading.used test (k.at u))
      → Covers m.reading.used test (elem m before after e k w s t)
  has-elem m test before after (bodies.Atom p) k w s t h g =
      has-joined m.reading.used test m.forall_walks (m.reading.is_statement p) (own m w p (Atom p)) k.start (k.at s)
      (has-own m test w p (Atom p) h (λ u. u)) (g s)
  has-elem m test before after (Compound p bs tail) k w s t h g =
      let head : Known test w (m.reading.used p) = λ x a. h x (or_left (m.reading.used p x || uses_bodies m bs x) (any_option (λ q. m.reading.used q x) tail)
      (or_left (m.reading.used p x) (uses_bodies m bs x) a)) in
      let inner : Known test w (uses_bodies m bs) = λ x a. h x (or_left (m.reading.used p x || uses_bodies m bs x) (any_option (λ q. m.reading.used q x) tail)
      (or_right (m.reading.used p x) (uses_bodies m bs x) a)) in
      let last : Known test w (λ x. any_option (λ q. m.reading.used q x) tail) =
      λ x a. h x (or_right (m.reading.used p x || uses_bodies m bs x) (any_option (λ q. m.reading.used q x) tail) a) in (
        has-with_tail m test w tail (and_all (own m w p (Atom p)) (in_branches 0 (each m bs nothing w s))) last
            (has-and_all m.reading.used test (own m w p (Atom p)) (in_branches 0 (each m bs nothing w s)) (has-own m test w p (Atom p) head (λ u. u))
            (has-in_branches m.reading.used test 0 (each m bs nothing w s) (has-each m test bs nothing w s inner (λ u. tt)))),
        g s,
      )
  has-elem m test before after (Block p b c) k w s t h g =
      let v : Var = hidden m p in
      let next : Var → Bool = λ x. test x || same_var v x in
      let more : (x : Var) → test x ≡ true → next x ≡ true = λ x a. or_left (test x) (same_var v x) a in
      let wider : (uses : Var → Bool) → Known test w uses → Known next w uses =
      λ uses f x a. or_more (test x) (next x) (in_scope w x) (more x) (f x a) in
      let first : Known test w (m.reading.used p) = λ x a. h x (or_left (m.reading.used p x || uses_body m b x) (m.reading.used c x)
      (or_left (m.reading.used p x) (uses_body m b x) a)) in
      let inner : Known test w (uses_body m b) = λ x a. h x (or_left (m.reading.used p x || uses_body m b x) (m.reading.used c x)
      (or_right (m.reading.used p x) (uses_body m b x) a)) in
      let close : Known test w (m.reading.used c) = λ x a. h x (or_right (m.reading.used p x || uses_body m b x) (m.reading.used c x) a) in (
        (
          has-own m next w p (BraceOpen p v) (wider (m.reading.used p) first) (λ u. u),
          has-seq (within m v) next None b (closing m w c v) (filter (occurs_body m.reading b) w) s s
              (known-body m next w b (wider (uses_body m b) inner))
              (λ u. has-own m next w c (BraceClose c v) (wider (m.reading.used c) close) (λ z. z)),
        ),
        g s,
      )
  has-elem m test before after (Gap ws any strict) k w s t h g =
      has-until m.reading.used test m.forall_walks strict
      (condition any (stays m.around ++ when_parts m ws s) (ends_of_option m true before t) (ends_of_option m false after s)) (target m.around k.start (k.at s))
      (has-condition m.reading.used test any (stays m.around ++ when_parts m ws s) (ends_of_option m true before t) (ends_of_option m false after s)
      (has-stays m.reading.used test m.around (when_parts m ws s) (has-whens m.reading.used test m ws s)))
      (has-target m.reading.used test m.around k.start (k.at s) (g s))
  has-elem m test before after (Nest plus b ws any strict) k w s t h g =
      let inner : Known test w (uses_body m b) = λ x a. h x (or_left (uses_body m b x) false a) in
      has-nested m.reading.used test m.forall_walks plus strict
      (condition any (stays m.around ++ when_parts m ws s) (ends_of_option m true before t) (ends_of_option m false after s))
      (seq m None b nothing (filter (occurs_body m.reading b) w) s s) (target m.around k.start (k.at s))
      (has-condition m.reading.used test any (stays m.around ++ when_parts m ws s) (ends_of_option m true before t) (ends_of_option m false after s)
      (has-stays m.reading.used test m.around (when_parts m ws s) (has-whens m.reading.used test m ws s)))
      (has-seq m test None b nothing (filter (occurs_body m.reading b) w) s s (known-body m test w b inner) (λ u. tt))
      (has-target m.reading.used test m.around k.start (k.at s) (g s))
  has-elem m test before after (AnyOf bs) k w s t h g =
      has-any_of m.reading.used test (choices [] (each m bs k w s) (each m bs nothing w s))
      (has-choices m.reading.used test [] (each m bs k w s) (each m bs nothing w s) tt (has-each m test bs k w s h g))
  has-elem m test before after (AllOf bs) k w s t h g = has-first_and m test bs k w s h g

  has-each : (m : Setting) (test : Var → Bool) (bs : Bodies) (k : Follow) (w s : List Var) → Known test w (uses_bodies m bs)
      → ((u : List Var) → Covers m.reading.used test (k.at u)) → HaveAll m.reading.used test (each m bs k w s)
  has-each m test NoMore k w s h g = tt
  has-each m test (More b bs) k w s h g = (
    has-seq m test None b k (filter (occurs_body m.reading b) w) s s
        (known-body m test w b (λ x a. h x (or_left (uses_body m b x) (uses_bodies m bs x) a))) g,
    has-each m test bs k w s (λ x a. h x (or_right (uses_body m b x) (uses_bodies m bs x) a)) g,
  )

  has-first_and : (m : Setting) (test : Var → Bool) (bs : Bodies) (k : Follow) (w s : List Var) → Known test w (uses_bodies m bs)
      → ((u : List Var) → Covers m.reading.used test (k.at u)) → Covers m.reading.used test (first_and m bs k w s)
  has-first_and m test NoMore k w s h g = g s
  has-first_and m test (More b bs) k w s h g =
      has-and_all m.reading.used test (seq m None b k (filter (occurs_body m.reading b) w) s s) (each m bs nothing w s)
      (has-seq m test None b k (filter (occurs_body m.reading b) w) s s
      (known-body m test w b (λ x a. h x (or_left (uses_body m b x) (uses_bodies m bs x) a))) g)
      (has-each m test bs nothing w s (λ x a. h x (or_right (uses_body m b x) (uses_bodies m bs x) a)) (λ u. tt))

-- ---- rules

pub formula_covers : (rule : Rule) → Covers (used rule.vars rule.tokens) (is_free rule) (formula_of rule)
formula_covers rule =
    let r : Reading = reading rule in
    let b : Body = body rule.body in
    let m : Setting = setting r (ranges_over_all rule.mode) (locals rule) b in
    let known : Known (is_free rule) (filter (λ x. not (is_alone r b x)) (locals rule)) (uses_body m b) =
    λ x k. ⊎_elim
    (λ i. or_right (is_free rule x) (in_scope (filter (λ y. not (is_alone r b y)) (locals rule)) x)
    (in_filter (λ y. not (is_alone r b y)) x (locals rule) i (not_not (uses_body m b x) k)))
    (λ i. or_left (is_free rule x) (in_scope (filter (λ y. not (is_alone r b y)) (locals rule)) x) (not_of_false (has (locals rule) x) i))
    (true_or_false (has (locals rule) x)) in
    has-seq m (is_free rule) None b nothing (filter (λ x. not (is_alone r b x)) (locals rule)) [] [] known (λ u. tt)
  where
    not_not : (c : Bool) → c ≡ true → not (not c) ≡ true
    not_not true h = refl
    not_not false h = h
