-- The patterns of a body's formula are patterns of the body.
-- Proof: by recursion on the body, row by row of the table. The induction covers what follows an element and what is next
-- to dots.
use Rattle.std.proofs.Common.{ℕ, suc, Bool, true, false, not, ◌&&◌, cond, Option, None, Some, List, [], ◌∷◌, ◌++◌}
use Rattle.std.specs.List.{filter, AllByRecursion}
use Rattle.smpl_terms.specs.declared.var.Var.{Var}
use Rattle.smpl_patch.specs.declared.pattern.Pattern.{Pattern}
use Rattle.smpl_patch.specs.Bodies.{Element, Compound, Block, Gap, Nest, AnyOf, AllOf, Body, End, Then, Bodies, NoMore, More}
use Rattle.smpl_patch.specs.Bodies as bodies
use Rattle.smpl_patch.specs.Shapes.{option_patterns, patterns_element, patterns_body, patterns_bodies}
use Rattle.ctl_formula.specs.Plain.{Plain, Atom, BraceOpen, BraceClose, Not, And, Or}
use Rattle.ctl_fixpoint.specs.CtlHolds.Parts.{EachPattern}
use Rattle.pattern_vars.specs.VarPlaces.Placing.{Reading, occurs_element, occurs_body, at_suffix, is_alone}
use Rattle.ctl_table.specs.Table.{Setting, Follow, Start, Nothing, Brace, Dots, Other, nothing, start_of, first_of, in_scope}
use Rattle.ctl_table.specs.Table.{exists_all}
use Rattle.ctl_table.specs.Table.{and_all, or_all, all_of, any_of, or_some, option_list, nots, hidden, own, copy, ends_of}
use Rattle.ctl_table.specs.Table.{ends_of_body, ends_of_each, ends_of_first, ends_of_option, is_end, joined, target, stays, within, until, nested}
use Rattle.ctl_table.specs.Table.{condition, lone, closing, with_tail, in_branches, choices, seq, elem, each, first_and, when_parts}
use Rattle.ctl_table.specs.Table.{setting, formula}

all-append : {A : Type 0} (Q : A → Type 0) (xs ys : List A) → AllByRecursion Q xs → AllByRecursion Q ys → AllByRecursion Q (xs ++ ys)
all-append Q [] ys h k = k
all-append Q (x ∷ xs) ys h k = (h.0, all-append Q xs ys h.1 k)

all-front : {A : Type 0} (Q : A → Type 0) (xs ys : List A) → AllByRecursion Q (xs ++ ys) → AllByRecursion Q xs
all-front Q [] ys h = tt
all-front Q (x ∷ xs) ys h = (h.0, all-front Q xs ys h.1)

all-back : {A : Type 0} (Q : A → Type 0) (xs ys : List A) → AllByRecursion Q (xs ++ ys) → AllByRecursion Q ys
all-back Q [] ys h = h
all-back Q (x ∷ xs) ys h = all-back Q xs ys h.1

module _ (P : Pattern → Type 0) where
  -- each of the patterns is so
  abbrev pub Each : List Pattern → Type 0
  Each ps = AllByRecursion P ps

  -- each pattern of the formula is so, and of each of the formulas
  abbrev pub Has : Plain → Type 0
  Has f = EachPattern P f

  abbrev pub HaveAll : List Plain → Type 0
  HaveAll fs = AllByRecursion Has fs

  -- each pattern of the element, if there is one
  abbrev pub EachOf : Option Element → Type 0
  EachOf None = Unit {0}
  EachOf (Some e) = Each (patterns_element e)

  has-exists_all : (xs : List Var) (f : Plain) → Has f → Has (exists_all xs f)
  has-exists_all [] f h = h
  has-exists_all (x ∷ xs) f h = has-exists_all xs f h

  has-and_all : (f : Plain) (gs : List Plain) → Has f → HaveAll gs → Has (and_all f gs)
  has-and_all f [] h k = h
  has-and_all f (g ∷ gs) h k = has-and_all (And f g) gs (h, k.0) k.1

  has-or_all : (f : Plain) (gs : List Plain) → Has f → HaveAll gs → Has (or_all f gs)
  has-or_all f [] h k = h
  has-or_all f (g ∷ gs) h k = has-or_all (Or f g) gs (h, k.0) k.1

  has-all_of : (fs : List Plain) → HaveAll fs → Has (all_of fs)
  has-all_of [] h = tt
  has-all_of (f ∷ fs) h = has-and_all f fs h.0 h.1

  has-any_of : (fs : List Plain) → HaveAll fs → Has (any_of fs)
  has-any_of [] h = tt
  has-any_of (f ∷ fs) h = has-or_all f fs h.0 h.1

  has-or_some : (fs : List Plain) → HaveAll fs → HaveAll (option_list (or_some fs))
  has-or_some [] h = tt
  has-or_some (f ∷ fs) h = (has-or_all f fs h.0 h.1, tt)

  has-nots : (o : Option Plain) → HaveAll (option_list o) → HaveAll (nots o)
  has-nots None h = tt
  has-nots (Some f) h = h

  has-choice : (b : Bool) (o p : Option Plain) → HaveAll (option_list o) → HaveAll (option_list p) → HaveAll (option_list (cond b o p))
  has-choice true o p h k = h
  has-choice false o p h k = k

  has-until : (forall_walks strict : Bool) (d t : Plain) → Has d → Has t → Has (until forall_walks strict d t)
  has-until false strict d t h k = (h, k)
  has-until true true d t h k = ((h, k), (h, k))
  has-until true false d t h k = ((h, (k, tt)), (h, k))

  has-nested : (forall_walks plus strict : Bool) (d p t : Plain) → Has d → Has p → Has t → Has (nested forall_walks plus strict d p t)
  has-nested forall_walks false strict d p t h k l = has-until forall_walks strict (And d (Or p (Not p))) t (h, (k, k)) l
  has-nested forall_walks true strict d p t h k l =
      (has-until forall_walks strict (And d (Or p (Not p))) t (h, (k, k)) l, (h, ((h, k), (h, l))))

  has-joined : (forall_walks statement : Bool) (f : Plain) (s : Start) (g : Plain) → Has f → Has g → Has (joined forall_walks statement f s g)
  has-joined forall_walks statement f Nothing g h k = h
  has-joined forall_walks true f Dots g h k = (h, k)
  has-joined true false f Dots g h k = (h, k)
  has-joined false false f Dots g h k = (h, k)
  has-joined forall_walks statement f Brace g h k = (h, k)
  has-joined forall_walks statement f Other g h k = (h, k)

  has-target : (o : Option Var) (s : Start) (f : Plain) → Has f → Has (target o s f)
  has-target None s f h = h
  has-target (Some b) Brace f h = (h, tt)
  has-target (Some b) Nothing f h = (tt, h)
  has-target (Some b) Dots f h = (tt, h)
  has-target (Some b) Other f h = (tt, h)

  has-firsts : (o : Option Var) (fs : List Plain) → HaveAll fs → HaveAll (stays o ++ fs)
  has-firsts None fs h = h
  has-firsts (Some b) fs h = (tt, h)

  has-condition : (any : Bool) (whens : List Plain) (before after : Option Plain) → HaveAll whens → HaveAll (option_list before)
      → HaveAll (option_list after) → Has (condition any whens before after)
  has-condition true whens before after h k l = has-all_of (whens ++ []) (all-append Has whens [] h tt)
  has-condition false whens before after h k l =
      has-all_of (whens ++ (nots before ++ nots after))
      (all-append Has whens (nots before ++ nots after) h (all-append Has (nots before) (nots after) (has-nots before k) (has-nots after l)))

  has-in_branches : (i : ℕ) (fs : List Plain) → HaveAll fs → HaveAll (in_branches i fs)
  has-in_branches i [] h = tt
  has-in_branches i (f ∷ fs) h = (h.0, has-in_branches (suc i) fs h.1)

  has-choices : (earlier fs gs : List Plain) → HaveAll earlier → HaveAll fs → HaveAll gs → HaveAll (choices earlier fs gs)
  has-choices earlier [] gs h k l = tt
  has-choices earlier (f ∷ fs) [] h k l = (has-and_all f earlier k.0 h, has-choices earlier fs [] h k.1 tt)
  has-choices earlier (f ∷ fs) (g ∷ gs) h k l =
      (has-and_all f earlier k.0 h, has-choices (earlier ++ Not g ∷ []) fs gs (all-append Has earlier (Not g ∷ []) h (l.0, tt)) k.1 l.1)

  each-first : (b : Body) → Each (patterns_body b) → EachOf (first_of b)
  each-first End h = tt
  each-first (Then e rest) h = all-front P (patterns_element e) (patterns_body rest) h

  module _ (m : Setting) where
    has-own : (w : List Var) (p : Pattern) (f : Plain) → Has f → Has (own m w p f)
    has-own w p f h = has-exists_all (filter (λ x. m.reading.used p x) w) f h

    has-copy : (p : Pattern) (s : List Var) → P p → Has (copy m p s)
    has-copy p s h = has-exists_all (filter (λ x. m.reading.stands p x && not (in_scope s x)) m.locals) (Atom p) h

    mutual
      has-ends_of : (last : Bool) (e : Element) (s : List Var) → Each (patterns_element e) → HaveAll (option_list (ends_of m last e s))
      has-ends_of last (bodies.Atom p) s h =
          has-choice (m.reading.is_statement p) None (Some (copy m p s)) tt (has-copy p s h.0, tt)
      has-ends_of last (Compound q bs t) s h = (has-copy q s h.0, tt)
      has-ends_of last (Block o b c) s h = tt
      has-ends_of last (Gap ws any strict) s h = tt
      has-ends_of last (Nest plus b ws any strict) s h = tt
      has-ends_of last (AnyOf bs) s h = has-or_some (ends_of_each m last bs s) (has-ends_of_each last bs s h)
      has-ends_of last (AllOf bs) s h = has-ends_of_first last bs s h

      has-ends_of_body : (last : Bool) (b : Body) (s : List Var) → Each (patterns_body b) → HaveAll (option_list (ends_of_body m last b s))
      has-ends_of_body last End s h = tt
      has-ends_of_body last (Then e rest) s h =
          has-choice (last && not (is_end rest)) (ends_of_body m last rest s) (ends_of m last e s)
          (has-ends_of_body last rest s (all-back P (patterns_element e) (patterns_body rest) h))
          (has-ends_of last e s (all-front P (patterns_element e) (patterns_body rest) h))

      has-ends_of_each : (last : Bool) (bs : Bodies) (s : List Var) → Each (patterns_bodies bs) → HaveAll (ends_of_each m last bs s)
      has-ends_of_each last NoMore s h = tt
      has-ends_of_each last (More b bs) s h =
          all-append Has (option_list (ends_of_body m last b s)) (ends_of_each m last bs s)
          (has-ends_of_body last b s (all-front P (patterns_body b) (patterns_bodies bs) h))
          (has-ends_of_each last bs s (all-back P (patterns_body b) (patterns_bodies bs) h))

      has-ends_of_first : (last : Bool) (bs : Bodies) (s : List Var) → Each (patterns_bodies bs) → HaveAll (option_list (ends_of_first m last bs s))
      has-ends_of_first last NoMore s h = tt
      has-ends_of_first last (More b bs) s h = has-ends_of_body last b s (all-front P (patterns_body b) (patterns_bodies bs) h)

    has-ends_of_option : (last : Bool) (o : Option Element) (s : List Var) → EachOf o → HaveAll (option_list (ends_of_option m last o s))
    has-ends_of_option last None s h = tt
    has-ends_of_option last (Some e) s h = has-ends_of last e s h

    has-with_tail : (w : List Var) (t : Option Pattern) (f : Plain) → Each (option_patterns t) → Has f → Has (with_tail m w t f)
    has-with_tail w None f h k = k
    has-with_tail w (Some p) f h k = (k, has-own w p (Atom p) h.0)

  mutual
    pub has-seq : (m : Setting) (before : Option Element) (b : Body) (k : Follow) (w s t : List Var) → EachOf before → Each (patterns_body b)
        → ((u : List Var) → Has (k.at u)) → Has (seq m before b k w s t)
    has-seq m before End k w s t o h g = g t
    has-seq m before (Then e rest) k w s t o h g =
        let here = filter (at_suffix m.reading e rest) w in
        let inside = filter (λ x. not (at_suffix m.reading e rest x)) w in
        let later = filter (λ x. not (occurs_element m.reading e x)) inside in
        let front = all-front P (patterns_element e) (patterns_body rest) h in
        let back = all-back P (patterns_element e) (patterns_body rest) h in
        let follow : Follow = record { start = start_of rest k.start; at = λ u. seq m (Some e) rest k later (s ++ here) u } in
        has-exists_all here
        (elem m before (first_of rest) e follow (filter (occurs_element m.reading e) inside) (s ++ here) (t ++ here))
        (has-elem m before (first_of rest) e follow (filter (occurs_element m.reading e) inside) (s ++ here) (t ++ here) o
        (each-first rest back) front (λ u. has-seq m (Some e) rest k later (s ++ here) u front back g))

    has-elem : (m : Setting) (before after : Option Element) (e : Element) (k : Follow) (w s t : List Var) → EachOf before → EachOf after
        → Each (patterns_element e) → ((u : List Var) → Has (k.at u)) → Has (elem m before after e k w s t)
    has-elem m before after (bodies.Atom p) k w s t o a h g =
        has-joined m.forall_walks (m.reading.is_statement p) (own m w p (Atom p)) k.start (k.at s) (has-own m w p (Atom p) h.0) (g s)
    has-elem m before after (Compound p bs tail) k w s t o a h g = (
      has-with_tail m w tail (and_all (own m w p (Atom p)) (in_branches 0 (each m bs nothing w s)))
          (all-back P (patterns_bodies bs) (option_patterns tail) h.1)
          (has-and_all (own m w p (Atom p)) (in_branches 0 (each m bs nothing w s)) (has-own m w p (Atom p) h.0)
          (has-in_branches 0 (each m bs nothing w s)
          (has-each m bs nothing w s (all-front P (patterns_bodies bs) (option_patterns tail) h.1) (λ u. tt)))),
      g s,
    )
    has-elem m before after (Block p b c) k w s t o a h g =
        let v = hidden m p in
        let close = all-back P (patterns_body b) (c ∷ []) h.1 in
        let inside = has-seq (within m v) None b (closing m w c v) (filter (occurs_body m.reading b) w) s s tt
        (all-front P (patterns_body b) (c ∷ []) h.1) (λ u. has-own m w c (BraceClose c v) close.0) in
        ((has-own m w p (BraceOpen p v) h.0, inside), g s)
    has-elem m before after (Gap ws any strict) k w s t o a h g =
        has-until m.forall_walks strict
        (condition any (stays m.around ++ when_parts m ws s) (ends_of_option m true before t) (ends_of_option m false after s))
        (target m.around k.start (k.at s))
        (has-condition any (stays m.around ++ when_parts m ws s) (ends_of_option m true before t)
        (ends_of_option m false after s) (has-firsts m.around (when_parts m ws s) (has-whens m ws s h))
        (has-ends_of_option m true before t o) (has-ends_of_option m false after s a))
        (has-target m.around k.start (k.at s) (g s))
    has-elem m before after (Nest plus b ws any strict) k w s t o a h g =
        has-nested m.forall_walks plus strict
        (condition any (stays m.around ++ when_parts m ws s) (ends_of_option m true before t) (ends_of_option m false after s))
        (seq m None b nothing (filter (occurs_body m.reading b) w) s s) (target m.around k.start (k.at s))
        (has-condition any (stays m.around ++ when_parts m ws s) (ends_of_option m true before t) (ends_of_option m false after s)
        (has-firsts m.around (when_parts m ws s) (has-whens m ws s (all-back P (patterns_body b) (patterns_bodies ws) h)))
        (has-ends_of_option m true before t o) (has-ends_of_option m false after s a))
        (has-seq m None b nothing (filter (occurs_body m.reading b) w) s s tt
        (all-front P (patterns_body b) (patterns_bodies ws) h) (λ u. tt))
        (has-target m.around k.start (k.at s) (g s))
    has-elem m before after (AnyOf bs) k w s t o a h g =
        has-any_of (choices [] (each m bs k w s) (each m bs nothing w s))
        (has-choices [] (each m bs k w s) (each m bs nothing w s) tt (has-each m bs k w s h g) (has-each m bs nothing w s h (λ u. tt)))
    has-elem m before after (AllOf bs) k w s t o a h g = has-first_and m bs k w s h g

    has-each : (m : Setting) (bs : Bodies) (k : Follow) (w s : List Var) → Each (patterns_bodies bs) → ((u : List Var) → Has (k.at u))
        → HaveAll (each m bs k w s)
    has-each m NoMore k w s h g = tt
    has-each m (More b bs) k w s h g = (
      has-seq m None b k (filter (occurs_body m.reading b) w) s s tt (all-front P (patterns_body b) (patterns_bodies bs) h) g,
      has-each m bs k w s (all-back P (patterns_body b) (patterns_bodies bs) h) g,
    )

    has-first_and : (m : Setting) (bs : Bodies) (k : Follow) (w s : List Var) → Each (patterns_bodies bs) → ((u : List Var) → Has (k.at u))
        → Has (first_and m bs k w s)
    has-first_and m NoMore k w s h g = g s
    has-first_and m (More b bs) k w s h g =
        has-and_all (seq m None b k (filter (occurs_body m.reading b) w) s s) (each m bs nothing w s)
        (has-seq m None b k (filter (occurs_body m.reading b) w) s s tt (all-front P (patterns_body b) (patterns_bodies bs) h) g)
        (has-each m bs nothing w s (all-back P (patterns_body b) (patterns_bodies bs) h) (λ u. tt))

    has-whens : (m : Setting) (ws : Bodies) (s : List Var) → Each (patterns_bodies ws) → HaveAll (when_parts m ws s)
    has-whens m NoMore s h = tt
    has-whens m (More w ws) s h =
        let alone = lone m w in (
          has-exists_all alone (seq m None w nothing [] (s ++ alone) (s ++ alone))
              (has-seq m None w nothing [] (s ++ alone) (s ++ alone) tt (all-front P (patterns_body w) (patterns_bodies ws) h) (λ u. tt)),
          has-whens m ws s (all-back P (patterns_body w) (patterns_bodies ws) h),
        )

  -- what is so of each pattern of a body is so of each pattern of its formula
  pub has-formula : (r : Reading) (forall_walks : Bool) (locals : List Var) (b : Body) → Each (patterns_body b)
      → Has (formula r forall_walks locals b)
  has-formula r forall_walks locals b h =
      has-seq (setting r forall_walks locals b) None b nothing (filter (λ x. not (is_alone r b x)) locals) [] [] tt h (λ u. tt)
