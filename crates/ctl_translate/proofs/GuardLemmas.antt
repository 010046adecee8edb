-- Each quantifier of a rule's formula is of a variable that is neither exported nor inherited, or its part binds it.
use Rattle.std.proofs.Common.{◌≡◌, ℕ, suc, Bool, true, false, not, ◌&&◌, ◌||◌, cond, refl, sym, ap, ◌∙◌, List, [], ◌∷◌, ◌++◌, Option, None, Some}
use Rattle.std.specs.List.{list_all, filter}
use Rattle.smpl_terms.specs.declared.var.Var.{Var}
use Rattle.smpl_terms.specs.Vars.{same_var}
use Rattle.smpl_terms.proofs.VarLaws.{same_var-equal}
use Rattle.smpl_patch.specs.declared.pattern.Pattern.{Pattern}
use Rattle.smpl_patch.specs.Bodies.{Element, Compound, Block, Gap, Nest, AnyOf, AllOf, Body, End, Then, Bodies, NoMore, More}
use Rattle.smpl_patch.specs.Bodies as bodies
use Rattle.ctl_formula.specs.Plain.{Plain, Atom, BraceOpen, BraceClose, Not, And, Or, InBranch, Exists}
use Rattle.ctl_formula.specs.Bounds.{Surely, each_quantifier, bound}
use Rattle.ctl_formula.proofs.TableLemmas.{and-left, and-right}
use Rattle.pattern_vars.specs.VarPlaces.Placing.{occurs_element, occurs_body, at_suffix}
use Rattle.ctl_table.specs.Table.{Setting, Follow, Start, Nothing, Brace, Dots, Other, nothing, start_of, first_of, in_scope}
use Rattle.ctl_table.specs.Table.{exists_all, and_all, or_all, all_of, any_of, or_some, option_list, nots, hidden, own, copy}
use Rattle.ctl_table.specs.Table.{ends_of, ends_of_body, ends_of_each, ends_of_first, ends_of_option, is_end, joined, target}
use Rattle.ctl_table.specs.Table.{stays, within, until, nested, condition, lone, closing, with_tail, in_branches, choices, seq}
use Rattle.ctl_table.specs.Table.{elem, each, first_and, when_parts}

both : (a b : Bool) → a ≡ true → b ≡ true → (a && b) ≡ true
both a b h k = ap (λ z. z && b) h ∙ k

or-left : (a b : Bool) → a ≡ true → (a || b) ≡ true
or-left a b h = ap (λ z. z || b) h

or-right : (a b : Bool) → b ≡ true → (a || b) ≡ true
or-right true b h = refl
or-right false b h = h

or-more : (a b c : Bool) → (a || b) ≡ true → (a || (b || c)) ≡ true
or-more true b c h = refl
or-more false true c h = refl
or-more false false c h = absurd cc

and-true : (b : Bool) → (b && true) ≡ b
and-true true = refl
and-true false = refl

all-append : {A : Type 0} (p : A → Bool) (xs ys : List A) → list_all p xs ≡ true → list_all p ys ≡ true → list_all p (xs ++ ys) ≡ true
all-append p [] ys h k = k
all-append p (x ∷ xs) ys h k = both (p x) (list_all p (xs ++ ys)) (and-left (p x) (list_all p xs) h) (all-append p xs ys (and-right (p x) (list_all p xs) h) k)

all-kept : (p : Var → Bool) (b : Bool) (x : Var) (xs : List Var) → p x ≡ true → list_all p xs ≡ true → list_all p (cond b (x ∷ xs) xs) ≡ true
all-kept p true x xs h k = both (p x) (list_all p xs) h k
all-kept p false x xs h k = k

pub all-filter : (p t : Var → Bool) (xs : List Var) → list_all p xs ≡ true → list_all p (filter t xs) ≡ true
all-filter p t [] h = refl
all-filter p t (x ∷ xs) h = all-kept p (t x) x (filter t xs) (and-left (p x) (list_all p xs) h) (all-filter p t xs (and-right (p x) (list_all p xs) h))

module _ (sure : Surely) (locals : List Var) where
  -- a quantifier of the variable over the part is of a local variable, or the part binds it
  abbrev pub is_known : Var → Plain → Bool
  is_known y g = in_scope locals y || bound sure g y

  abbrev pub known : Plain → Bool
  known f = each_quantifier is_known f

  abbrev pub are_local : List Var → Bool
  are_local xs = list_all (in_scope locals) xs

  known-exists_all : (xs : List Var) (f : Plain) → are_local xs ≡ true → known f ≡ true → known (exists_all xs f) ≡ true
  known-exists_all [] f h k = k
  known-exists_all (x ∷ xs) f h k =
      both (is_known x (exists_all xs f)) (known (exists_all xs f))
      (or-left (in_scope locals x) (bound sure (exists_all xs f) x) (and-left (in_scope locals x) (are_local xs) h))
      (known-exists_all xs f (and-right (in_scope locals x) (are_local xs) h) k)

  known-and_all : (f : Plain) (gs : List Plain) → known f ≡ true → list_all known gs ≡ true → known (and_all f gs) ≡ true
  known-and_all f [] h k = h
  known-and_all f (g ∷ gs) h k = known-and_all (And f g) gs
      (both (known f) (known g) h (and-left (known g) (list_all known gs) k)) (and-right (known g) (list_all known gs) k)

  known-or_all : (f : Plain) (gs : List Plain) → known f ≡ true → list_all known gs ≡ true → known (or_all f gs) ≡ true
  known-or_all f [] h k = h
  known-or_all f (g ∷ gs) h k = known-or_all (Or f g) gs (both (known f) (known g) h (and-left (known g) (list_all known gs) k))
      (and-right (known g) (list_all known gs) k)

  known-all_of : (fs : List Plain) → list_all known fs ≡ true → known (all_of fs) ≡ true
  known-all_of [] h = refl
  known-all_of (f ∷ fs) h = known-and_all f fs (and-left (known f) (list_all known fs) h) (and-right (known f) (list_all known fs) h)

  known-any_of : (fs : List Plain) → list_all known fs ≡ true → known (any_of fs) ≡ true
  known-any_of [] h = refl
  known-any_of (f ∷ fs) h = known-or_all f fs (and-left (known f) (list_all known fs) h) (and-right (known f) (list_all known fs) h)

  known-or_some : (fs : List Plain) → list_all known fs ≡ true → list_all known (option_list (or_some fs)) ≡ true
  known-or_some [] h = refl
  known-or_some (f ∷ fs) h =
      both (known (or_all f fs)) true (known-or_all f fs (and-left (known f) (list_all known fs) h) (and-right (known f) (list_all known fs) h)) refl

  known-nots : (o : Option Plain) → list_all known (option_list o) ≡ true → list_all known (nots o) ≡ true
  known-nots None h = refl
  known-nots (Some f) h = h

  known-choice : (b : Bool) (o p : Option Plain) → list_all known (option_list o) ≡ true → list_all known (option_list p) ≡ true
      → list_all known (option_list (cond b o p)) ≡ true
  known-choice true o p h k = h
  known-choice false o p h k = k

  known-until : (forall_walks strict : Bool) (d t : Plain) → known d ≡ true → known t ≡ true → known (until forall_walks strict d t) ≡ true
  known-until false strict d t h k = both (known d) (known t) h k
  known-until true true d t h k = both (known d && known t) (known d && known t) (both (known d) (known t) h k) (both (known d) (known t) h k)
  known-until true false d t h k =
      both (known d && (known t && true)) (known d && known t) (both (known d) (known t && true) h (both (known t) true k refl)) (both (known d) (known t) h k)

  known-nested : (forall_walks plus strict : Bool) (d p t : Plain) → known d ≡ true → known p ≡ true → known t ≡ true
      → known (nested forall_walks plus strict d p t) ≡ true
  known-nested forall_walks false strict d p t h k l =
      known-until forall_walks strict (And d (Or p (Not p))) t (both (known d) (known p && known p) h (both (known p) (known p) k k)) l
  known-nested forall_walks true strict d p t h k l =
      let dp = both (known d) (known p) h k in
      let dt = both (known d) (known t) h l in
      both (known (until forall_walks strict (And d (Or p (Not p))) t)) (known d && ((known d && known p) && (known d && known t)))
      (known-until forall_walks strict (And d (Or p (Not p))) t (both (known d) (known p && known p) h (both (known p) (known p) k k)) l)
      (both (known d) ((known d && known p) && (known d && known t)) h (both (known d && known p) (known d && known t) dp dt))

  known-joined : (forall_walks statement : Bool) (f : Plain) (s : Start) (g : Plain) → known f ≡ true → known g ≡ true
      → known (joined forall_walks statement f s g) ≡ true
  known-joined forall_walks statement f Nothing g h k = h
  known-joined forall_walks true f Dots g h k = both (known f) (known g) h k
  known-joined true false f Dots g h k = both (known f) (known g) h k
  known-joined false false f Dots g h k = both (known f) (known g) h k
  known-joined forall_walks statement f Brace g h k = both (known f) (known g) h k
  known-joined forall_walks statement f Other g h k = both (known f) (known g) h k

  known-target : (o : Option Var) (s : Start) (f : Plain) → known f ≡ true → known (target o s f) ≡ true
  known-target None s f h = h
  known-target (Some b) Brace f h = both (known f) true h refl
  known-target (Some b) Nothing f h = h
  known-target (Some b) Dots f h = h
  known-target (Some b) Other f h = h

  known-firsts : (o : Option Var) (fs : List Plain) → list_all known fs ≡ true → list_all known (stays o ++ fs) ≡ true
  known-firsts None fs h = h
  known-firsts (Some b) fs h = h

  known-condition : (any : Bool) (whens : List Plain) (before after : Option Plain) → list_all known whens ≡ true → list_all known (option_list before) ≡ true
      → list_all known (option_list after) ≡ true → known (condition any whens before after) ≡ true
  known-condition true whens before after h k l = known-all_of (whens ++ []) (all-append known whens [] h refl)
  known-condition false whens before after h k l =
      known-all_of (whens ++ (nots before ++ nots after))
      (all-append known whens (nots before ++ nots after) h (all-append known (nots before) (nots after) (known-nots before k) (known-nots after l)))

  known-in_branches : (i : ℕ) (fs : List Plain) → list_all known fs ≡ true → list_all known (in_branches i fs) ≡ true
  known-in_branches i [] h = refl
  known-in_branches i (f ∷ fs) h =
      both (known f) (list_all known (in_branches (suc i) fs)) (and-left (known f) (list_all known fs) h)
      (known-in_branches (suc i) fs (and-right (known f) (list_all known fs) h))

  known-choices : (earlier fs gs : List Plain) → list_all known earlier ≡ true → list_all known fs ≡ true → list_all known gs ≡ true
      → list_all known (choices earlier fs gs) ≡ true
  known-choices earlier [] gs h k l = refl
  known-choices earlier (f ∷ fs) [] h k l =
      both (known (and_all f earlier)) (list_all known (choices earlier fs [])) (known-and_all f earlier (and-left (known f) (list_all known fs) k) h)
      (known-choices earlier fs [] h (and-right (known f) (list_all known fs) k) refl)
  known-choices earlier (f ∷ fs) (g ∷ gs) h k l =
      both (known (and_all f earlier)) (list_all known (choices (earlier ++ Not g ∷ []) fs gs))
      (known-and_all f earlier (and-left (known f) (list_all known fs) k) h)
      (known-choices (earlier ++ Not g ∷ []) fs gs
      (all-append known earlier (Not g ∷ []) h (both (known g) true (and-left (known g) (list_all known gs) l) refl))
      (and-right (known f) (list_all known fs) k) (and-right (known g) (list_all known gs) l))

  same-case : (x v : Var) (g : Plain) (b : Bool) → same_var x v ≡ b → in_scope locals x ≡ true → (in_scope locals v || bound sure g v) ≡ true
      → (in_scope locals v || (bound sure g v && not (same_var x v))) ≡ true
  same-case x v g true e h k = let q : x ≡ v = same_var-equal x v e in
      or-left (in_scope locals v) (bound sure g v && not (same_var x v)) (ap (in_scope locals) (sym q) ∙ h)
  same-case x v g false e h k = ap (λ z. in_scope locals v || (bound sure g v && not z)) e ∙ ap (λ z. in_scope locals v || z) (and-true (bound sure g v)) ∙ k

  -- the hidden variable of a block is bound by its brace, if it isn't a local variable
  hidden-known : (o : Pattern) (v : Var) (xs : List Var) → same_var v v ≡ true → are_local xs ≡ true
      → (in_scope locals v || bound sure (exists_all xs (BraceOpen o v)) v) ≡ true
  hidden-known o v [] r h = or-right (in_scope locals v) (sure o v || same_var v v) (or-right (sure o v) (same_var v v) r)
  hidden-known o v (x ∷ xs) r h =
      same-case x v (exists_all xs (BraceOpen o v)) (same_var x v) refl (and-left (in_scope locals x) (are_local xs) h)
      (hidden-known o v xs r (and-right (in_scope locals x) (are_local xs) h))

  module _ (m : Setting) (l : are_local m.locals ≡ true) (a : are_local m.alone ≡ true)
      (hidden-same : (o : Pattern) → same_var (hidden m o) (hidden m o) ≡ true) where
    known-own : (w : List Var) (p : Pattern) (f : Plain) → are_local w ≡ true → known f ≡ true → known (own m w p f) ≡ true
    known-own w p f h k = known-exists_all (filter (λ x. m.reading.used p x) w) f (all-filter (in_scope locals) (λ x. m.reading.used p x) w h) k

    known-copy : (p : Pattern) (s : List Var) → known (copy m p s) ≡ true
    known-copy p s =
        known-exists_all (filter (λ x. m.reading.stands p x && not (in_scope s x)) m.locals) (Atom p)
        (all-filter (in_scope locals) (λ x. m.reading.stands p x && not (in_scope s x)) m.locals l) refl

    mutual
      known-ends_of : (last : Bool) (e : Element) (s : List Var) → list_all known (option_list (ends_of m last e s)) ≡ true
      known-ends_of last (bodies.Atom p) s =
          known-choice (m.reading.is_statement p) None (Some (copy m p s)) refl (both (known (copy m p s)) true (known-copy p s) refl)
      known-ends_of last (Compound h bs t) s = both (known (copy m h s)) true (known-copy h s) refl
      known-ends_of last (Block o b c) s = refl
      known-ends_of last (Gap ws any strict) s = refl
      known-ends_of last (Nest plus b ws any strict) s = refl
      known-ends_of last (AnyOf bs) s = known-or_some (ends_of_each m last bs s) (known-ends_of_each last bs s)
      known-ends_of last (AllOf bs) s = known-ends_of_first last bs s

      known-ends_of_body : (last : Bool) (b : Body) (s : List Var) → list_all known (option_list (ends_of_body m last b s)) ≡ true
      known-ends_of_body last End s = refl
      known-ends_of_body last (Then e rest) s =
          known-choice (last && not (is_end rest)) (ends_of_body m last rest s) (ends_of m last e s) (known-ends_of_body last rest s) (known-ends_of last e s)

      known-ends_of_each : (last : Bool) (bs : Bodies) (s : List Var) → list_all known (ends_of_each m last bs s) ≡ true
      known-ends_of_each last NoMore s = refl
      known-ends_of_each last (More b bs) s =
          all-append known (option_list (ends_of_body m last b s)) (ends_of_each m last bs s) (known-ends_of_body last b s) (known-ends_of_each last bs s)

      known-ends_of_first : (last : Bool) (bs : Bodies) (s : List Var) → list_all known (option_list (ends_of_first m last bs s)) ≡ true
      known-ends_of_first last NoMore s = refl
      known-ends_of_first last (More b bs) s = known-ends_of_body last b s

    known-ends_of_option : (last : Bool) (o : Option Element) (s : List Var) → list_all known (option_list (ends_of_option m last o s)) ≡ true
    known-ends_of_option last None s = refl
    known-ends_of_option last (Some e) s = known-ends_of last e s

    known-with_tail : (w : List Var) (t : Option Pattern) (f : Plain) → are_local w ≡ true → known f ≡ true → known (with_tail m w t f) ≡ true
    known-with_tail w None f h k = k
    known-with_tail w (Some p) f h k = both (known f) (known (own m w p (Atom p))) k (known-own w p (Atom p) h refl)

    known-block : (o : Pattern) (w : List Var) (inside : Plain) → are_local w ≡ true → known inside ≡ true
        → known (Exists (hidden m o) (And (own m w o (BraceOpen o (hidden m o))) (InBranch 0 inside))) ≡ true
    known-block o w inside h k =
        let v = hidden m o in
        let own_open = own m w o (BraceOpen o v) in
        both (in_scope locals v || (bound sure own_open v || bound sure inside v)) (known own_open && known inside)
        (or-more (in_scope locals v) (bound sure own_open v) (bound sure inside v)
        (hidden-known o v (filter (λ x. m.reading.used o x) w) (hidden-same o) (all-filter (in_scope locals) (λ x. m.reading.used o x) w h)))
        (both (known own_open) (known inside) (known-own w o (BraceOpen o v) h refl) k)

  mutual
    pub known-seq : (m : Setting) (l : are_local m.locals ≡ true) (a : are_local m.alone ≡ true)
        (r : (o : Pattern) → same_var (hidden m o) (hidden m o) ≡ true)
        (before : Option Element) (b : Body) (k : Follow) (w s t : List Var) → are_local w ≡ true → ((u : List Var) → known (k.at u) ≡ true)
        → known (seq m before b k w s t) ≡ true
    known-seq m l a r before End k w s t h g = g t
    known-seq m l a r before (Then e rest) k w s t h g =
        let here = filter (at_suffix m.reading e rest) w in
        let inside = filter (λ x. not (at_suffix m.reading e rest x)) w in
        let later = filter (λ x. not (occurs_element m.reading e x)) inside in
        let hi = all-filter (in_scope locals) (λ x. not (at_suffix m.reading e rest x)) w h in
        known-exists_all here _ (all-filter (in_scope locals) (at_suffix m.reading e rest) w h)
        (known-elem m l a r before (first_of rest) e (record { start = start_of rest k.start; at = λ u. seq m (Some e) rest k later (s ++ here) u })
        (filter (occurs_element m.reading e) inside) (s ++ here) (t ++ here) (all-filter (in_scope locals) (occurs_element m.reading e) inside hi)
        (λ u. known-seq m l a r (Some e) rest k later (s ++ here) u (all-filter (in_scope locals) (λ x. not (occurs_element m.reading e x)) inside hi) g))

    known-elem : (m : Setting) (l : are_local m.locals ≡ true) (a : are_local m.alone ≡ true)
        (r : (o : Pattern) → same_var (hidden m o) (hidden m o) ≡ true)
        (before after : Option Element) (e : Element) (k : Follow) (w s t : List Var) → are_local w ≡ true → ((u : List Var) → known (k.at u) ≡ true)
        → known (elem m before after e k w s t) ≡ true
    known-elem m l a r before after (bodies.Atom p) k w s t h g =
        known-joined m.forall_walks (m.reading.is_statement p) (own m w p (Atom p)) k.start (k.at s) (known-own m l a r w p (Atom p) h refl) (g s)
    known-elem m l a r before after (Compound p bs tail) k w s t h g =
        both (known (with_tail m w tail (and_all (own m w p (Atom p)) (in_branches 0 (each m bs nothing w s))))) (known (k.at s))
        (known-with_tail m l a r w tail (and_all (own m w p (Atom p)) (in_branches 0 (each m bs nothing w s))) h
        (known-and_all (own m w p (Atom p)) (in_branches 0 (each m bs nothing w s)) (known-own m l a r w p (Atom p) h refl)
        (known-in_branches 0 (each m bs nothing w s) (known-each m l a r bs nothing w s h (λ u. refl)))))
        (g s)
    known-elem m l a r before after (Block o b c) k w s t h g =
        let inside = seq (within m (hidden m o)) None b (closing m w c (hidden m o)) (filter (occurs_body m.reading b) w) s s in
        both (known (Exists (hidden m o) (And (own m w o (BraceOpen o (hidden m o))) (InBranch 0 inside)))) (known (k.at s))
        (known-block m l a r o w inside h (known-seq (within m (hidden m o)) l a r None b (closing m w c (hidden m o)) (filter (occurs_body m.reading b) w) s s
        (all-filter (in_scope locals) (occurs_body m.reading b) w h) (λ u. known-own m l a r w c (BraceClose c (hidden m o)) h refl)))
        (g s)
    known-elem m l a r before after (Gap ws any strict) k w s t h g =
        known-until m.forall_walks strict
        (condition any (stays m.around ++ when_parts m ws s) (ends_of_option m true before t) (ends_of_option m false after s))
        (target m.around k.start (k.at s))
        (known-condition any (stays m.around ++ when_parts m ws s) (ends_of_option m true before t) (ends_of_option m false after s)
        (known-firsts m.around (when_parts m ws s) (known-whens m l a r ws s)) (known-ends_of_option m l a r true before t)
        (known-ends_of_option m l a r false after s))
        (known-target m.around k.start (k.at s) (g s))
    known-elem m l a r before after (Nest plus b ws any strict) k w s t h g =
        known-nested m.forall_walks plus strict (condition any (stays m.around ++ when_parts m ws s)
        (ends_of_option m true before t) (ends_of_option m false after s))
        (seq m None b nothing (filter (occurs_body m.reading b) w) s s) (target m.around k.start (k.at s))
        (known-condition any (stays m.around ++ when_parts m ws s) (ends_of_option m true before t) (ends_of_option m false after s)
        (known-firsts m.around (when_parts m ws s) (known-whens m l a r ws s)) (known-ends_of_option m l a r true before t)
        (known-ends_of_option m l a r false after s))
        (known-seq m l a r None b nothing (filter (occurs_body m.reading b) w) s s (all-filter (in_scope locals) (occurs_body m.reading b) w h) (λ u. refl))
        (known-target m.around k.start (k.at s) (g s))
    known-elem m l a r before after (AnyOf bs) k w s t h g =
        known-any_of (choices [] (each m bs k w s) (each m bs nothing w s))
        (known-choices [] (each m bs k w s) (each m bs nothing w s) refl (known-each m l a r bs k w s h g) (known-each m l a r bs nothing w s h (λ u. refl)))
    known-elem m l a r before after (AllOf bs) k w s t h g = known-first_and m l a r bs k w s h g

    known-each : (m : Setting) (l : are_local m.locals ≡ true) (a : are_local m.alone ≡ true)
        (r : (o : Pattern) → same_var (hidden m o) (hidden m o) ≡ true)
        (bs : Bodies) (k : Follow) (w s : List Var) → are_local w ≡ true → ((u : List Var) → known (k.at u) ≡ true) → list_all known (each m bs k w s) ≡ true
    known-each m l a r NoMore k w s h g = refl
    known-each m l a r (More b bs) k w s h g =
        both (known (seq m None b k (filter (occurs_body m.reading b) w) s s)) (list_all known (each m bs k w s))
        (known-seq m l a r None b k (filter (occurs_body m.reading b) w) s s
        (all-filter (in_scope locals) (occurs_body m.reading b) w h) g) (known-each m l a r bs k w s h g)

    known-first_and : (m : Setting) (l : are_local m.locals ≡ true) (a : are_local m.alone ≡ true)
        (r : (o : Pattern) → same_var (hidden m o) (hidden m o) ≡ true)
        (bs : Bodies) (k : Follow) (w s : List Var) → are_local w ≡ true → ((u : List Var) → known (k.at u) ≡ true) → known (first_and m bs k w s) ≡ true
    known-first_and m l a r NoMore k w s h g = g s
    known-first_and m l a r (More b bs) k w s h g =
        known-and_all (seq m None b k (filter (occurs_body m.reading b) w) s s) (each m bs nothing w s)
        (known-seq m l a r None b k (filter (occurs_body m.reading b) w) s s (all-filter (in_scope locals) (occurs_body m.reading b) w h) g)
        (known-each m l a r bs nothing w s h (λ u. refl))

    known-whens : (m : Setting) (l : are_local m.locals ≡ true) (a : are_local m.alone ≡ true)
        (r : (o : Pattern) → same_var (hidden m o) (hidden m o) ≡ true)
        (ws : Bodies) (s : List Var) → list_all known (when_parts m ws s) ≡ true
    known-whens m l a r NoMore s = refl
    known-whens m l a r (More w ws) s =
        let alone = lone m w in
        both (known (exists_all alone (seq m None w nothing [] (s ++ alone) (s ++ alone)))) (list_all known (when_parts m ws s))
        (known-exists_all alone (seq m None w nothing [] (s ++ alone) (s ++ alone)) (all-filter (in_scope locals) _ m.alone a)
        (known-seq m l a r None w nothing [] (s ++ alone) (s ++ alone) refl (λ u. refl)))
        (known-whens m l a r ws s)
