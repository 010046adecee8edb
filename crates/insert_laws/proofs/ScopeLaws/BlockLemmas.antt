-- The variables of blocks in a body's formula are hidden.
-- Proof: by recursion on the body, row by row of the table.
use Rattle.std.proofs.Common.{◌≡◌, ℕ, suc, Bool, true, false, not, ◌&&◌, cond, refl, Option, None, Some, List, [], ◌∷◌, ◌++◌}
use Rattle.std.specs.List.{filter, AllByRecursion}
use Rattle.smpl_terms.specs.declared.var.Var.{Var}
use Rattle.smpl_patch.specs.declared.pattern.Pattern.{Pattern}
use Rattle.smpl_patch.specs.declared.rule.Rule.{Rule}
use Rattle.smpl_patch.specs.Bodies.{Element, Compound, Block, Gap, Nest, AnyOf, AllOf, Body, End, Then, Bodies, NoMore, More, body}
use Rattle.smpl_patch.specs.Bodies as bodies
use Rattle.ctl_formula.specs.Plain.{Plain, Atom, BraceOpen, BraceClose, Not, And, Or}
use Rattle.wit_forest.specs.WitTrees.Forest.{is_hidden}
use Rattle.pattern_vars.specs.VarPlaces.Placing.{occurs_element, occurs_body, at_suffix, is_alone}
use Rattle.ctl_table.specs.Table.{Setting, Follow, Start, Nothing, Brace, Dots, Other, nothing, start_of, first_of, in_scope}
use Rattle.ctl_table.specs.Table.{exists_all, and_all, or_all, all_of, any_of, or_some, option_list, nots, hidden, own, copy, ends_of}
use Rattle.ctl_table.specs.Table.{ends_of_body, ends_of_each, ends_of_first, ends_of_option, is_end, joined, target, stays, within, until, nested}
use Rattle.ctl_table.specs.Table.{condition, lone, closing, with_tail, in_branches, choices, seq, elem, each, first_and, when_parts}
use Rattle.ctl_table.specs.Table.{setting}
use Rattle.ctl_translate.specs.Rules.{formula_of, reading, ranges_over_all, locals}
use Rattle.insert_laws.specs.TermLaws.Terms.{HidesBlocks}

abbrev Has : Plain → Type 0
Has f = HidesBlocks f

abbrev HaveAll : List Plain → Type 0
HaveAll fs = AllByRecursion Has fs

all-append : (xs ys : List Plain) → HaveAll xs → HaveAll ys → HaveAll (xs ++ ys)
all-append [] ys h k = k
all-append (x ∷ xs) ys h k = (h.0, all-append xs ys h.1 k)

-- the variable of the block around is hidden, if there is one
abbrev Around : Option Var → Type 0
Around None = Unit {0}
Around (Some b) = is_hidden b ≡ true

has-exists_all : (xs : List Var) (f : Plain) → Has f → Has (exists_all xs f)
has-exists_all [] f h = h
has-exists_all (x ∷ xs) f h = has-exists_all xs f h

has-and_all : (f : Plain) (gs : List Plain) → Has f → HaveAll gs → Has (and_all f gs)
has-and_all f [] h k = h
has-and_all f (g ∷ gs) h k = has-and_all (And f g) gs (h, k.0) k.1

has-or_all : (f : Plain) (gs : List Plain) → Has f → HaveAll gs → Has (or_all f gs)
has-or_all f [] h k = h
has-or_all f (g ∷ gs) h k = has-or_all (Or f g) gs (h, k.0) k.1

has-all_of : (fs : List Plain) → HaveAll fs → Has (all_of fs)
has-all_of [] h = tt
has-all_of (f ∷ fs) h = has-and_all f fs h.0 h.1

has-any_of : (fs : List Plain) → HaveAll fs → Has (any_of fs)
has-any_of [] h = tt
has-any_of (f ∷ fs) h = has-or_all f fs h.0 h.1

has-or_some : (fs : List Plain) → HaveAll fs → HaveAll (option_list (or_some fs))
has-or_some [] h = tt
has-or_some (f ∷ fs) h = (has-or_all f fs h.0 h.1, tt)

has-nots : (o : Option Plain) → HaveAll (option_list o) → HaveAll (nots o)
has-nots None h = tt
has-nots (Some f) h = h

has-choice : (b : Bool) (o p : Option Plain) → HaveAll (option_list o) → HaveAll (option_list p) → HaveAll (option_list (cond b o p))
has-choice true o p h k = h
has-choice false o p h k = k

has-until : (forall_walks strict : Bool) (d t : Plain) → Has d → Has t → Has (until forall_walks strict d t)
has-until false strict d t h k = (h, k)
has-until true true d t h k = ((h, k), (h, k))
has-until true false d t h k = ((h, (k, tt)), (h, k))

has-nested : (forall_walks plus strict : Bool) (d p t : Plain) → Has d → Has p → Has t → Has (nested forall_walks plus strict d p t)
has-nested forall_walks false strict d p t h k l = has-until forall_walks strict (And d (Or p (Not p))) t (h, (k, k)) l
has-nested forall_walks true strict d p t h k l =
    (has-until forall_walks strict (And d (Or p (Not p))) t (h, (k, k)) l, (h, ((h, k), (h, l))))

has-joined : (forall_walks statement : Bool) (f : Plain) (s : Start) (g : Plain) → Has f → Has g → Has (joined forall_walks statement f s g)
has-joined forall_walks statement f Nothing g h k = h
has-joined forall_walks true f Dots g h k = (h, k)
has-joined true false f Dots g h k = (h, k)
has-joined false false f Dots g h k = (h, k)
has-joined forall_walks statement f Brace g h k = (h, k)
has-joined forall_walks statement f Other g h k = (h, k)

has-target : (o : Option Var) → Around o → (s : Start) (f : Plain) → Has f → Has (target o s f)
has-target None a s f h = h
has-target (Some b) a Brace f h = (h, a)
has-target (Some b) a Nothing f h = (a, h)
has-target (Some b) a Dots f h = (a, h)
has-target (Some b) a Other f h = (a, h)

has-firsts : (o : Option Var) → Around o → (fs : List Plain) → HaveAll fs → HaveAll (stays o ++ fs)
has-firsts None a fs h = h
has-firsts (Some b) a fs h = (a, h)

has-condition : (any : Bool) (whens : List Plain) (before after : Option Plain) → HaveAll whens → HaveAll (option_list before)
    → HaveAll (option_list after) → Has (condition any whens before after)
has-condition true whens before after h k l = has-all_of (whens ++ []) (all-append whens [] h tt)
has-condition false whens before after h k l =
    has-all_of (whens ++ (nots before ++ nots after))
    (all-append whens (nots before ++ nots after) h (all-append (nots before) (nots after) (has-nots before k) (has-nots after l)))

has-in_branches : (i : ℕ) (fs : List Plain) → HaveAll fs → HaveAll (in_branches i fs)
has-in_branches i [] h = tt
has-in_branches i (f ∷ fs) h = (h.0, has-in_branches (suc i) fs h.1)

has-choices : (earlier fs gs : List Plain) → HaveAll earlier → HaveAll fs → HaveAll gs → HaveAll (choices earlier fs gs)
has-choices earlier [] gs h k l = tt
has-choices earlier (f ∷ fs) [] h k l = (has-and_all f earlier k.0 h, has-choices earlier fs [] h k.1 tt)
has-choices earlier (f ∷ fs) (g ∷ gs) h k l =
    (has-and_all f earlier k.0 h, has-choices (earlier ++ Not g ∷ []) fs gs (all-append earlier (Not g ∷ []) h (l.0, tt)) k.1 l.1)

module _ (m : Setting) where
  has-own : (w : List Var) (p : Pattern) (f : Plain) → Has f → Has (own m w p f)
  has-own w p f h = has-exists_all (filter (λ x. m.reading.used p x) w) f h

  has-copy : (p : Pattern) (s : List Var) → Has (copy m p s)
  has-copy p s = has-exists_all (filter (λ x. m.reading.stands p x && not (in_scope s x)) m.locals) (Atom p) tt

  mutual
    has-ends_of : (last : Bool) (e : Element) (s : List Var) → HaveAll (option_list (ends_of m last e s))
    has-ends_of last (bodies.Atom p) s = has-choice (m.reading.is_statement p) None (Some (copy m p s)) tt (has-copy p s, tt)
    has-ends_of last (Compound q bs t) s = (has-copy q s, tt)
    has-ends_of last (Block o b c) s = tt
    has-ends_of last (Gap ws any strict) s = tt
    has-ends_of last (Nest plus b ws any strict) s = tt
    has-ends_of last (AnyOf bs) s = has-or_some (ends_of_each m last bs s) (has-ends_of_each last bs s)
    has-ends_of last (AllOf bs) s = has-ends_of_first last bs s

    has-ends_of_body : (last : Bool) (b : Body) (s : List Var) → HaveAll (option_list (ends_of_body m last b s))
    has-ends_of_body last End s = tt
    has-ends_of_body last (Then e rest) s =
        has-choice (last && not (is_end rest)) (ends_of_body m last rest s) (ends_of m last e s) (has-ends_of_body last rest s) (has-ends_of last e s)

    has-ends_of_each : (last : Bool) (bs : Bodies) (s : List Var) → HaveAll (ends_of_each m last bs s)
    has-ends_of_each last NoMore s = tt
    has-ends_of_each last (More b bs) s =
        all-append (option_list (ends_of_body m last b s)) (ends_of_each m last bs s) (has-ends_of_body last b s) (has-ends_of_each last bs s)

    has-ends_of_first : (last : Bool) (bs : Bodies) (s : List Var) → HaveAll (option_list (ends_of_first m last bs s))
    has-ends_of_first last NoMore s = tt
    has-ends_of_first last (More b bs) s = has-ends_of_body last b s

  has-ends_of_option : (last : Bool) (o : Option Element) (s : List Var) → HaveAll (option_list (ends_of_option m last o s))
  has-ends_of_option last None s = tt
  has-ends_of_option last (Some e) s = has-ends_of last e s

  has-with_tail : (w : List Var) (t : Option Pattern) (f : Plain) → Has f → Has (with_tail m w t f)
  has-with_tail w None f k = k
  has-with_tail w (Some p) f k = (k, has-own w p (Atom p) tt)

mutual
  has-seq : (m : Setting) → Around m.around → (before : Option Element) (b : Body) (k : Follow) (w s t : List Var)
      → ((u : List Var) → Has (k.at u)) → Has (seq m before b k w s t)
  has-seq m a before End k w s t g = g t
  has-seq m a before (Then e rest) k w s t g =
      let here = filter (at_suffix m.reading e rest) w in
      let inside = filter (λ x. not (at_suffix m.reading e rest x)) w in
      let later = filter (λ x. not (occurs_element m.reading e x)) inside in
      let follow : Follow = record { start = start_of rest k.start; at = λ u. seq m (Some e) rest k later (s ++ here) u } in
      has-exists_all here
      (elem m before (first_of rest) e follow (filter (occurs_element m.reading e) inside) (s ++ here) (t ++ here))
      (has-elem m a before (first_of rest) e follow (filter (occurs_element m.reading e) inside) (s ++ here) (t ++ here)
      (λ u. has-seq m a (Some e) rest k later (s ++ here) u g))

  has-elem : (m : Setting) → Around m.around → (before after : Option Element) (e : Element) (k : Follow) (w s t : List Var)
      → ((u : List Var) → Has (k.at u)) → Has (elem m before after e k w s t)
  has-elem m a before after (bodies.Atom p) k w s t g =
      has-joined m.forall_walks (m.reading.is_statement p) (own m w p (Atom p)) k.start (k.at s) (has-own m w p (Atom p) tt) (g s)
  has-elem m a before after (Compound p bs tail) k w s t g = (
    has-with_tail m w tail (and_all (own m w p (Atom p)) (in_branches 0 (each m bs nothing w s)))
        (has-and_all (own m w p (Atom p)) (in_branches 0 (each m bs nothing w s)) (has-own m w p (Atom p) tt)
        (has-in_branches 0 (each m bs nothing w s) (has-each m a bs nothing w s (λ u. tt)))),
    g s,
  )
  has-elem m a before after (Block p b c) k w s t g =
      let v = hidden m p in
      let inside = has-seq (within m v) refl None b (closing m w c v) (filter (occurs_body m.reading b) w) s s
      (λ u. has-own m w c (BraceClose c v) refl) in
      ((has-own m w p (BraceOpen p v) refl, inside), g s)
  has-elem m a before after (Gap ws any strict) k w s t g =
      has-until m.forall_walks strict
      (condition any (stays m.around ++ when_parts m ws s) (ends_of_option m true before t) (ends_of_option m false after s)) (target m.around k.start (k.at s))
      (has-condition any (stays m.around ++ when_parts m ws s) (ends_of_option m true before t) (ends_of_option m false after s)
      (has-firsts m.around a (when_parts m ws s) (has-whens m a ws s)) (has-ends_of_option m true before t) (has-ends_of_option m false after s))
      (has-target m.around a k.start (k.at s) (g s))
  has-elem m a before after (Nest plus b ws any strict) k w s t g =
      has-nested m.forall_walks plus strict
      (condition any (stays m.around ++ when_parts m ws s) (ends_of_option m true before t) (ends_of_option m false after s))
      (seq m None b nothing (filter (occurs_body m.reading b) w) s s) (target m.around k.start (k.at s))
      (has-condition any (stays m.around ++ when_parts m ws s) (ends_of_option m true before t) (ends_of_option m false after s)
      (has-firsts m.around a (when_parts m ws s) (has-whens m a ws s)) (has-ends_of_option m true before t) (has-ends_of_option m false after s))
      (has-seq m a None b nothing (filter (occurs_body m.reading b) w) s s (λ u. tt))
      (has-target m.around a k.start (k.at s) (g s))
  has-elem m a before after (AnyOf bs) k w s t g =
      has-any_of (choices [] (each m bs k w s) (each m bs nothing w s))
      (has-choices [] (each m bs k w s) (each m bs nothing w s) tt (has-each m a bs k w s g) (has-each m a bs nothing w s (λ u. tt)))
  has-elem m a before after (AllOf bs) k w s t g = has-first_and m a bs k w s g

  has-each : (m : Setting) → Around m.around → (bs : Bodies) (k : Follow) (w s : List Var) → ((u : List Var) → Has (k.at u))
      → HaveAll (each m bs k w s)
  has-each m a NoMore k w s g = tt
  has-each m a (More b bs) k w s g =
      (has-seq m a None b k (filter (occurs_body m.reading b) w) s s g, has-each m a bs k w s g)

  has-first_and : (m : Setting) → Around m.around → (bs : Bodies) (k : Follow) (w s : List Var) → ((u : List Var) → Has (k.at u))
      → Has (first_and m bs k w s)
  has-first_and m a NoMore k w s g = g s
  has-first_and m a (More b bs) k w s g =
      has-and_all (seq m None b k (filter (occurs_body m.reading b) w) s s) (each m bs nothing w s)
      (has-seq m a None b k (filter (occurs_body m.reading b) w) s s g) (has-each m a bs nothing w s (λ u. tt))

  has-whens : (m : Setting) → Around m.around → (ws : Bodies) (s : List Var) → HaveAll (when_parts m ws s)
  has-whens m a NoMore s = tt
  has-whens m a (More w ws) s =
      let alone = lone m w in (
        has-exists_all alone (seq m None w nothing [] (s ++ alone) (s ++ alone)) (has-seq m a None w nothing [] (s ++ alone) (s ++ alone) (λ u. tt)),
        has-whens m a ws s,
      )

pub formula_hides : (rule : Rule) → HidesBlocks (formula_of rule)
formula_hides rule =
    let r = reading rule in
    let b = body rule.body in
    has-seq (setting r (ranges_over_all rule.mode) (locals rule) b) tt None b nothing (filter (λ x. not (is_alone r b x)) (locals rule)) [] [] (λ u. tt)
