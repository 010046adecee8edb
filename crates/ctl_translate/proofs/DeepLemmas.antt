-- The formula of a body has at least as many levels as its elements alone imply.
use Rattle.std.proofs.Common.{◌≡◌, ℕ, suc, ◌+◌, ◌<◌, ◌≤◌, max, Bool, true, false, not, ◌&&◌, cond, nat_le, refl, sym, ap, ◌∙◌}
use Rattle.std.proofs.Common.{subst, List, [], ◌∷◌, ◌++◌, length, drop, get_or, Option, None, Some, arith}
use Rattle.std.proofs.lemmas.Bool.{lt-leb}
use Rattle.std.specs.List.{filter}
use Rattle.smpl_terms.specs.declared.var.Var.{Var}
use Rattle.smpl_patch.specs.declared.elem.Elem.{Elem}
use Rattle.smpl_patch.specs.declared.rule.Rule.{Rule}
use Rattle.smpl_patch.specs.Bodies.{Element, Compound, Block, Gap, Nest, AnyOf, AllOf, Body, End, Then, Bodies, NoMore, More, body, element}
use Rattle.smpl_patch.specs.Bodies as bodies
use Rattle.ctl_formula.specs.Plain.{Plain, Atom, BraceOpen, Not, And, Or, Exists, InBranch, size, depth, fits, most_parts}
use Rattle.pattern_vars.specs.VarPlaces.Placing.{is_dots, is_alone, occurs_element, occurs_body, at_suffix}
use Rattle.ctl_table.specs.Table.{Setting, Follow, Start, Nothing, Brace, Dots, Other, nothing, start_of, first_of, exists_all}
use Rattle.ctl_table.specs.Table.{and_all, or_all, any_of, ends_of_option, own, hidden, joined, target, stays, within, until}
use Rattle.ctl_table.specs.Table.{nested, condition, closing, with_tail, in_branches, choices, seq, elem, each, first_and}
use Rattle.ctl_table.specs.Table.{when_parts, setting}
use Rattle.ctl_translate.specs.Rules as rules
use Rattle.ctl_translate.specs.Deep.{levels_element, levels_body, levels_choice, levels_every}
use Rattle.pattern_vars.proofs.VarPlaces.KeptLemmas.{drop-here}

none-least : (n : ℕ) → 0 ≤ n
none-least n = omega arith

one-level : (n : ℕ) → 1 ≤ suc n
one-level n = omega arith

none-more : (n : ℕ) → n ≤ n
none-more n = omega arith

and-false : (b : Bool) → (b && false) ≡ false
and-false true = refl
and-false false = refl

exists-deep : (xs : List Var) (f : Plain) (n : ℕ) → n ≤ suc (depth f) → n ≤ suc (depth (exists_all xs f))
exists-deep [] f n h = h
exists-deep (x ∷ xs) f n h = let r = exists-deep xs f n h in omega (arith, r)

and-deep : (f : Plain) (gs : List Plain) → depth f ≤ depth (and_all f gs)
and-deep f [] = omega arith
and-deep f (g ∷ gs) = let r = and-deep (And f g) gs in omega (arith, r)

or-deep : (f : Plain) (gs : List Plain) → depth f ≤ depth (or_all f gs)
or-deep f [] = omega arith
or-deep f (g ∷ gs) = let r = or-deep (Or f g) gs in omega (arith, r)

target-deep : (o : Option Var) (s : Start) (f : Plain) → depth f ≤ depth (target o s f)
target-deep None s f = omega arith
target-deep (Some b) Brace f = omega arith
target-deep (Some b) Nothing f = omega arith
target-deep (Some b) Dots f = omega arith
target-deep (Some b) Other f = omega arith

until-deep : (forall_walks strict : Bool) (d t : Plain) → suc (depth t) ≤ depth (until forall_walks strict d t)
until-deep false strict d t = omega arith
until-deep true true d t = omega arith
until-deep true false d t = omega arith

nested-deep : (forall_walks plus strict : Bool) (d p t : Plain) → suc (depth t) ≤ depth (nested forall_walks plus strict d p t)
nested-deep forall_walks false strict d p t = until-deep forall_walks strict (And d (Or p (Not p))) t
nested-deep forall_walks true strict d p t = let r = until-deep forall_walks strict (And d (Or p (Not p))) t in omega (arith, r)

-- what follows has n levels, or none if there is nothing
abbrev Counts : Start → ℕ → Type 0
Counts Nothing n = n ≤ 0
Counts Brace n = Unit {0}
Counts Dots n = Unit {0}
Counts Other n = Unit {0}

counts-some : (b : Bool) (n : ℕ) → Counts (cond b Dots Other) n
counts-some true n = tt
counts-some false n = tt

counts-rest : (rest : Body) (s : Start) (n : ℕ) → Counts s n → Counts (start_of rest s) (levels_body rest n)
counts-rest End s n z = z
counts-rest (Then e rest) s n z = counts-some (is_dots e) _

joined-deep : (forall_walks statement : Bool) (f : Plain) (s : Start) (g : Plain) (n : ℕ) → n ≤ suc (depth g) → Counts s n
    → suc n ≤ suc (depth (joined forall_walks statement f s g))
joined-deep forall_walks statement f Nothing g n h z = omega (arith, z)
joined-deep forall_walks true f Dots g n h z = omega (arith, h)
joined-deep true false f Dots g n h z = omega (arith, h)
joined-deep false false f Dots g n h z = omega (arith, h)
joined-deep forall_walks statement f Brace g n h z = omega (arith, h)
joined-deep forall_walks statement f Other g n h z = omega (arith, h)

past-step : (x g n : ℕ) → n ≤ suc g → suc n ≤ suc (1 + max x (1 + g))
past-step x g n h = omega (arith, h)

until-step : (n g t u : ℕ) → n ≤ suc g → g ≤ t → suc t ≤ u → suc n ≤ suc u
until-step n g t u h k l = omega (arith, h, k, l)

first-step : (n a b c : ℕ) → n ≤ suc a → a ≤ b → b ≤ c → n ≤ suc c
first-step n a b c h k l = omega (arith, h, k, l)

mutual
  pub seq-deep : (m : Setting) (before : Option Element) (b : Body) (k : Follow) (w s t : List Var) (n : ℕ)
      → ((u : List Var) → n ≤ suc (depth (k.at u))) → Counts k.start n
      → levels_body b n ≤ suc (depth (seq m before b k w s t))
  seq-deep m before End k w s t n g z = g t
  seq-deep m before (Then e rest) k w s t n g z =
      let here = filter (at_suffix m.reading e rest) w in
      let inside = filter (λ x. not (at_suffix m.reading e rest x)) w in
      let later = filter (λ x. not (occurs_element m.reading e x)) inside in
      let next : Follow = record { start = start_of rest k.start; at = λ u. seq m (Some e) rest k later (s ++ here) u } in
      let f = elem m before (first_of rest) e next (filter (occurs_element m.reading e) inside) (s ++ here) (t ++ here) in
      exists-deep here f (levels_element e (levels_body rest n))
      (elem-deep m before (first_of rest) e next (filter (occurs_element m.reading e) inside) (s ++ here) (t ++ here) (levels_body rest n)
      (λ u. seq-deep m (Some e) rest k later (s ++ here) u n g z) (counts-rest rest k.start n z))

  elem-deep : (m : Setting) (before after : Option Element) (e : Element) (k : Follow) (w s t : List Var) (n : ℕ)
      → ((u : List Var) → n ≤ suc (depth (k.at u))) → Counts k.start n
      → levels_element e n ≤ suc (depth (elem m before after e k w s t))
  elem-deep m before after (bodies.Atom p) k w s t n g z =
      joined-deep m.forall_walks (m.reading.is_statement p) (own m w p (Atom p)) k.start (k.at s) n (g s) z
  elem-deep m before after (Compound h bs tail) k w s t n g z =
      past-step (depth (with_tail m w tail (and_all (own m w h (Atom h)) (in_branches 0 (each m bs nothing w s))))) (depth (k.at s)) n (g s)
  elem-deep m before after (Block o b c) k w s t n g z =
      let v = hidden m o in
      let inside = seq (within m v) None b (closing m w c v) (filter (occurs_body m.reading b) w) s s in
      past-step (depth (Exists v (And (own m w o (BraceOpen o v)) (InBranch 0 inside)))) (depth (k.at s)) n (g s)
  elem-deep m before after (Gap ws any strict) k w s t n g z =
      let d = condition any (stays m.around ++ when_parts m ws s) (ends_of_option m true before t) (ends_of_option m false after s) in
      let to = target m.around k.start (k.at s) in
      until-step n (depth (k.at s)) (depth to) (depth (until m.forall_walks strict d to)) (g s)
      (target-deep m.around k.start (k.at s)) (until-deep m.forall_walks strict d to)
  elem-deep m before after (Nest plus b ws any strict) k w s t n g z =
      let d = condition any (stays m.around ++ when_parts m ws s) (ends_of_option m true before t) (ends_of_option m false after s) in
      let part = seq m None b nothing (filter (occurs_body m.reading b) w) s s in
      let to = target m.around k.start (k.at s) in
      until-step n (depth (k.at s)) (depth to) (depth (nested m.forall_walks plus strict d part to)) (g s) (target-deep m.around k.start (k.at s))
      (nested-deep m.forall_walks plus strict d part to)
  elem-deep m before after (AnyOf bs) k w s t n g z = choice-deep m bs k w s n g z
  elem-deep m before after (AllOf bs) k w s t n g z = every-deep m bs k w s n g z

  choice-deep : (m : Setting) (bs : Bodies) (k : Follow) (w s : List Var) (n : ℕ) → ((u : List Var) → n ≤ suc (depth (k.at u))) → Counts k.start n
      → levels_choice bs n ≤ suc (depth (any_of (choices [] (each m bs k w s) (each m bs nothing w s))))
  choice-deep m NoMore k w s n g z = one-level _
  choice-deep m (More b bs) k w s n g z =
      let f = seq m None b k (filter (occurs_body m.reading b) w) s s in
      let not_first = Not (seq m None b nothing (filter (occurs_body m.reading b) w) s s) in
      let more = choices (not_first ∷ []) (each m bs k w s) (each m bs nothing w s) in
      first-step (levels_body b n) (depth f) (depth f) (depth (or_all f more))
      (seq-deep m None b k (filter (occurs_body m.reading b) w) s s n g z) (none-more (depth f)) (or-deep f more)

  every-deep : (m : Setting) (bs : Bodies) (k : Follow) (w s : List Var) (n : ℕ) → ((u : List Var) → n ≤ suc (depth (k.at u))) → Counts k.start n
      → levels_every bs n ≤ suc (depth (first_and m bs k w s))
  every-deep m NoMore k w s n g z = g s
  every-deep m (More b bs) k w s n g z =
      let f = seq m None b k (filter (occurs_body m.reading b) w) s s in
      first-step (levels_body b n) (depth f) (depth f) (depth (and_all f (each m bs nothing w s)))
      (seq-deep m None b k (filter (occurs_body m.reading b) w) s s n g z) (none-more (depth f)) (and-deep f (each m bs nothing w s))

over-around : (f : Plain) → 4000 < depth f → fits f ≡ false
over-around f h = ap (λ z. nat_le (size f) most_parts && z) (lt-leb (depth f) 4000 h) ∙ and-false (nat_le (size f) most_parts)

far-step : (n x z : ℕ) → n ≤ x → 4001 < n → x ≤ suc z → 4000 < z
far-step n x z p q r = omega (arith, p, q, r)

-- a body that implies too many levels has a formula that is too large
pub too-deep : (r : Rule) (n : ℕ) → n ≤ levels_body (body r.body) 0 → 4001 < n → fits (rules.formula_of r) ≡ false
too-deep r n h l =
    let b = body r.body in
    let m = setting (rules.reading r) (rules.ranges_over_all r.mode) (rules.locals r) b in
    let w = filter (λ x. not (is_alone (rules.reading r) b x)) (rules.locals r) in
    over-around (rules.formula_of r)
    (far-step n (levels_body b 0) (depth (rules.formula_of r)) h l
    (seq-deep m None b nothing w [] [] 0 (λ u. none-least _) (none-least 0)))

mutual
  pub more-element : (e : Element) (n k : ℕ) → n ≤ k → levels_element e n ≤ levels_element e k
  more-element (bodies.Atom p) n k h = omega (arith, h)
  more-element (Compound p bs t) n k h = omega (arith, h)
  more-element (Block o b c) n k h = omega (arith, h)
  more-element (Gap ws any strict) n k h = omega (arith, h)
  more-element (Nest plus b ws any strict) n k h = omega (arith, h)
  more-element (AnyOf bs) n k h = more-choice bs n k h
  more-element (AllOf bs) n k h = more-every bs n k h

  pub more-body : (b : Body) (n k : ℕ) → n ≤ k → levels_body b n ≤ levels_body b k
  more-body End n k h = h
  more-body (Then e rest) n k h = more-element e (levels_body rest n) (levels_body rest k) (more-body rest n k h)

  more-choice : (bs : Bodies) (n k : ℕ) → n ≤ k → levels_choice bs n ≤ levels_choice bs k
  more-choice NoMore n k h = none-more 1
  more-choice (More b bs) n k h = more-body b n k h

  more-every : (bs : Bodies) (n k : ℕ) → n ≤ k → levels_every bs n ≤ levels_every bs k
  more-every NoMore n k h = h
  more-every (More b bs) n k h = more-body b n k h

least-through : (a b c : ℕ) → a ≤ b → b ≤ c → a ≤ c
least-through a b c h k = omega (arith, h, k)

-- one element more, in front
pub levels-more : (es : List Elem) (e : Elem) (i after levels next : ℕ) → i < length es → e ≡ get_or es i e
    → levels ≤ levels_body (body (drop (i + 1) es)) after → next ≤ levels_element (element e) levels → next ≤ levels_body (body (drop i es)) after
levels-more es e i after levels next l q h k =
    let P : List Elem → Type 0 = λ z. next ≤ levels_body (body z) after in
    subst P (sym (drop-here es i e l q))
    (least-through next (levels_element (element e) levels) (levels_element (element e) (levels_body (body (drop (i + 1) es)) after)) k
    (more-element (element e) levels (levels_body (body (drop (i + 1) es)) after) h))
