-- The formula of a body has at least as many subformulas as its elements alone imply.
use Rattle.std.proofs.Common.{◌≡◌, ℕ, suc, ◌+◌, ◌*◌, ◌<◌, ◌≤◌, Bool, true, false, not, ◌&&◌, cond, nat_le, ap, List, [], ◌∷◌, ◌++◌, Option, None, Some, arith}
use Rattle.std.proofs.Math.Nat.{mul-le-mul_left}
use Rattle.std.proofs.lemmas.Bool.{lt-leb}
use Rattle.std.proofs.lemmas.Nat.{mul-le}
use Rattle.std.specs.List.{filter}
use Rattle.smpl_terms.specs.declared.var.Var.{Var}
use Rattle.smpl_patch.specs.declared.pattern.Pattern.{Pattern}
use Rattle.smpl_patch.specs.declared.rule.Rule.{Rule}
use Rattle.smpl_patch.specs.Bodies.{Element, Compound, Block, Gap, Nest, AnyOf, AllOf, Body, End, Then, Bodies, NoMore, More, body}
use Rattle.smpl_patch.specs.Bodies as bodies
use Rattle.smpl_patch.specs.Shapes.{count}
use Rattle.ctl_formula.specs.Plain.{Plain, Atom, BraceOpen, Not, And, Or, size, depth, fits, most_around}
use Rattle.pattern_vars.specs.VarPlaces.Placing.{is_dots, is_alone, occurs_element, occurs_body, at_suffix}
use Rattle.ctl_table.specs.Table.{Setting, Follow, Start, Nothing, Brace, Dots, Other, nothing, start_of, first_of, exists_all}
use Rattle.ctl_table.specs.Table.{and_all, or_all, all_of, any_of, nots, hidden, own, ends_of_option, joined, target, stays}
use Rattle.ctl_table.specs.Table.{within, until, nested, condition, lone, closing, with_tail, in_branches, choices, seq, elem}
use Rattle.ctl_table.specs.Table.{each, first_and, when_parts, setting}
use Rattle.ctl_translate.specs.Rules as rules
use Rattle.ctl_translate.specs.Least.{Least, then_least, least_element, least_body, least_alone, least_choices, least_first}

-- the number of subformulas of several formulas together
abbrev pub sizes : List Plain → ℕ
sizes [] = 0
sizes (f ∷ fs) = size f + sizes fs

-- the same, plus one for the connective before each formula
abbrev pub joined_sizes : List Plain → ℕ
joined_sizes [] = 0
joined_sizes (f ∷ fs) = 1 + size f + joined_sizes fs

exists-least : (xs : List Var) (f : Plain) (n : ℕ) → n ≤ size f → n ≤ size (exists_all xs f)
exists-least [] f n h = h
exists-least (x ∷ xs) f n h = let r = exists-least xs f n h in omega (arith, r)

and-sizes : (f : Plain) (gs : List Plain) → size f + joined_sizes gs ≤ size (and_all f gs)
and-sizes f [] = omega arith
and-sizes f (g ∷ gs) = let r = and-sizes (And f g) gs in omega (arith, r)

or-sizes : (f : Plain) (gs : List Plain) → size f + joined_sizes gs ≤ size (or_all f gs)
or-sizes f [] = omega arith
or-sizes f (g ∷ gs) = let r = or-sizes (Or f g) gs in omega (arith, r)

joined-more : (fs : List Plain) → sizes fs ≤ joined_sizes fs
joined-more [] = omega arith
joined-more (f ∷ fs) = let r = joined-more fs in omega (arith, r)

any-sizes : (fs : List Plain) → sizes fs ≤ size (any_of fs)
any-sizes [] = omega arith
any-sizes (f ∷ fs) = let r = or-sizes f fs in let j = joined-more fs in omega (arith, r, j)

all-sizes : (fs : List Plain) → sizes fs ≤ size (all_of fs)
all-sizes [] = omega arith
all-sizes (f ∷ fs) = let r = and-sizes f fs in let j = joined-more fs in omega (arith, r, j)

front-sizes : (fs gs : List Plain) → sizes fs ≤ sizes (fs ++ gs)
front-sizes [] gs = omega arith
front-sizes (f ∷ fs) gs = let r = front-sizes fs gs in omega (arith, r)

one-more : (es : List Plain) (g : Plain) → joined_sizes (es ++ Not g ∷ []) ≡ joined_sizes es + (2 + size g)
one-more [] g = omega arith
one-more (e ∷ es) g = let r = one-more es g in omega (arith, r)

in_branches-sizes : (i : ℕ) (fs : List Plain) → sizes fs ≤ sizes (in_branches i fs)
in_branches-sizes i [] = omega arith
in_branches-sizes i (f ∷ fs) = let r = in_branches-sizes (suc i) fs in omega (arith, r)

target-size : (o : Option Var) (s : Start) (f : Plain) → size f ≤ size (target o s f)
target-size None s f = omega arith
target-size (Some b) Brace f = omega arith
target-size (Some b) Nothing f = omega arith
target-size (Some b) Dots f = omega arith
target-size (Some b) Other f = omega arith

-- the part saying that dots stay in their block removes nothing from the others
firsts-sizes : (o : Option Var) (fs : List Plain) (n : ℕ) → n ≤ sizes fs → n ≤ sizes (stays o ++ fs)
firsts-sizes None fs n h = h
firsts-sizes (Some b) fs n h = omega (arith, h)

until-size : (forall_walks strict : Bool) (d t : Plain) → 1 + size d + size t ≤ size (until forall_walks strict d t)
until-size false strict d t = omega arith
until-size true true d t = omega arith
until-size true false d t = omega arith

nested-size : (forall_walks plus strict : Bool) (d p t : Plain) → 1 + size d + size p + size t ≤ size (nested forall_walks plus strict d p t)
nested-size forall_walks false strict d p t = let r = until-size forall_walks strict (And d (Or p (Not p))) t in omega (arith, r)
nested-size forall_walks true strict d p t = let r = until-size forall_walks strict (And d (Or p (Not p))) t in omega (arith, r)

condition-size : (any : Bool) (whens : List Plain) (before after : Option Plain) → sizes whens ≤ size (condition any whens before after)
condition-size true whens before after =
    let a = all-sizes (whens ++ []) in
    let f = front-sizes whens [] in
    omega (arith, a, f)
condition-size false whens before after =
    let a = all-sizes (whens ++ (nots before ++ nots after)) in
    let f = front-sizes whens (nots before ++ nots after) in
    omega (arith, a, f)

-- what follows has at least n subformulas, or none if there is nothing
abbrev Counts : Start → ℕ → Type 0
Counts Nothing n = n ≤ 0
Counts Brace n = Unit {0}
Counts Dots n = Unit {0}
Counts Other n = Unit {0}

counts-same : (s : Start) (n : ℕ) → Counts s n → Counts s (0 + 1 * n)
counts-same Nothing n z = omega (arith, z)
counts-same Brace n z = tt
counts-same Dots n z = tt
counts-same Other n z = tt

counts-some : (b : Bool) (n : ℕ) → Counts (cond b Dots Other) n
counts-some true n = tt
counts-some false n = tt

counts-rest : (rest : Body) (s : Start) (n : ℕ) → Counts s n → Counts (start_of rest s) ((least_body rest).fixed + (least_body rest).times * n)
counts-rest End s n z = counts-same s n z
counts-rest (Then e rest) s n z = counts-some (is_dots e) _

joined-size : (forall_walks statement : Bool) (f : Plain) (s : Start) (g : Plain) (n : ℕ) → n ≤ size g → Counts s n
    → size f + n ≤ size (joined forall_walks statement f s g)
joined-size forall_walks statement f Nothing g n h z = omega (arith, z)
joined-size forall_walks true f Dots g n h z = omega (arith, h)
joined-size true false f Dots g n h z = omega (arith, h)
joined-size false false f Dots g n h z = omega (arith, h)
joined-size forall_walks statement f Brace g n h z = omega (arith, h)
joined-size forall_walks statement f Other g n h z = omega (arith, h)

-- one part followed by another, with what follows both
regroup : (a b c d n x : ℕ) → a + b * (c + d * n) ≤ x → a + b * c + b * d * n ≤ x
regroup a b c d n x h = omega (arith, h)

-- the part so far, followed by the rest, is at most the whole
pub record IsLeastOf (fixed times : ℕ) (rest all : Least) : Type 0 where
  pub below : fixed + times * rest.fixed ≤ all.fixed
  pub often : times * rest.times ≤ all.times

-- the part so far is one element longer
pub least-more : (e r all : Least) (pf pt ef et nf nt : ℕ) → IsLeastOf pf pt (then_least e r) all → ef ≤ e.fixed → et ≤ e.times
    → nf ≤ pf + pt * ef → nt ≤ pt * et → IsLeastOf nf nt r all
least-more e r all pf pt ef et nf nt h i j k l =
    let p = mul-le-mul_left pt i in
    let q = mul-le nt r.fixed (pt * et) r.fixed l (omega arith) in
    let u = mul-le nt r.times (pt * et) r.times l (omega arith) in
    let v = mul-le (pt * et) r.fixed (pt * e.times) r.fixed (mul-le-mul_left pt j) (omega arith) in
    let w = mul-le (pt * et) r.times (pt * e.times) r.times (mul-le-mul_left pt j) (omega arith) in
    let a = h.below in
    let b = h.often in
    record {
      below = omega (arith, a, p, q, v, k);
      often = omega (arith, b, u, w);
    }

-- a branch and the later ones
branch-step : (c e f lf lt n cf ct sf sa sj sr : ℕ) → lf + lt * n ≤ sf → lf + lt * 0 ≤ sa → sf + e ≤ sj → f ≡ e + (2 + sa)
    → c * f + (cf + ct * n) ≤ sr → suc c * e + (lf + c * (2 + lf) + cf + (lt + ct) * n) ≤ sj + sr
branch-step c e f lf lt n cf ct sf sa sj sr h a j q r =
    let l : 2 + lf ≤ 2 + sa = omega (arith, a) in
    let m = mul-le-mul_left c l in
    let p : c * f ≡ c * (e + (2 + sa)) = ap (λ z. c * z) q in
    omega (arith, h, j, r, m, p)

atom-step : (a n x : ℕ) → 1 ≤ a → a + n ≤ x → 1 + 1 * n ≤ x
atom-step a n x h k = omega (arith, h, k)

compound-step : (i s d j h a t n f : ℕ) → i ≤ s → s ≤ d → d ≤ j → h + j ≤ a → a ≤ t → n ≤ f → 1 + i + 1 * n ≤ 1 + t + (1 + f)
compound-step i s d j h a t n f p q r u v w = omega (arith, p, q, r, u, v, w)

block-step : (x y i o n f : ℕ) → x + y * 0 ≤ i → n ≤ f → 1 + x + 1 * n ≤ 1 + (1 + (1 + o + (1 + i))) + (1 + f)
block-step x y i o n f p q = omega (arith, p, q)

gap-step : (i w c t u n f : ℕ) → i ≤ w → w ≤ c → 1 + c + t ≤ u → f ≤ t → n ≤ f → 1 + i + 1 * n ≤ u
gap-step i w c t u n f p q r v x = omega (arith, p, q, r, v, x)

nest-step : (x y s i w c t u n f : ℕ) → x + y * 0 ≤ s → i ≤ w → w ≤ c → 1 + c + s + t ≤ u → f ≤ t → n ≤ f → 1 + (x + i) + 1 * n ≤ u
nest-step x y s i w c t u n f o p q r v z = omega (arith, o, p, q, r, v, z)

any-step : (c x y z : ℕ) → c * 0 + x ≤ y → y ≤ z → x ≤ z
any-step c x y z p q = omega (arith, p, q)

alone-step : (x y a i r : ℕ) → x + y * 0 ≤ a → i ≤ r → x + i ≤ a + r
alone-step x y a i r p q = omega (arith, p, q)

first-step : (x y n f i r j a : ℕ) → x + y * n ≤ f → i ≤ r → r ≤ j → f + j ≤ a → x + i + y * n ≤ a
first-step x y n f i r j a p q u v = omega (arith, p, q, u, v)

whens-step : (x y a e i r : ℕ) → x + y * 0 ≤ a → a ≤ e → i ≤ r → x + i ≤ 1 + e + r
whens-step x y a e i r p q u = omega (arith, p, q, u)

none-step : (n f : ℕ) → n ≤ f → 0 + 1 * n ≤ f
none-step n f p = omega (arith, p)

far-step : (n x y z : ℕ) → n ≤ x → 100000 < n → x + y * 0 ≤ z → 100000 < z
far-step n x y z p q r = omega (arith, p, q, r)

same-least : (n : ℕ) → n ≤ n
same-least n = omega arith

zero-least : (n : ℕ) → 0 ≤ n
zero-least n = omega arith

module _ (m : Setting) where
  tail-size : (w : List Var) (t : Option Pattern) (f : Plain) → size f ≤ size (with_tail m w t f)
  tail-size w None f = omega arith
  tail-size w (Some p) f = omega arith

mutual
  pub seq-least : (m : Setting) (before : Option Element) (b : Body) (k : Follow) (w s t : List Var) (n : ℕ)
      → ((u : List Var) → n ≤ size (k.at u)) → Counts k.start n
      → (least_body b).fixed + (least_body b).times * n ≤ size (seq m before b k w s t)
  seq-least m before End k w s t n g z = none-step n (size (k.at t)) (g t)
  seq-least m before (Then e rest) k w s t n g z =
      let here = filter (at_suffix m.reading e rest) w in
      let inside = filter (λ x. not (at_suffix m.reading e rest x)) w in
      let later = filter (λ x. not (occurs_element m.reading e x)) inside in
      let next : Follow = record { start = start_of rest k.start; at = λ u. seq m (Some e) rest k later (s ++ here) u } in
      let f = elem m before (first_of rest) e next (filter (occurs_element m.reading e) inside) (s ++ here) (t ++ here) in
      exists-least here f ((least_body (Then e rest)).fixed + (least_body (Then e rest)).times * n)
      (regroup (least_element e).fixed (least_element e).times (least_body rest).fixed (least_body rest).times n (size f)
      (elem-least m before (first_of rest) e next (filter (occurs_element m.reading e) inside) (s ++ here) (t ++ here)
      ((least_body rest).fixed + (least_body rest).times * n)
      (λ u. seq-least m (Some e) rest k later (s ++ here) u n g z) (counts-rest rest k.start n z)))

  elem-least : (m : Setting) (before after : Option Element) (e : Element) (k : Follow) (w s t : List Var) (n : ℕ)
      → ((u : List Var) → n ≤ size (k.at u)) → Counts k.start n
      → (least_element e).fixed + (least_element e).times * n ≤ size (elem m before after e k w s t)
  elem-least m before after (bodies.Atom p) k w s t n g z =
      atom-step (size (own m w p (Atom p))) n (size (elem m before after (bodies.Atom p) k w s t))
      (exists-least (filter (λ x. m.reading.used p x) w) (Atom p) 1 (omega arith))
      (joined-size m.forall_walks (m.reading.is_statement p) (own m w p (Atom p)) k.start (k.at s) n (g s) z)
  elem-least m before after (Compound h bs tail) k w s t n g z =
      let head = own m w h (Atom h) in
      let inside = each m bs nothing w s in
      let f = and_all head (in_branches 0 inside) in
      compound-step (least_alone bs) (sizes inside) (sizes (in_branches 0 inside)) (joined_sizes (in_branches 0 inside))
      (size head) (size f) (size (with_tail m w tail f)) n (size (k.at s))
      (alone-least m bs w s) (in_branches-sizes 0 inside) (joined-more (in_branches 0 inside))
      (and-sizes head (in_branches 0 inside)) (tail-size m w tail f) (g s)
  elem-least m before after (Block o b c) k w s t n g z =
      let v = hidden m o in
      let inside = seq (within m v) None b (closing m w c v) (filter (occurs_body m.reading b) w) s s in
      block-step (least_body b).fixed (least_body b).times (size inside) (size (own m w o (BraceOpen o v))) n (size (k.at s))
      (seq-least (within m v) None b (closing m w c v) (filter (occurs_body m.reading b) w) s s 0 (λ u. zero-least _) tt) (g s)
  elem-least m before after (Gap ws any strict) k w s t n g z =
      let whens = when_parts m ws s in
      let ends_before = ends_of_option m true before t in
      let ends_after = ends_of_option m false after s in
      let firsts = stays m.around ++ whens in
      let d = condition any firsts ends_before ends_after in
      let to = target m.around k.start (k.at s) in
      gap-step (least_alone ws) (sizes firsts) (size d) (size to) (size (until m.forall_walks strict d to)) n (size (k.at s))
      (firsts-sizes m.around whens (least_alone ws) (whens-least m ws s)) (condition-size any firsts ends_before ends_after)
      (until-size m.forall_walks strict d to) (target-size m.around k.start (k.at s)) (g s)
  elem-least m before after (Nest plus b ws any strict) k w s t n g z =
      let whens = when_parts m ws s in
      let ends_before = ends_of_option m true before t in
      let ends_after = ends_of_option m false after s in
      let firsts = stays m.around ++ whens in
      let d = condition any firsts ends_before ends_after in
      let part = seq m None b nothing (filter (occurs_body m.reading b) w) s s in
      let to = target m.around k.start (k.at s) in
      nest-step (least_body b).fixed (least_body b).times (size part) (least_alone ws) (sizes firsts) (size d) (size to)
      (size (nested m.forall_walks plus strict d part to)) n (size (k.at s))
      (seq-least m None b nothing (filter (occurs_body m.reading b) w) s s 0 (λ u. zero-least _) (zero-least 0))
      (firsts-sizes m.around whens (least_alone ws) (whens-least m ws s)) (condition-size any firsts ends_before ends_after)
      (nested-size m.forall_walks plus strict d part to) (target-size m.around k.start (k.at s)) (g s)
  elem-least m before after (AnyOf bs) k w s t n g z =
      let found = choices [] (each m bs k w s) (each m bs nothing w s) in
      any-step (count bs) ((least_choices bs).fixed + (least_choices bs).times * n) (sizes found) (size (any_of found))
      (choices-least m bs [] k w s n g z) (any-sizes found)
  elem-least m before after (AllOf bs) k w s t n g z = first-least m bs k w s n g z

  alone-least : (m : Setting) (bs : Bodies) (w s : List Var) → least_alone bs ≤ sizes (each m bs nothing w s)
  alone-least m NoMore w s = zero-least 0
  alone-least m (More b bs) w s =
      alone-step (least_body b).fixed (least_body b).times
      (size (seq m None b nothing (filter (occurs_body m.reading b) w) s s)) (least_alone bs) (sizes (each m bs nothing w s))
      (seq-least m None b nothing (filter (occurs_body m.reading b) w) s s 0 (λ u. zero-least _) (zero-least 0)) (alone-least m bs w s)

  choices-least : (m : Setting) (bs : Bodies) (earlier : List Plain) (k : Follow) (w s : List Var) (n : ℕ)
      → ((u : List Var) → n ≤ size (k.at u)) → Counts k.start n
      → count bs * joined_sizes earlier + ((least_choices bs).fixed + (least_choices bs).times * n)
      ≤ sizes (choices earlier (each m bs k w s) (each m bs nothing w s))
  choices-least m NoMore earlier k w s n g z = omega arith
  choices-least m (More b bs) earlier k w s n g z =
      let own_vars = filter (occurs_body m.reading b) w in
      let followed = seq m None b k own_vars s s in
      let alone = seq m None b nothing own_vars s s in
      branch-step (count bs) (joined_sizes earlier) (joined_sizes (earlier ++ Not alone ∷ [])) (least_body b).fixed (least_body b).times n
      (least_choices bs).fixed (least_choices bs).times (size followed) (size alone) (size (and_all followed earlier))
      (sizes (choices (earlier ++ Not alone ∷ []) (each m bs k w s) (each m bs nothing w s)))
      (seq-least m None b k own_vars s s n g z)
      (seq-least m None b nothing own_vars s s 0 (λ u. zero-least _) (zero-least 0))
      (and-sizes followed earlier)
      (one-more earlier alone)
      (choices-least m bs (earlier ++ Not alone ∷ []) k w s n g z)

  first-least : (m : Setting) (bs : Bodies) (k : Follow) (w s : List Var) (n : ℕ) → ((u : List Var) → n ≤ size (k.at u)) → Counts k.start n
      → (least_first bs).fixed + (least_first bs).times * n ≤ size (first_and m bs k w s)
  first-least m NoMore k w s n g z = none-step n (size (k.at s)) (g s)
  first-least m (More b bs) k w s n g z =
      let own_vars = filter (occurs_body m.reading b) w in
      let f = seq m None b k own_vars s s in
      let others = each m bs nothing w s in
      first-step (least_body b).fixed (least_body b).times n (size f) (least_alone bs) (sizes others) (joined_sizes others) (size (and_all f others))
      (seq-least m None b k own_vars s s n g z) (alone-least m bs w s) (joined-more others) (and-sizes f others)

  whens-least : (m : Setting) (ws : Bodies) (s : List Var) → least_alone ws ≤ sizes (when_parts m ws s)
  whens-least m NoMore s = zero-least 0
  whens-least m (More b ws) s =
      let alone = lone m b in
      let f = seq m None b nothing [] (s ++ alone) (s ++ alone) in
      whens-step (least_body b).fixed (least_body b).times (size f) (size (exists_all alone f)) (least_alone ws) (sizes (when_parts m ws s))
      (seq-least m None b nothing [] (s ++ alone) (s ++ alone) 0 (λ u. zero-least _) (zero-least 0))
      (exists-least alone f (size f) (same-least (size f))) (whens-least m ws s)

over-limit : (f : Plain) → 100000 < size f → fits f ≡ false
over-limit f h = ap (λ z. z && nat_le (depth f) most_around) (lt-leb (size f) 100000 h)

-- a body that implies too many subformulas has a formula that is too large
pub too-many : (r : Rule) (n : ℕ) → n ≤ (least_body (body r.body)).fixed → 100000 < n → fits (rules.formula_of r) ≡ false
too-many r n h l =
    let b = body r.body in
    let m = setting (rules.reading r) (rules.ranges_over_all r.mode) (rules.locals r) b in
    let w = filter (λ x. not (is_alone (rules.reading r) b x)) (rules.locals r) in
    over-limit (rules.formula_of r)
    (far-step n (least_body b).fixed (least_body b).times (size (rules.formula_of r)) h l
    (seq-least m None b nothing w [] [] 0 (λ u. zero-least _) (zero-least 0)))
