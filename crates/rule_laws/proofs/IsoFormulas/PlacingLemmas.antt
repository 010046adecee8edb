-- Where the variables of a rule are quantified doesn't change when patterns are given forms.
use Rattle.std.proofs.Common.{◌≡◌, ℕ, ◌+◌, Bool, true, false, not, ◌&&◌, ◌||◌, cond, refl, ap, ap₂, ◌∙◌, Option, None, Some, List, [], ◌∷◌, ◌++◌}
use Rattle.std.specs.Prelude.{nat_le}
use Rattle.std.specs.List.{filter}
use Rattle.smpl_terms.specs.declared.var.Var.{Var}
use Rattle.smpl_patch.specs.declared.pattern.PatToken.{PatToken}
use Rattle.smpl_patch.specs.declared.pattern.Pattern.{Pattern}
use Rattle.smpl_patch.specs.declared.rule.Iso.{Iso}
use Rattle.smpl_patch.specs.Bodies.{Element, Atom, Compound, Block, Gap, Nest, AnyOf, AllOf, Body, End, Then, Bodies, NoMore, More}
use Rattle.pattern_vars.specs.VarPlaces.Placing.{Reading, is_dots, is_choice, any_option, any_element, any_body, any_bodies, one}
use Rattle.pattern_vars.specs.VarPlaces.Placing.{in_whens, occurs_element, occurs_body, bodies_with, is_inside, after_dots, at_suffix, is_alone}
use Rattle.ctl_table.specs.Blocks.{opens_element, opens_body, opens_bodies, later_element, later_body, later_bodies, pieces, blocks}
use Rattle.iso_expand.specs.Bodies.{expanded_pattern, expanded_option, expanded_element, expanded_body, expanded_bodies}

pub filter-same : {A : Type 0} (f g : A → Bool) → ((x : A) → f x ≡ g x) → (xs : List A) → filter f xs ≡ filter g xs
filter-same f g e [] = refl
filter-same {A} f g e (x ∷ xs) = ap₂ (λ (b : Bool) (ys : List A). cond b (x ∷ ys) ys) (e x) (filter-same f g e xs)

both : {a b c d : Bool} → a ≡ b → c ≡ d → (a && c) ≡ (b && d)
both e f = ap₂ (λ (x y : Bool). x && y) e f

some : {a b c d : Bool} → a ≡ b → c ≡ d → (a || c) ≡ (b || d)
some e f = ap₂ (λ (x y : Bool). x || y) e f

module _ (isos : List Iso) (tokens : List PatToken) where
  abbrev X : Pattern → Pattern
  X = expanded_pattern isos tokens

  abbrev XE : Element → Element
  XE = expanded_element isos tokens

  abbrev XB : Body → Body
  XB = expanded_body isos tokens

  abbrev XS : Bodies → Bodies
  XS = expanded_bodies isos tokens

  pub dots-same : (e : Element) → is_dots (XE e) ≡ is_dots e
  dots-same (Atom p) = refl
  dots-same (Compound h bs t) = refl
  dots-same (Block o b c) = refl
  dots-same (Gap ws any strict) = refl
  dots-same (Nest plus b ws any strict) = refl
  dots-same (AnyOf bs) = refl
  dots-same (AllOf bs) = refl

  choice-same : (e : Element) → is_choice (XE e) ≡ is_choice e
  choice-same (Atom p) = refl
  choice-same (Compound h bs t) = refl
  choice-same (Block o b c) = refl
  choice-same (Gap ws any strict) = refl
  choice-same (Nest plus b ws any strict) = refl
  choice-same (AnyOf bs) = refl
  choice-same (AllOf bs) = refl

  -- ---- blocks

  mutual
    opens-element : (e : Element) → opens_element (XE e) ≡ opens_element e
    opens-element (Atom p) = refl
    opens-element (Compound h bs t) = opens-bodies bs
    opens-element (Block o b c) = ap (λ (ns : List ℕ). o.atom ∷ ns) (opens-body b)
    opens-element (Gap ws any strict) = refl
    opens-element (Nest plus b ws any strict) = opens-body b
    opens-element (AnyOf bs) = opens-bodies bs
    opens-element (AllOf bs) = opens-bodies bs

    opens-body : (b : Body) → opens_body (XB b) ≡ opens_body b
    opens-body End = refl
    opens-body (Then e rest) = ap₂ (λ (ms ns : List ℕ). ms ++ ns) (opens-element e) (opens-body rest)

    opens-bodies : (bs : Bodies) → opens_bodies (XS bs) ≡ opens_bodies bs
    opens-bodies NoMore = refl
    opens-bodies (More b bs) = ap₂ (λ (ms ns : List ℕ). ms ++ ns) (opens-body b) (opens-bodies bs)

  mutual
    later-element : (e : Element) → later_element (XE e) ≡ later_element e
    later-element (Atom p) = refl
    later-element (Compound h bs t) = later-bodies bs
    later-element (Block o b c) = later-body b
    later-element (Gap ws any strict) = same-pieces ws
    later-element (Nest plus b ws any strict) = ap₂ (λ (ms ns : List ℕ). ms ++ ns) (later-body b) (same-pieces ws)
    later-element (AnyOf bs) = later-bodies bs
    later-element (AllOf bs) = later-bodies bs

    later-body : (b : Body) → later_body (XB b) ≡ later_body b
    later-body End = refl
    later-body (Then e rest) = ap₂ (λ (ms ns : List ℕ). ms ++ ns) (later-element e) (later-body rest)

    later-bodies : (bs : Bodies) → later_bodies (XS bs) ≡ later_bodies bs
    later-bodies NoMore = refl
    later-bodies (More b bs) = ap₂ (λ (ms ns : List ℕ). ms ++ ns) (later-body b) (later-bodies bs)

    same-pieces : (ws : Bodies) → pieces (XS ws) ≡ pieces ws
    same-pieces NoMore = refl
    same-pieces (More w ws) =
        ap₂ (λ (ms ns : List ℕ). ms ++ ns) (ap₂ (λ (ms ns : List ℕ). ms ++ ns) (opens-body w) (later-body w)) (same-pieces ws)

  pub blocks-same : (b : Body) → blocks (XB b) ≡ blocks b
  blocks-same b = ap₂ (λ (ms ns : List ℕ). ms ++ ns) (opens-body b) (later-body b)

  -- ---- tests of patterns

  module _ (test old : Pattern → Bool) (same : (p : Pattern) → test (X p) ≡ old p) where
    any-option : (o : Option Pattern) → any_option test (expanded_option isos tokens o) ≡ any_option old o
    any-option None = refl
    any-option (Some p) = same p

    mutual
      any-element : (whens : Bool) (e : Element) → any_element whens test (XE e) ≡ any_element whens old e
      any-element whens (Atom p) = same p
      any-element whens (Compound h bs t) = some (some (same h) (any-bodies whens bs)) (any-option t)
      any-element whens (Block o b c) = some (some (same o) (any-body whens b)) (same c)
      any-element whens (Gap ws any strict) = ap (λ (z : Bool). whens && z) (any-bodies whens ws)
      any-element whens (Nest plus b ws any strict) = some (any-body whens b) (ap (λ (z : Bool). whens && z) (any-bodies whens ws))
      any-element whens (AnyOf bs) = any-bodies whens bs
      any-element whens (AllOf bs) = any-bodies whens bs

      pub any-body : (whens : Bool) (b : Body) → any_body whens test (XB b) ≡ any_body whens old b
      any-body whens End = refl
      any-body whens (Then e rest) = some (any-element whens e) (any-body whens rest)

      any-bodies : (whens : Bool) (bs : Bodies) → any_bodies whens test (XS bs) ≡ any_bodies whens old bs
      any-bodies whens NoMore = refl
      any-bodies whens (More b bs) = some (any-body whens b) (any-bodies whens bs)

  -- ---- readings

  -- the second reads off a pattern with all forms what the first reads off the pattern
  pub record Agree (r s : Reading) : Type 0 where
    pub stands : (p : Pattern) (x : Var) → s.stands (X p) x ≡ r.stands p x
    pub used : (p : Pattern) (x : Var) → s.used (X p) x ≡ r.used p x
    pub statement : (p : Pattern) → s.is_statement (X p) ≡ r.is_statement p

  module _ (r s : Reading) (agree : Agree r s) where
    stood-option : (o : Option Pattern) (x : Var)
        → any_option (λ p. s.used p x) (expanded_option isos tokens o) ≡ any_option (λ p. r.used p x) o
    stood-option o x = any-option (λ p. s.used p x) (λ p. r.used p x) (λ p. agree.used p x) o

    stood-body : (whens : Bool) (b : Body) (x : Var) → any_body whens (λ p. s.stands p x) (XB b) ≡ any_body whens (λ p. r.stands p x) b
    stood-body whens b x = any-body (λ p. s.stands p x) (λ p. r.stands p x) (λ p. agree.stands p x) whens b

    used-body : (whens : Bool) (b : Body) (x : Var) → any_body whens (λ p. s.used p x) (XB b) ≡ any_body whens (λ p. r.used p x) b
    used-body whens b x = any-body (λ p. s.used p x) (λ p. r.used p x) (λ p. agree.used p x) whens b

    stood-element : (whens : Bool) (e : Element) (x : Var)
        → any_element whens (λ p. s.stands p x) (XE e) ≡ any_element whens (λ p. r.stands p x) e
    stood-element whens e x = any-element (λ p. s.stands p x) (λ p. r.stands p x) (λ p. agree.stands p x) whens e

    used-element : (whens : Bool) (e : Element) (x : Var)
        → any_element whens (λ p. s.used p x) (XE e) ≡ any_element whens (λ p. r.used p x) e
    used-element whens e x = any-element (λ p. s.used p x) (λ p. r.used p x) (λ p. agree.used p x) whens e

    whens-same : (ws : Bodies) (x : Var) → in_whens s (XS ws) x ≡ in_whens r ws x
    whens-same ws x = any-bodies (λ p. s.stands p x) (λ p. r.stands p x) (λ p. agree.stands p x) true ws

    pub occurs-element : (e : Element) (x : Var) → occurs_element s (XE e) x ≡ occurs_element r e x
    occurs-element e x = some (used-element false e x) (stood-element true e x)

    pub occurs-body : (b : Body) (x : Var) → occurs_body s (XB b) x ≡ occurs_body r b x
    occurs-body b x = some (used-body false b x) (stood-body true b x)

    with-same : (bs : Bodies) (x : Var) → bodies_with s (XS bs) x ≡ bodies_with r bs x
    with-same NoMore x = refl
    with-same (More b bs) x = ap₂ (λ (b : Bool) (n : ℕ). one b + n) (occurs-body b x) (with-same bs x)

    inside-same : (e : Element) (x : Var) → is_inside s (XE e) x ≡ is_inside r e x
    inside-same (Atom p) x = refl
    inside-same (Compound h bs t) x =
        ap (λ (n : ℕ). nat_le n 1)
        (ap₂ (λ (m : ℕ) (b : Bool). m + one b) (ap₂ (λ (b : Bool) (n : ℕ). one b + n) (agree.used h x) (with-same bs x)) (stood-option t x))
    inside-same (Block o b c) x =
        ap (λ (n : ℕ). nat_le n 1)
        (ap₂ (λ (m : ℕ) (b : Bool). m + one b) (ap₂ (λ (a b : Bool). one a + one b) (agree.used o x) (occurs-body b x)) (agree.used c x))
    inside-same (Gap ws any strict) x = refl
    inside-same (Nest plus b ws any strict) x = ap not (whens-same ws x)
    inside-same (AnyOf bs) x = ap (λ (n : ℕ). nat_le n 1) (with-same bs x)
    inside-same (AllOf bs) x = ap (λ (n : ℕ). nat_le n 1) (with-same bs x)

    after-same : (e : Element) (b : Body) (x : Var) → after_dots s (XE e) (XB b) x ≡ after_dots r e b x
    after-same e End x = refl
    after-same e (Then n more) x =
        both (both (both (dots-same e) (ap not (choice-same n))) (stood-element false n x)) (occurs-body more x)

    pub suffix-same : (e : Element) (rest : Body) (x : Var) → at_suffix s (XE e) (XB rest) x ≡ at_suffix r e rest x
    suffix-same e rest x =
        ap (λ (b : Bool). cond b (not (is_inside s (XE e) x) || occurs_body s (XB rest) x) (after_dots s (XE e) (XB rest) x)) (occurs-element e x)
        ∙ ap₂ (λ (a b : Bool). cond (occurs_element r e x) a b) (some (ap not (inside-same e x)) (occurs-body rest x)) (after-same e rest x)

    pub alone-same : (b : Body) (x : Var) → is_alone s (XB b) x ≡ is_alone r b x
    alone-same b x = ap not (used-body false b x)

    pub lone-body : (b : Body) (x : Var) → any_body true (λ p. s.stands p x) (XB b) ≡ any_body true (λ p. r.stands p x) b
    lone-body b x = stood-body true b x
