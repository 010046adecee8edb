-- Where a variable of a rule is quantified: at the smallest part of the body that holds all its occurrences. The parts
-- are the body's atoms, its branches, bodies and nests, and the suffixes of its sequences. Braces and tails are atoms.
use Rattle.std.specs.Prelude.{ℕ, ◌+◌, Bool, true, false, not, ◌&&◌, ◌||◌, cond, nat_le, Option, None, Some}
use Rattle.smpl_terms.specs.declared.var.Var.{Var}
use Rattle.smpl_patch.specs.declared.pattern.Pattern.{Pattern}
use Rattle.smpl_patch.specs.Bodies.{Element, Atom, Compound, Block, Gap, Nest, AnyOf, AllOf, Body, End, Then, Bodies, NoMore, More}

-- what a pattern says: whether a variable appears in it, whether it appears in it or in plus code that is anchored there,
-- and whether the pattern is a statement variable
pub record Reading : Type 0 where
  pub stands : Pattern → Var → Bool
  pub used : Pattern → Var → Bool
  pub is_statement : Pattern → Bool

abbrev pub is_dots : Element → Bool
is_dots (Gap ws any strict) = true
is_dots (Nest plus b ws any strict) = true
is_dots _ = false

abbrev pub is_choice : Element → Bool
is_choice (AnyOf bs) = true
is_choice (AllOf bs) = true
is_choice _ = false

abbrev pub any_option : (Pattern → Bool) → Option Pattern → Bool
any_option test None = false
any_option test (Some p) = test p

-- some pattern passes the test; those of `when` code count if the flag is true
abbrev mutual
  pub any_element : Bool → (Pattern → Bool) → Element → Bool
  any_element whens test (Atom p) = test p
  any_element whens test (Compound h bs t) = test h || any_bodies whens test bs || any_option test t
  any_element whens test (Block o b c) = test o || any_body whens test b || test c
  any_element whens test (Gap ws any strict) = whens && any_bodies whens test ws
  any_element whens test (Nest plus b ws any strict) = any_body whens test b || (whens && any_bodies whens test ws)
  any_element whens test (AnyOf bs) = any_bodies whens test bs
  any_element whens test (AllOf bs) = any_bodies whens test bs

  pub any_body : Bool → (Pattern → Bool) → Body → Bool
  any_body whens test End = false
  any_body whens test (Then e rest) = any_element whens test e || any_body whens test rest

  pub any_bodies : Bool → (Pattern → Bool) → Bodies → Bool
  any_bodies whens test NoMore = false
  any_bodies whens test (More b bs) = any_body whens test b || any_bodies whens test bs

abbrev pub one : Bool → ℕ
one b = cond b 1 0

module _ (r : Reading) where
  -- x appears in a piece of `when` code
  abbrev pub in_whens : Bodies → Var → Bool
  in_whens ws x = any_bodies true (λ p. r.stands p x) ws

  -- x occurs in the part: in a pattern, in `when` code, or in plus code that is anchored there
  abbrev pub occurs_element : Element → Var → Bool
  occurs_element e x = any_element false (λ p. r.used p x) e || any_element true (λ p. r.stands p x) e

  abbrev pub occurs_body : Body → Var → Bool
  occurs_body b x = any_body false (λ p. r.used p x) b || any_body true (λ p. r.stands p x) b

  abbrev pub bodies_with : Bodies → Var → ℕ
  bodies_with NoMore x = 0
  bodies_with (More b bs) x = one (occurs_body b x) + bodies_with bs x

  -- for an x that occurs in the element: one part inside it holds all those occurrences
  abbrev pub is_inside : Element → Var → Bool
  is_inside (Atom p) x = true
  is_inside (Compound h bs t) x = nat_le (one (r.used h x) + bodies_with bs x + one (any_option (λ p. r.used p x) t)) 1
  is_inside (Block o b c) x = nat_le (one (r.used o x) + one (occurs_body b x) + one (r.used c x)) 1
  -- `when` code counts at the suffix that begins with its dots
  is_inside (Gap ws any strict) x = false
  is_inside (Nest plus b ws any strict) x = not (in_whens ws x)
  is_inside (AnyOf bs) x = nat_le (bodies_with bs x) 1
  is_inside (AllOf bs) x = nat_le (bodies_with bs x) 1

  -- a variable of the element directly after dots also counts at the dots, if it occurs again after that element, and the
  -- element is neither a disjunction nor a conjunction
  abbrev pub after_dots : Element → Body → Var → Bool
  after_dots e End x = false
  after_dots e (Then n more) x =
      is_dots e && not (is_choice n) && any_element false (λ p. r.stands p x) n && occurs_body more x

  -- for an x all of whose occurrences are in the suffix `Then e rest`: no smaller part holds them all
  abbrev pub at_suffix : Element → Body → Var → Bool
  at_suffix e rest x =
      cond (occurs_element e x) (not (is_inside e x) || occurs_body rest x) (after_dots e rest x)

  -- x occurs only in `when` code, if it occurs in the body at all
  abbrev pub is_alone : Body → Var → Bool
  is_alone b x = not (any_body false (λ p. r.used p x) b)
