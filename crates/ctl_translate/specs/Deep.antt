-- A lower bound for the number of levels of a body's formula, computed from its elements alone: enough to detect bodies
-- that are far too long before any part is made. A formula has one level more than the most subformulas around one of
-- its subformulas.
use Rattle.std.specs.Prelude.{ℕ, suc}
use Rattle.smpl_patch.specs.Bodies.{Element, Atom, Compound, Block, Gap, Nest, AnyOf, AllOf, Body, End, Then, Bodies, NoMore, More}

-- the number is how many levels what follows has: 0 if nothing follows
abbrev mutual
  pub levels_element : Element → ℕ → ℕ
  levels_element (Atom p) n = suc n
  levels_element (Compound h bs t) n = suc n
  levels_element (Block o b c) n = suc n
  levels_element (Gap ws any strict) n = suc n
  levels_element (Nest plus b ws any strict) n = suc n
  levels_element (AnyOf bs) n = levels_choice bs n
  levels_element (AllOf bs) n = levels_every bs n

  pub levels_body : Body → ℕ → ℕ
  levels_body End n = n
  levels_body (Then e rest) n = levels_element e (levels_body rest n)

  -- for a disjunction the first branch counts; one without branches is followed by nothing
  pub levels_choice : Bodies → ℕ → ℕ
  levels_choice NoMore n = 1
  levels_choice (More b bs) n = levels_body b n

  pub levels_every : Bodies → ℕ → ℕ
  levels_every NoMore n = n
  levels_every (More b bs) n = levels_body b n
