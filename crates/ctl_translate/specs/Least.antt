-- A lower bound for the number of subformulas of a body's formula, computed from its elements alone: enough to detect
-- formulas that are far too large before any of them is made.
use Rattle.std.specs.Prelude.{ℕ, ◌+◌, ◌*◌}
use Rattle.smpl_patch.specs.Bodies.{Element, Atom, Compound, Block, Gap, Nest, AnyOf, AllOf, Body, End, Then, Bodies, NoMore, More}
use Rattle.smpl_patch.specs.Shapes.{count}

-- a part of a body that has at least `fixed + times * n` subformulas if what follows it has n
pub record Least : Type 0 where
  pub fixed : ℕ
  pub times : ℕ

-- one part followed by another
abbrev pub then_least : Least → Least → Least
then_least e r = record { fixed = e.fixed + e.times * r.fixed; times = e.times * r.times }

abbrev mutual
  pub least_element : Element → Least
  least_element (Atom p) = record { fixed = 1; times = 1 }
  least_element (Compound h bs t) = record { fixed = 1 + least_alone bs; times = 1 }
  least_element (Block o b c) = record { fixed = 1 + (least_body b).fixed; times = 1 }
  least_element (Gap ws any strict) = record { fixed = 1 + least_alone ws; times = 1 }
  least_element (Nest plus b ws any strict) = record { fixed = 1 + ((least_body b).fixed + least_alone ws); times = 1 }
  least_element (AnyOf bs) = least_choices bs
  least_element (AllOf bs) = least_first bs

  pub least_body : Body → Least
  least_body End = record { fixed = 0; times = 1 }
  least_body (Then e rest) = then_least (least_element e) (least_body rest)

  -- bodies that nothing follows
  pub least_alone : Bodies → ℕ
  least_alone NoMore = 0
  least_alone (More b bs) = (least_body b).fixed + least_alone bs

  -- branches each of which is followed, and each of which is excluded alone at all later ones
  pub least_choices : Bodies → Least
  least_choices NoMore = record { fixed = 0; times = 0 }
  least_choices (More b bs) = record {
    fixed = (least_body b).fixed + count bs * (2 + (least_body b).fixed) + (least_choices bs).fixed;
    times = (least_body b).times + (least_choices bs).times;
  }

  -- the first branch is followed, and the others are alone
  pub least_first : Bodies → Least
  least_first NoMore = record { fixed = 0; times = 1 }
  least_first (More b bs) = record { fixed = (least_body b).fixed + least_alone bs; times = (least_body b).times }
