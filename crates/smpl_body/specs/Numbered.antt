-- The numbers of the patterns of elements in order, except those of `when` code.
use Rattle.std.specs.Prelude.{ℕ, zero, suc, ◌+◌, List, [], ◌∷◌, ◌++◌, Option, None, Some}
use Rattle.smpl_patch.specs.declared.pattern.Pattern.{Pattern}
use Rattle.smpl_patch.specs.Bodies.{Element, Atom, Compound, Block, Gap, Nest, AnyOf, AllOf, Body, End, Then, Bodies, NoMore, More}

abbrev pub tail_numbers : Option Pattern → List ℕ
tail_numbers None = []
tail_numbers (Some p) = p.atom ∷ []

abbrev mutual
  pub element_numbers : Element → List ℕ
  element_numbers (Atom p) = p.atom ∷ []
  element_numbers (Compound h bs t) = h.atom ∷ each_numbers bs ++ tail_numbers t
  element_numbers (Block o b c) = o.atom ∷ numbers b ++ c.atom ∷ []
  element_numbers (Gap whens any strict) = []
  element_numbers (Nest plus b whens any strict) = numbers b
  element_numbers (AnyOf bs) = each_numbers bs
  element_numbers (AllOf bs) = each_numbers bs

  pub numbers : Body → List ℕ
  numbers End = []
  numbers (Then e rest) = element_numbers e ++ numbers rest

  pub each_numbers : Bodies → List ℕ
  each_numbers NoMore = []
  each_numbers (More b bs) = numbers b ++ each_numbers bs

-- this many numbers, starting from this one
abbrev pub numbers_from : (first count : ℕ) → List ℕ
numbers_from n zero = []
numbers_from n (suc count) = n ∷ numbers_from (n + 1) count
