-- What holds for each body of a sound rule: where dots may be, how many branches there are, and which patterns there are.
use Rattle.std.specs.Prelude.{ℕ, suc, Bool, true, false, not, ◌&&◌, nat_le, Option, None, Some, List, [], ◌∷◌, ◌++◌}
use Rattle.smpl_patch.specs.declared.pattern.Pattern.{Pattern}
use Rattle.smpl_patch.specs.Bodies.{Element, Atom, Compound, Block, Gap, Nest, AnyOf, AllOf, Body, End, Then, Bodies, NoMore, More}

-- dots or a nest
abbrev pub is_dots : Element → Bool
is_dots (Gap whens any strict) = true
is_dots (Nest plus b whens any strict) = true
is_dots _ = false

abbrev pub begins_with_dots : Body → Bool
begins_with_dots End = false
begins_with_dots (Then e rest) = is_dots e

abbrev pub ends_with_dots : Body → Bool
ends_with_dots End = false
ends_with_dots (Then e End) = is_dots e
ends_with_dots (Then e (Then f rest)) = ends_with_dots (Then f rest)

-- no two dots or nests are adjacent
abbrev pub are_parted : Body → Bool
are_parted End = true
are_parted (Then e rest) = not (is_dots e && begins_with_dots rest) && are_parted rest

-- neither the first nor the last element is dots or a nest
abbrev pub has_no_dots_at_edge : Body → Bool
has_no_dots_at_edge b = not (begins_with_dots b) && not (ends_with_dots b)

abbrev pub count : Bodies → ℕ
count NoMore = 0
count (More b bs) = suc (count bs)

-- Dots and nests are first or last in a sequence only directly inside a block, and no two of them are adjacent.
-- A disjunction and a conjunction have at least two branches.
abbrev mutual
  pub is_formed : Element → Bool
  is_formed (Atom p) = true
  is_formed (Compound h bs t) = are_formed bs
  is_formed (Block o b c) = are_parted b && each_formed b
  is_formed (Gap whens any strict) = are_formed whens
  is_formed (Nest plus b whens any strict) = (has_no_dots_at_edge b && are_parted b && each_formed b) && are_formed whens
  is_formed (AnyOf bs) = nat_le 2 (count bs) && are_formed bs
  is_formed (AllOf bs) = nat_le 2 (count bs) && are_formed bs

  pub each_formed : Body → Bool
  each_formed End = true
  each_formed (Then e rest) = is_formed e && each_formed rest

  pub are_formed : Bodies → Bool
  are_formed NoMore = true
  are_formed (More b bs) = (has_no_dots_at_edge b && are_parted b && each_formed b) && are_formed bs

abbrev pub is_formed_body : Body → Bool
is_formed_body b = has_no_dots_at_edge b && are_parted b && each_formed b

abbrev pub option_patterns : Option Pattern → List Pattern
option_patterns None = []
option_patterns (Some p) = p ∷ []

-- the patterns, including those of `when` code
abbrev mutual
  pub patterns_element : Element → List Pattern
  patterns_element (Atom p) = p ∷ []
  patterns_element (Compound h bs t) = h ∷ patterns_bodies bs ++ option_patterns t
  patterns_element (Block o b c) = o ∷ patterns_body b ++ c ∷ []
  patterns_element (Gap whens any strict) = patterns_bodies whens
  patterns_element (Nest plus b whens any strict) = patterns_body b ++ patterns_bodies whens
  patterns_element (AnyOf bs) = patterns_bodies bs
  patterns_element (AllOf bs) = patterns_bodies bs

  pub patterns_body : Body → List Pattern
  patterns_body End = []
  patterns_body (Then e rest) = patterns_element e ++ patterns_body rest

  pub patterns_bodies : Bodies → List Pattern
  patterns_bodies NoMore = []
  patterns_bodies (More b bs) = patterns_body b ++ patterns_bodies bs

abbrev pub members : Body → ℕ
members End = 0
members (Then e rest) = suc (members rest)

-- the lengths of the lists in a body: of each sequence, and of each list of sequences
abbrev mutual
  pub lengths_element : Element → List ℕ
  lengths_element (Atom p) = []
  lengths_element (Compound h bs t) = count bs ∷ lengths_bodies bs
  lengths_element (Block o b c) = members b ∷ lengths_body b
  lengths_element (Gap whens any strict) = count whens ∷ lengths_bodies whens
  lengths_element (Nest plus b whens any strict) = members b ∷ lengths_body b ++ count whens ∷ lengths_bodies whens
  lengths_element (AnyOf bs) = count bs ∷ lengths_bodies bs
  lengths_element (AllOf bs) = count bs ∷ lengths_bodies bs

  pub lengths_body : Body → List ℕ
  lengths_body End = []
  lengths_body (Then e rest) = lengths_element e ++ lengths_body rest

  pub lengths_bodies : Bodies → List ℕ
  lengths_bodies NoMore = []
  lengths_bodies (More b bs) = members b ∷ lengths_body b ++ lengths_bodies bs
