-- The blocks of a body, in the order of their hidden variables.
use Rattle.std.specs.Prelude.{ℕ, suc, cond, eqb, List, [], ◌∷◌, ◌++◌}
use Rattle.smpl_patch.specs.Bodies.{Element, Atom, Compound, Block, Gap, Nest, AnyOf, AllOf, Body, End, Then, Bodies, NoMore, More}

-- the atoms of the opening braces of blocks, except those in `when` code
abbrev mutual
  pub opens_element : Element → List ℕ
  opens_element (Atom p) = []
  opens_element (Compound h bs t) = opens_bodies bs
  opens_element (Block o b c) = o.atom ∷ opens_body b
  opens_element (Gap ws any strict) = []
  opens_element (Nest plus b ws any strict) = opens_body b
  opens_element (AnyOf bs) = opens_bodies bs
  opens_element (AllOf bs) = opens_bodies bs

  pub opens_body : Body → List ℕ
  opens_body End = []
  opens_body (Then e rest) = opens_element e ++ opens_body rest

  pub opens_bodies : Bodies → List ℕ
  opens_bodies NoMore = []
  opens_bodies (More b bs) = opens_body b ++ opens_bodies bs

-- those in `when` code; those in a piece's own `when` code come directly after the piece
abbrev mutual
  pub later_element : Element → List ℕ
  later_element (Atom p) = []
  later_element (Compound h bs t) = later_bodies bs
  later_element (Block o b c) = later_body b
  later_element (Gap ws any strict) = pieces ws
  later_element (Nest plus b ws any strict) = later_body b ++ pieces ws
  later_element (AnyOf bs) = later_bodies bs
  later_element (AllOf bs) = later_bodies bs

  pub later_body : Body → List ℕ
  later_body End = []
  later_body (Then e rest) = later_element e ++ later_body rest

  pub later_bodies : Bodies → List ℕ
  later_bodies NoMore = []
  later_bodies (More b bs) = later_body b ++ later_bodies bs

  pub pieces : Bodies → List ℕ
  pieces NoMore = []
  pieces (More w ws) = (opens_body w ++ later_body w) ++ pieces ws

-- the blocks of a body in the order of their hidden variables
abbrev pub blocks : Body → List ℕ
blocks b = opens_body b ++ later_body b

-- the place of a number in a list
abbrev pub index_of : ℕ → List ℕ → ℕ
index_of n [] = 0
index_of n (m ∷ ms) = cond (eqb m n) 0 (suc (index_of n ms))
