-- The weight of a body, by which a recursion over it decreases.
use Rattle.std.proofs.Common.{◌≡◌, ℕ, zero, suc, ◌+◌, ◌<◌, ◌≤◌, arith, ap, List, [], ◌∷◌, length, take, drop, get_or, ◌-◌}
use Rattle.smpl_patch.specs.declared.elem.Elem.{Elem}
use Rattle.smpl_patch.specs.Bodies.{Element, Atom, Compound, Block, Gap, Nest, AnyOf, AllOf, Body, End, Then, Bodies, NoMore, More, element, body}
use Rattle.smpl_patch.proofs.BodyLemmas.{bodies}

abbrev mutual
  pub weight_element : Element → ℕ
  weight_element (Atom p) = 5
  weight_element (Compound h bs t) = 5 + weight_bodies bs
  weight_element (Block o b c) = 5 + weight_body b
  weight_element (Gap ws any strict) = 5 + weight_bodies ws
  weight_element (Nest plus b ws any strict) = 5 + weight_body b + weight_bodies ws
  weight_element (AnyOf bs) = 5 + weight_bodies bs
  weight_element (AllOf bs) = 5 + weight_bodies bs

  pub weight_body : Body → ℕ
  weight_body End = 1
  weight_body (Then e rest) = 2 + weight_element e + weight_body rest

  pub weight_bodies : Bodies → ℕ
  weight_bodies NoMore = 1
  weight_bodies (More b bs) = 2 + weight_body b + weight_bodies bs

pub one-body : (b : Body) → 1 ≤ weight_body b
one-body End = omega arith
one-body (Then e rest) = omega arith

pub one : (bs : Bodies) → 1 ≤ weight_bodies bs
one NoMore = omega arith
one (More b bs) = omega arith

pub body-at : (es : List Elem) (i : ℕ) (e : Elem) → i < length es → e ≡ get_or es i e → weight_element (element e) + 1 < weight_body (body es)
body-at [] i e h q = absurd (omega (arith, h))
body-at (d ∷ es) zero e h q = let w = ap (λ z. weight_element (element z)) q in omega (arith, w, one-body (body es))
body-at (d ∷ es) (suc i) e h q = let r = body-at es i e (omega (arith, h)) q in omega (arith, r)

pub bodies-at : (bs : List (List Elem)) (i : ℕ) (b : List Elem) → i < length bs → b ≡ get_or bs i b → weight_body (body b) + 2 < weight_bodies (bodies bs)
bodies-at [] i b h q = absurd (omega (arith, h))
bodies-at (c ∷ bs) zero b h q = let w = ap (λ (z : List Elem). weight_body (body z)) q in omega (arith, w, one (bodies bs))
bodies-at (c ∷ bs) (suc i) b h q = let r = bodies-at bs i b (omega (arith, h)) q in omega (arith, r)

-- fewer bodies weigh no more
pub weight-take : (n : ℕ) (bs : List (List Elem)) → weight_bodies (bodies (take n bs)) ≤ weight_bodies (bodies bs)
weight-take zero bs = one (bodies bs)
weight-take (suc n) [] = omega arith
weight-take (suc n) (b ∷ bs) = let r = weight-take n bs in omega (arith, r)

-- neither do the bodies after the first
pub weight-rest : (bs : List (List Elem)) → 1 ≤ length bs → weight_bodies (bodies (take (length bs - 1) (drop 1 bs))) ≤ weight_bodies (bodies bs)
weight-rest [] l = absurd (omega (arith, l))
weight-rest (b ∷ bs) l = let r = weight-take (length (b ∷ bs) - 1) bs in omega (arith, r)

-- the first of some bodies
pub weight-first : (bs : List (List Elem)) (b : List Elem) → 1 ≤ length bs → b ≡ get_or bs 0 b → weight_body (body b) + 2 < weight_bodies (bodies bs)
weight-first bs b l q = bodies-at bs 0 b (omega (arith, l)) q
