use Rattle.std.proofs.Common.{◌≡◌, ◌++◌, Bool, ℕ, List, drop, map}
use Rattle.c_terms.specs.Trees.{join}
use Rattle.smpl_body.specs.DotsOf.{dots_in}
use Rattle.smpl_body.proofs.dots.+put_dots.Given as goal

abbrev pub invariant-loop-child : goal.invariant-loop-child
invariant-loop-child l =
    l.found ++ join (map (λ (d : Bool → List ℕ). d l.members) (map (dots_in l.listed) (drop l.child-index l.child-items)))
    ≡ l.initial.found ++ dots_in l.listed l.tree l.inside
