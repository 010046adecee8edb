-- The table from bodies to formulas, for dots in blocks.
use Rattle.std.proofs.Common.{◌≡◌, ℕ, Bool, true, false, refl, List, [], ◌∷◌, Some, None}
use Rattle.std.specs.Prelude.{codes}
use Rattle.std.specs.Fmt.{digits}
use Rattle.smpl_terms.specs.declared.var.Var.{Var}
use Rattle.smpl_patch.specs.Bodies.{Block, Gap, Nest, AnyOf, End, Then, Body, NoMore, More}
use Rattle.smpl_patch.specs.Bodies as bodies
use Rattle.ctl_formula.specs.Plain.{Plain, Atom, EarlyExit, BraceOpen, BraceClose, Inside, Outside, Not, And, Or, AX, EX, AU, EU, After, True}
use Rattle.ctl_formula.specs.Plain.{InBranch, Exists}
use Rattle.ctl_table.specs.Table.{formula}
use Rattle.ctl_table.proofs.Examples.{v, p, reads}

-- the hidden variables of the first two blocks
abbrev b0 : Var
b0 = v 0 (123 ∷ codes "0")

abbrev b1 : Var
b1 = v 0 (123 ∷ codes "1")

-- the formula of a body without variables
abbrev plain : Bool → Body → Plain
plain forall_walks b = formula (reads [] [] []) forall_walks [] b

-- a block as a whole body, given its formula inside
abbrev block : Plain → Plain
block f = And (Exists b0 (And (BraceOpen (p 0) b0) (InBranch 0 f))) (After True)

-- `{ a(); ... b(); }`: dots pass only nodes of the block, and what follows them is in it
between_statements : plain false (Then (Block (p 0) (Then (bodies.Atom (p 1)) (Then (Gap NoMore false false)
    (Then (bodies.Atom (p 2)) End))) (p 3)) End)
    ≡ block (And (Atom (p 1)) (EX (EU (And (And (Inside b0) (Not (Atom (p 1)))) (Not (Atom (p 2))))
    (And (Inside b0) (And (Atom (p 2)) (After (BraceClose (p 3) b0)))))))
unfolding digits
between_statements = refl

-- `{ ... a(); ... }`: dots that are followed only by the `}` may end where their way leaves the block; dots that come
-- first have no neighbour before them
before_the_end : plain false (Then (Block (p 0) (Then (Gap NoMore false false) (Then (bodies.Atom (p 1))
    (Then (Gap NoMore false false) End))) (p 2)) End)
    ≡ block (EU (And (Inside b0) (Not (Atom (p 1)))) (And (Inside b0) (And (Atom (p 1))
    (EX (EU (And (Inside b0) (Not (Atom (p 1)))) (Or (BraceClose (p 2) b0) (Outside b0)))))))
unfolding digits
before_the_end = refl

-- the same over all walks
before_the_end_forall : plain true (Then (Block (p 0) (Then (bodies.Atom (p 1)) (Then (Gap NoMore false false) End)) (p 2)) End)
    ≡ block (And (Atom (p 1)) (AX (And
    (AU (And (Inside b0) (Not (Atom (p 1)))) (Or (Or (BraceClose (p 2) b0) (Outside b0)) EarlyExit))
    (EU (And (Inside b0) (Not (Atom (p 1)))) (Or (BraceClose (p 2) b0) (Outside b0))))))
unfolding digits
before_the_end_forall = refl

-- `when any` lets dots pass their neighbours, but not leave the block
any_in_block : plain false (Then (Block (p 0) (Then (bodies.Atom (p 1)) (Then (Gap NoMore true false)
    (Then (bodies.Atom (p 2)) End))) (p 3)) End)
    ≡ block (And (Atom (p 1)) (EX (EU (Inside b0) (And (Inside b0) (And (Atom (p 2)) (After (BraceClose (p 3) b0)))))))
unfolding digits
any_in_block = refl

-- the parts for `when` code come after the block's, and dots in that code are in the block too
when_in_block : plain false (Then (Block (p 0) (Then (bodies.Atom (p 1))
    (Then (Gap (More (Then (bodies.Atom (p 4)) (Then (Gap NoMore false false) (Then (bodies.Atom (p 5)) End))) NoMore) false false)
    (Then (bodies.Atom (p 2)) End))) (p 3)) End)
    ≡ block (And (Atom (p 1)) (EX (EU (And (And (And (Inside b0)
    (Not (And (Atom (p 4)) (EX (EU (And (And (Inside b0) (Not (Atom (p 4)))) (Not (Atom (p 5)))) (And (Inside b0) (Atom (p 5))))))))
    (Not (Atom (p 1)))) (Not (Atom (p 2))))
    (And (Inside b0) (And (Atom (p 2)) (After (BraceClose (p 3) b0)))))))
unfolding digits
when_in_block = refl

-- dots of a branch stay in the block around the branch, even when the branch is excluded alone
branch_in_block : plain false (Then (Block (p 0) (Then (AnyOf (More (Then (bodies.Atom (p 1)) (Then (Gap NoMore false false)
    (Then (bodies.Atom (p 2)) End))) (More (Then (bodies.Atom (p 3)) End) NoMore))) End) (p 4)) End)
    ≡ block (Or (And (Atom (p 1)) (EX (EU (And (And (Inside b0) (Not (Atom (p 1)))) (Not (Atom (p 2))))
    (And (Inside b0) (And (Atom (p 2)) (After (BraceClose (p 4) b0)))))))
    (And (And (Atom (p 3)) (After (BraceClose (p 4) b0)))
    (Not (And (Atom (p 1)) (EX (EU (And (And (Inside b0) (Not (Atom (p 1)))) (Not (Atom (p 2)))) (And (Inside b0) (Atom (p 2)))))))))
unfolding digits
branch_in_block = refl

-- a nest stays in the block too, in both untils of `<+...`
nest_in_block : plain false (Then (Block (p 0) (Then (bodies.Atom (p 1)) (Then (Nest true (Then (bodies.Atom (p 2)) End) NoMore true false)
    (Then (bodies.Atom (p 3)) End))) (p 4)) End)
    ≡ block (And (Atom (p 1)) (EX (And
    (EU (And (Inside b0) (Or (Atom (p 2)) (Not (Atom (p 2))))) (And (Inside b0) (And (Atom (p 3)) (After (BraceClose (p 4) b0)))))
    (EU (Inside b0) (And (And (Inside b0) (Atom (p 2)))
    (EU (Inside b0) (And (Inside b0) (And (Atom (p 3)) (After (BraceClose (p 4) b0))))))))))
unfolding digits
nest_in_block = refl

-- dots of a nested block stay in that block, and those after it stay in the outer one
nested_block : plain false (Then (Block (p 0) (Then (Block (p 1) (Then (bodies.Atom (p 2)) (Then (Gap NoMore false false) End)) (p 3))
    (Then (Gap NoMore false false) (Then (bodies.Atom (p 4)) End))) (p 5)) End)
    ≡ block (And (Exists b1 (And (BraceOpen (p 1) b1) (InBranch 0 (And (Atom (p 2))
    (EX (EU (And (Inside b1) (Not (Atom (p 2)))) (Or (BraceClose (p 3) b1) (Outside b1))))))))
    (After (EU (And (Inside b0) (Not (Atom (p 4)))) (And (Inside b0) (And (Atom (p 4)) (After (BraceClose (p 5) b0)))))))
unfolding digits
nested_block = refl

-- dots after a block that is not nested in another are ordinary dots
after_block : plain false (Then (Block (p 0) (Then (bodies.Atom (p 1)) (Then (Gap NoMore false false) End)) (p 2))
    (Then (Gap NoMore false false) (Then (bodies.Atom (p 3)) End)))
    ≡ And (Exists b0 (And (BraceOpen (p 0) b0) (InBranch 0 (And (Atom (p 1))
    (EX (EU (And (Inside b0) (Not (Atom (p 1)))) (Or (BraceClose (p 2) b0) (Outside b0))))))))
    (After (EU (Not (Atom (p 3))) (Atom (p 3))))
unfolding digits
after_block = refl
