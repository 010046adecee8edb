-- The table from bodies to formulas, on worked rows and at points that could be read in two ways.
use Rattle.std.proofs.Common.{◌≡◌, ℕ, Bool, true, false, refl, List, [], ◌∷◌, Some, None, slice_index_or}
use Rattle.std.specs.Prelude.{codes, eqb}
use Rattle.std.specs.List.{list_any}
use Rattle.std.specs.Fmt.{digits}
use Rattle.smpl_terms.specs.declared.var.Var.{Var}
use Rattle.smpl_patch.specs.declared.pattern.Pattern.{Pattern}
use Rattle.smpl_patch.specs.declared.pattern.Spot.TheVariants as spot
use Rattle.smpl_terms.specs.Vars.{same_var}
use Rattle.smpl_patch.specs.Bodies.{Compound, Block, Gap, Nest, AnyOf, AllOf, End, Then, NoMore, More}
use Rattle.smpl_patch.specs.Bodies as bodies
use Rattle.ctl_formula.specs.Plain.{True, Atom, EarlyExit, BraceOpen, BraceClose, Not, And, Or, AX, EX, AU, EU, After, InBranch, Exists}
use Rattle.pattern_vars.specs.VarPlaces.Placing.{Reading}
use Rattle.ctl_table.specs.Table.{formula}

abbrev pub v : ℕ → List ℕ → Var
v rule name = record { rule = rule; name = name }

-- a pattern is identified by its number alone, and tables say what is read from it
abbrev pub p : ℕ → Pattern
p n = record { atom = n; spot = spot.Whole; forms = [] }

abbrev lists : List (List Var) → Pattern → Var → Bool
lists table p x = list_any (λ y. same_var y x) (slice_index_or table p.atom [])

abbrev pub reads : List (List Var) → List (List Var) → List ℕ → Reading
reads stands used statements = record {
  stands = lists stands;
  used = lists used;
  is_statement = λ p. list_any (λ n. eqb n p.atom) statements;
}

-- dots under `exists` go to some next node, and pass neither neighbour
dots_exists : formula (reads ([] ∷ [] ∷ []) ([] ∷ [] ∷ []) []) false []
    (Then (bodies.Atom (p 0)) (Then (Gap NoMore false false) (Then (bodies.Atom (p 1)) End)))
    ≡ (And (Atom (p 0)) (EX (EU (And (Not (Atom (p 0))) (Not (Atom (p 1)))) (Atom (p 1)))))
unfolding digits
dots_exists = refl

-- under `forall` they go over all walks, a bail ends them, and some walk has to reach their end
dots_forall : formula (reads ([] ∷ [] ∷ []) ([] ∷ [] ∷ []) []) true []
    (Then (bodies.Atom (p 0)) (Then (Gap NoMore false false) (Then (bodies.Atom (p 1)) End)))
    ≡ (And (Atom (p 0)) (AX (And (AU (And (Not (Atom (p 0))) (Not (Atom (p 1)))) (Or (Atom (p 1)) EarlyExit))
    (EU (And (Not (Atom (p 0))) (Not (Atom (p 1)))) (Atom (p 1))))))
unfolding digits
dots_forall = refl

-- `when strict` has no bail
dots_strict : formula (reads ([] ∷ [] ∷ []) ([] ∷ [] ∷ []) []) true []
    (Then (bodies.Atom (p 0)) (Then (Gap NoMore false true) (Then (bodies.Atom (p 1)) End)))
    ≡ (And (Atom (p 0)) (AX (And (AU (And (Not (Atom (p 0))) (Not (Atom (p 1)))) (Atom (p 1))) (EU (And (Not (Atom (p 0))) (Not (Atom (p 1)))) (Atom (p 1))))))
unfolding digits
dots_strict = refl

-- `when any` lets dots pass their neighbours
dots_any : formula (reads ([] ∷ [] ∷ []) ([] ∷ [] ∷ []) []) false []
    (Then (bodies.Atom (p 0)) (Then (Gap NoMore true false) (Then (bodies.Atom (p 1)) End))) ≡ (And (Atom (p 0)) (EX (EU True (Atom (p 1)))))
unfolding digits
dots_any = refl

-- each branch but the first says that no earlier one holds; the earlier ones appear alone, without what follows
first_that_holds : formula (reads (((v 0 (codes "x")) ∷ []) ∷ [] ∷ ((v 0 (codes "x")) ∷ []) ∷ [])
    (((v 0 (codes "x")) ∷ []) ∷ [] ∷ ((v 0 (codes "x")) ∷ []) ∷ []) []) false ((v 0 (codes "x")) ∷ [])
    (Then (AnyOf (More (Then (bodies.Atom (p 0)) End) (More (Then (bodies.Atom (p 1)) End) NoMore)))
    (Then (bodies.Atom (p 2)) End)) ≡ (Exists (v 0 (codes "x"))
    (Or (And (Atom (p 0)) (After (Atom (p 2)))) (And (And (Atom (p 1)) (After (Atom (p 2)))) (Not (Atom (p 0))))))
unfolding digits
first_that_holds = refl

-- an empty branch holds if what follows does, and dots after it have no neighbour before them
empty_branch : formula (reads ([] ∷ [] ∷ [] ∷ []) ([] ∷ [] ∷ [] ∷ []) []) false []
    (Then (bodies.Atom (p 0)) (Then (AnyOf (More End (More (Then (bodies.Atom (p 1)) End) NoMore)))
    (Then (Gap NoMore false false) (Then (bodies.Atom (p 2)) End))))
    ≡ (And (Atom (p 0)) (After (Or (EU (And (Not (Atom (p 1))) (Not (Atom (p 2)))) (Atom (p 2)))
    (And (And (Atom (p 1)) (EX (EU (And (Not (Atom (p 1))) (Not (Atom (p 2)))) (Atom (p 2))))) (Not True)))))
unfolding digits
empty_branch = refl

-- all branches hold at the node, the first with what follows
all_branches : formula (reads (((v 0 (codes "x")) ∷ []) ∷ [] ∷ [] ∷ []) (((v 0 (codes "x")) ∷ []) ∷ [] ∷ [] ∷ []) []) false
    ((v 0 (codes "x")) ∷ []) (Then (AllOf (More (Then (bodies.Atom (p 0)) End) (More (Then (bodies.Atom (p 1)) End) NoMore)))
    (Then (bodies.Atom (p 2)) End)) ≡ (And (And (Exists (v 0 (codes "x")) (Atom (p 0))) (After (Atom (p 2)))) (Atom (p 1)))
unfolding digits
all_branches = refl

-- x occurs in only one branch: it is quantified there, and again around the copy in the dots of the other branch
quantified_at_branch : formula (reads (((v 0 (codes "x")) ∷ []) ∷ ((v 0 (codes "x")) ∷ []) ∷ [] ∷ [] ∷ [])
    (((v 0 (codes "x")) ∷ []) ∷ ((v 0 (codes "x")) ∷ []) ∷ [] ∷ [] ∷ []) []) false ((v 0 (codes "x")) ∷ [])
    (Then (AnyOf (More (Then (bodies.Atom (p 0)) (Then (bodies.Atom (p 1)) End)) (More (Then (bodies.Atom (p 2)) End) NoMore)))
    (Then (Gap NoMore false false) (Then (bodies.Atom (p 3)) End)))
    ≡ (Or (Exists (v 0 (codes "x")) (And (Atom (p 0))
    (After (And (Atom (p 1)) (EX (EU (And (Not (Or (Atom (p 1)) (Atom (p 2)))) (Not (Atom (p 3)))) (Atom (p 3))))))))
    (And (And (Atom (p 2)) (EX (EU (And (Not (Or (Exists (v 0 (codes "x")) (Atom (p 1))) (Atom (p 2)))) (Not (Atom (p 3))))
    (Atom (p 3))))) (Not (Exists (v 0 (codes "x")) (And (Atom (p 0)) (After (Atom (p 1))))))))
unfolding digits
quantified_at_branch = refl

-- a variable that occurs after dots and elsewhere is quantified before the dots
after_dots : formula (reads ([] ∷ ((v 0 (codes "x")) ∷ []) ∷ [] ∷ ((v 0 (codes "x")) ∷ []) ∷ [])
    ([] ∷ ((v 0 (codes "x")) ∷ []) ∷ [] ∷ ((v 0 (codes "x")) ∷ []) ∷ []) []) false ((v 0 (codes "x")) ∷ [])
    (Then (bodies.Atom (p 0)) (Then (AnyOf (More (Then (bodies.Atom (p 1)) End) (More (Then (bodies.Atom (p 2)) End) NoMore)))
    (Then (Gap NoMore false false) (Then (bodies.Atom (p 3)) End))))
    ≡ (And (Atom (p 0)) (After (Exists (v 0 (codes "x"))
    (Or (And (Atom (p 1)) (EX (EU (And (Not (Or (Atom (p 1)) (Atom (p 2)))) (Not (Atom (p 3)))) (Atom (p 3)))))
    (And (And (Atom (p 2)) (EX (EU (And (Not (Or (Atom (p 1)) (Atom (p 2)))) (Not (Atom (p 3)))) (Atom (p 3))))) (Not (Atom (p 1))))))))
unfolding digits
after_dots = refl

-- a variable that occurs only in `when` code is quantified around its piece
when_alone : formula (reads (((v 0 (codes "x")) ∷ []) ∷ [] ∷ ((v 0 (codes "x")) ∷ (v 0 (codes "y")) ∷ []) ∷ [])
    (((v 0 (codes "x")) ∷ []) ∷ [] ∷ ((v 0 (codes "x")) ∷ (v 0 (codes "y")) ∷ []) ∷ []) []) false
    ((v 0 (codes "x")) ∷ (v 0 (codes "y")) ∷ [])
    (Then (bodies.Atom (p 0)) (Then (Gap (More (Then (bodies.Atom (p 2)) End) NoMore) false false)
    (Then (bodies.Atom (p 1)) End))) ≡ (Exists (v 0 (codes "x"))
    (And (Atom (p 0)) (EX (EU (And (And (Not (Exists (v 0 (codes "y")) (Atom (p 2)))) (Not (Atom (p 0)))) (Not (Atom (p 1)))) (Atom (p 1))))))
unfolding digits
when_alone = refl

-- a nest is dots whose part may hold or not
nest : formula (reads (((v 0 (codes "x")) ∷ []) ∷ ((v 0 (codes "x")) ∷ []) ∷ [] ∷ [])
    (((v 0 (codes "x")) ∷ []) ∷ ((v 0 (codes "x")) ∷ []) ∷ [] ∷ []) []) false ((v 0 (codes "x")) ∷ [])
    (Then (bodies.Atom (p 0)) (Then (Nest false (Then (bodies.Atom (p 1)) End) NoMore false false)
    (Then (bodies.Atom (p 2)) End))) ≡ (Exists (v 0 (codes "x"))
    (And (Atom (p 0)) (EX (EU (And (And (Not (Atom (p 0))) (Not (Atom (p 2)))) (Or (Atom (p 1)) (Not (Atom (p 1))))) (Atom (p 2))))))
unfolding digits
nest = refl

-- and `<+...` reaches its part at least once, under the plain condition
nest_plus : formula (reads (((v 0 (codes "x")) ∷ []) ∷ ((v 0 (codes "x")) ∷ []) ∷ [] ∷ [])
    (((v 0 (codes "x")) ∷ []) ∷ ((v 0 (codes "x")) ∷ []) ∷ [] ∷ []) []) false ((v 0 (codes "x")) ∷ [])
    (Then (bodies.Atom (p 0)) (Then (Nest true (Then (bodies.Atom (p 1)) End) NoMore false false)
    (Then (bodies.Atom (p 2)) End))) ≡ (Exists (v 0 (codes "x"))
    (And (Atom (p 0)) (EX (And (EU (And (And (Not (Atom (p 0))) (Not (Atom (p 2)))) (Or (Atom (p 1)) (Not (Atom (p 1)))))
    (Atom (p 2))) (EU (And (Not (Atom (p 0))) (Not (Atom (p 2))))
    (And (And (And (Not (Atom (p 0))) (Not (Atom (p 2)))) (Atom (p 1))) (EU (And (Not (Atom (p 0))) (Not (Atom (p 2)))) (Atom (p 2)))))))))
unfolding digits
nest_plus = refl

-- the tail of `do` is branch 1
loop_with_tail : formula (reads ([] ∷ [] ∷ ((v 0 (codes "x")) ∷ []) ∷ [] ∷ ((v 0 (codes "x")) ∷ []) ∷ [])
    ([] ∷ [] ∷ ((v 0 (codes "x")) ∷ []) ∷ [] ∷ ((v 0 (codes "x")) ∷ []) ∷ []) []) false ((v 0 (codes "x")) ∷ [])
    (Then (Compound (p 0) (More (Then (Block (p 1) (Then (bodies.Atom (p 2)) End) (p 3)) End) NoMore) (Some (p 4))) End)
    ≡ (Exists (v 0 (codes "x")) (And (And
    (And (Atom (p 0)) (InBranch 0 (And (Exists (v 0 (123 ∷ codes "0"))
    (And (BraceOpen (p 1) (v 0 (123 ∷ codes "0")))
    (InBranch 0 (And (Atom (p 2)) (After (BraceClose (p 3) (v 0 (123 ∷ codes "0")))))))) (After True)))) (InBranch 1 (Atom (p 4)))) (After True)))
unfolding digits
loop_with_tail = refl

-- blocks of `when` code come after those of the body
blocks_in_order : formula (reads (((v 0 (codes "x")) ∷ []) ∷ [] ∷ [] ∷ [] ∷ ((v 0 (codes "x")) ∷ []) ∷ [] ∷ [] ∷ [] ∷ [] ∷ []
    ∷ [] ∷ []) (((v 0 (codes "x")) ∷ []) ∷ [] ∷ [] ∷ [] ∷ ((v 0 (codes "x")) ∷ []) ∷ [] ∷ [] ∷ [] ∷ [] ∷ [] ∷ [] ∷ []) []) false
    ((v 0 (codes "x")) ∷ []) (Then (Compound (p 0)
    (More (Then (Block (p 1) (Then (bodies.Atom (p 2)) End) (p 3)) End) NoMore) None)
    (Then (Gap (More (Then (Block (p 8) (Then (bodies.Atom (p 9)) End) (p 10)) End) NoMore) false false)
    (Then (Compound (p 4) (More (Then (Block (p 5) (Then (bodies.Atom (p 6)) End) (p 7)) End) NoMore) None) End)))
    ≡ (Exists (v 0 (codes "x")) (And (And (Atom (p 0))
    (InBranch 0 (And (Exists (v 0 (123 ∷ codes "0"))
    (And (BraceOpen (p 1) (v 0 (123 ∷ codes "0")))
    (InBranch 0 (And (Atom (p 2)) (After (BraceClose (p 3) (v 0 (123 ∷ codes "0")))))))) (After True))))
    (After (EU (And (And (Not (And (Exists (v 0 (123 ∷ codes "2"))
    (And (BraceOpen (p 8) (v 0 (123 ∷ codes "2")))
    (InBranch 0 (And (Atom (p 9)) (After (BraceClose (p 10) (v 0 (123 ∷ codes "2")))))))) (After True))) (Not (Atom (p 0))))
    (Not (Atom (p 4)))) (And (And (Atom (p 4))
    (InBranch 0 (And (Exists (v 0 (123 ∷ codes "1"))
    (And (BraceOpen (p 5) (v 0 (123 ∷ codes "1")))
    (InBranch 0 (And (Atom (p 6)) (After (BraceClose (p 7) (v 0 (123 ∷ codes "1")))))))) (After True)))) (After True))))))
unfolding digits
blocks_in_order = refl

-- what follows a statement variable is at the end of its statement, and no condition contains the variable
statement_variable : formula (reads (((v 0 (codes "S")) ∷ []) ∷ [] ∷ []) (((v 0 (codes "S")) ∷ []) ∷ [] ∷ []) (0 ∷ [])) false
    ((v 0 (codes "S")) ∷ []) (Then (bodies.Atom (p 0)) (Then (Gap NoMore false false) (Then (bodies.Atom (p 1)) End)))
    ≡ (And (Exists (v 0 (codes "S")) (Atom (p 0))) (After (EU (Not (Atom (p 1))) (Atom (p 1)))))
unfolding digits
statement_variable = refl

-- a position counts at its brace
position_at_brace : formula (reads ([] ∷ [] ∷ ((v 0 (codes "p")) ∷ []) ∷ []) ([] ∷ [] ∷ ((v 0 (codes "p")) ∷ []) ∷ []) []) false
    ((v 0 (codes "p")) ∷ []) (Then (Block (p 0) (Then (bodies.Atom (p 1)) End) (p 2)) End)
    ≡ (And (Exists (v 0 (123 ∷ codes "0"))
    (And (BraceOpen (p 0) (v 0 (123 ∷ codes "0")))
    (InBranch 0 (And (Atom (p 1)) (After (Exists (v 0 (codes "p")) (BraceClose (p 2) (v 0 (123 ∷ codes "0"))))))))) (After True))
unfolding digits
position_at_brace = refl

-- plus code counts at its anchor
plus_counts : formula (reads (((v 0 (codes "x")) ∷ []) ∷ ((v 0 (codes "y")) ∷ []) ∷ [])
    (((v 0 (codes "x")) ∷ []) ∷ ((v 0 (codes "y")) ∷ (v 0 (codes "x")) ∷ []) ∷ []) []) true
    ((v 0 (codes "x")) ∷ (v 0 (codes "y")) ∷ []) (Then (bodies.Atom (p 0)) (Then (bodies.Atom (p 1)) End))
    ≡ (Exists (v 0 (codes "x")) (And (Atom (p 0)) (After (Exists (v 0 (codes "y")) (Atom (p 1))))))
unfolding digits
plus_counts = refl

-- dots stop before the first atom of each branch after them
choice_after_dots : formula (reads ([] ∷ [] ∷ [] ∷ []) ([] ∷ [] ∷ [] ∷ []) []) false []
    (Then (bodies.Atom (p 0)) (Then (Gap NoMore false false)
    (Then (AnyOf (More (Then (bodies.Atom (p 1)) End) (More (Then (bodies.Atom (p 2)) End) NoMore))) End)))
    ≡ (And (Atom (p 0)) (EX (EU (And (Not (Atom (p 0))) (Not (Or (Atom (p 1)) (Atom (p 2))))) (Or (Atom (p 1)) (And (Atom (p 2)) (Not (Atom (p 1))))))))
unfolding digits
choice_after_dots = refl

-- of branches that all hold, only the first counts for dots
all_after_dots : formula (reads ([] ∷ [] ∷ [] ∷ []) ([] ∷ [] ∷ [] ∷ []) []) false []
    (Then (bodies.Atom (p 0)) (Then (Gap NoMore false false)
    (Then (AllOf (More (Then (bodies.Atom (p 1)) End) (More (Then (bodies.Atom (p 2)) End) NoMore))) End)))
    ≡ (And (Atom (p 0)) (EX (EU (And (Not (Atom (p 0))) (Not (Atom (p 1)))) (And (Atom (p 1)) (Atom (p 2))))))
unfolding digits
all_after_dots = refl

all_before_dots : formula (reads ([] ∷ [] ∷ [] ∷ []) ([] ∷ [] ∷ [] ∷ []) []) false []
    (Then (AllOf (More (Then (bodies.Atom (p 0)) End) (More (Then (bodies.Atom (p 1)) End) NoMore)))
    (Then (Gap NoMore false false) (Then (bodies.Atom (p 2)) End)))
    ≡ (And (And (Atom (p 0)) (EX (EU (And (Not (Atom (p 0))) (Not (Atom (p 2)))) (Atom (p 2))))) (Atom (p 1)))
unfolding digits
all_before_dots = refl

-- a nest under `forall` goes over all walks, which a bail ends
nest_forall : formula (reads ([] ∷ [] ∷ [] ∷ []) ([] ∷ [] ∷ [] ∷ []) []) true []
    (Then (bodies.Atom (p 0)) (Then (Nest false (Then (bodies.Atom (p 1)) End) NoMore false false)
    (Then (bodies.Atom (p 2)) End))) ≡ (And (Atom (p 0))
    (AX (And (AU (And (And (Not (Atom (p 0))) (Not (Atom (p 2)))) (Or (Atom (p 1)) (Not (Atom (p 1)))))
    (Or (Atom (p 2)) EarlyExit)) (EU (And (And (Not (Atom (p 0))) (Not (Atom (p 2)))) (Or (Atom (p 1)) (Not (Atom (p 1))))) (Atom (p 2))))))
unfolding digits
nest_forall = refl

-- with `when strict` nothing ends them, and `<+...` also requires a way past its part
nest_strict : formula (reads ([] ∷ [] ∷ [] ∷ []) ([] ∷ [] ∷ [] ∷ []) []) true []
    (Then (bodies.Atom (p 0)) (Then (Nest true (Then (bodies.Atom (p 1)) End) NoMore true true) (Then (bodies.Atom (p 2)) End)))
    ≡ (And (Atom (p 0)) (AX (And (And (AU (And True (Or (Atom (p 1)) (Not (Atom (p 1))))) (Atom (p 2)))
    (EU (And True (Or (Atom (p 1)) (Not (Atom (p 1))))) (Atom (p 2)))) (EU True (And (And True (Atom (p 1))) (EU True (Atom (p 2))))))))
unfolding digits
nest_strict = refl

-- what follows a block is past its statement, and dots after it have no element to stop before on that side
block_before_dots : formula (reads ([] ∷ [] ∷ [] ∷ [] ∷ []) ([] ∷ [] ∷ [] ∷ [] ∷ []) []) false []
    (Then (Block (p 0) (Then (bodies.Atom (p 1)) End) (p 2)) (Then (Gap NoMore false false) (Then (bodies.Atom (p 3)) End)))
    ≡ (And (Exists (v 0 (123 ∷ codes "0"))
    (And (BraceOpen (p 0) (v 0 (123 ∷ codes "0")))
    (InBranch 0 (And (Atom (p 1)) (After (BraceClose (p 2) (v 0 (123 ∷ codes "0")))))))) (After (EU (Not (Atom (p 3))) (Atom (p 3)))))
unfolding digits
block_before_dots = refl

-- what follows a head with a body is past the statement
compound_before_atom : formula (reads ([] ∷ [] ∷ [] ∷ []) ([] ∷ [] ∷ [] ∷ []) []) false []
    (Then (Compound (p 0) (More (Then (bodies.Atom (p 1)) End) NoMore) None) (Then (bodies.Atom (p 2)) End))
    ≡ (And (And (Atom (p 0)) (InBranch 0 (Atom (p 1)))) (After (Atom (p 2))))
unfolding digits
compound_before_atom = refl

-- variables that are quantified at the same part are in declared order
two_at_one_part : formula (reads (((v 0 (codes "x")) ∷ (v 0 (codes "y")) ∷ []) ∷ ((v 0 (codes "x")) ∷ (v 0 (codes "y")) ∷ [])
    ∷ []) (((v 0 (codes "x")) ∷ (v 0 (codes "y")) ∷ []) ∷ ((v 0 (codes "x")) ∷ (v 0 (codes "y")) ∷ []) ∷ []) []) false
    ((v 0 (codes "y")) ∷ (v 0 (codes "x")) ∷ []) (Then (bodies.Atom (p 0)) (Then (bodies.Atom (p 1)) End))
    ≡ (Exists (v 0 (codes "y")) (Exists (v 0 (codes "x")) (And (Atom (p 0)) (After (Atom (p 1))))))
unfolding digits
two_at_one_part = refl

-- a variable of the element after dots that occurs again later is quantified at the dots
again_after_dots : formula (reads ([] ∷ ((v 0 (codes "x")) ∷ []) ∷ ((v 0 (codes "x")) ∷ []) ∷ [])
    ([] ∷ ((v 0 (codes "x")) ∷ []) ∷ ((v 0 (codes "x")) ∷ []) ∷ []) []) false ((v 0 (codes "x")) ∷ [])
    (Then (bodies.Atom (p 0)) (Then (Gap NoMore false false) (Then (bodies.Atom (p 1)) (Then (bodies.Atom (p 2)) End))))
    ≡ (And (Atom (p 0)) (EX (Exists (v 0 (codes "x")) (EU (And (Not (Atom (p 0))) (Not (Atom (p 1)))) (And (Atom (p 1)) (After (Atom (p 2))))))))
unfolding digits
again_after_dots = refl

-- but not if that element is a disjunction
again_in_choice : formula (reads ([] ∷ ((v 0 (codes "x")) ∷ []) ∷ ((v 0 (codes "x")) ∷ []) ∷ [] ∷ [])
    ([] ∷ ((v 0 (codes "x")) ∷ []) ∷ ((v 0 (codes "x")) ∷ []) ∷ [] ∷ []) []) false ((v 0 (codes "x")) ∷ [])
    (Then (bodies.Atom (p 0)) (Then (Gap NoMore false false)
    (Then (AnyOf (More (Then (bodies.Atom (p 1)) End) (More (Then (bodies.Atom (p 3)) End) NoMore)))
    (Then (bodies.Atom (p 2)) End)))) ≡ (And (Atom (p 0))
    (EX (EU (And (Not (Atom (p 0))) (Not (Or (Exists (v 0 (codes "x")) (Atom (p 1))) (Atom (p 3)))))
    (Exists (v 0 (codes "x")) (Or (And (Atom (p 1)) (After (Atom (p 2)))) (And (And (Atom (p 3)) (After (Atom (p 2)))) (Not (Atom (p 1)))))))))
unfolding digits
again_in_choice = refl

-- nor if it occurs only in that element's plus code
again_in_plus : formula (reads ([] ∷ [] ∷ ((v 0 (codes "x")) ∷ []) ∷ [])
    ([] ∷ ((v 0 (codes "x")) ∷ []) ∷ ((v 0 (codes "x")) ∷ []) ∷ []) []) false ((v 0 (codes "x")) ∷ [])
    (Then (bodies.Atom (p 0)) (Then (Gap NoMore false false) (Then (bodies.Atom (p 1)) (Then (bodies.Atom (p 2)) End))))
    ≡ (And (Atom (p 0)) (EX (EU (And (Not (Atom (p 0))) (Not (Atom (p 1)))) (Exists (v 0 (codes "x")) (And (Atom (p 1)) (After (Atom (p 2))))))))
unfolding digits
again_in_plus = refl

-- a variable that isn't local, such as one that a later rule inherits, is quantified nowhere
not_local : formula (reads (((v 0 (codes "x")) ∷ []) ∷ [] ∷ []) (((v 0 (codes "x")) ∷ []) ∷ [] ∷ []) []) false []
    (Then (bodies.Atom (p 0)) (Then (Gap NoMore false false) (Then (bodies.Atom (p 1)) End)))
    ≡ (And (Atom (p 0)) (EX (EU (And (Not (Atom (p 0))) (Not (Atom (p 1)))) (Atom (p 1)))))
unfolding digits
not_local = refl
