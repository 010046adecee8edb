-- Path satisfaction in a small graph, above all where two readings would differ.
--
--       0 head ─► 1 `{` ─► 2 if ─┬─► 3 (a bail) ─► 6 exit ─► 6
--                                ├─► 4 while ─► 4
--                                └─► 5 `}` ─► 6
use Rattle.std.proofs.Common.{◌≡◌, ℕ, Bool, true, false, refl, List, [], ◌∷◌, map, Option, Some, None}
use Rattle.c_types.specs.Tables.{no_types}
use Rattle.cfg_build.specs.declared.cfg_graph.label.NodeKind.{NodeKind}
use Rattle.cfg_build.specs.declared.cfg_graph.label.NodeKind.TheVariants as kind
use Rattle.cfg_build.specs.declared.cfg_graph.label.NodeLabel.{NodeLabel}
use Rattle.cfg_build.specs.CfgGraph.Empty.{no_statements}
use Rattle.cfg_build.specs.CfgGraph.Flow.{Flow}
use Rattle.smpl_terms.specs.declared.var.Var.{Var}
use Rattle.smpl_terms.specs.declared.value.Value.{Value}
use Rattle.smpl_terms.specs.declared.value.Value.TheVariants.{Term, Place}
use Rattle.smpl_terms.specs.Environments.{Environment}
use Rattle.ctl_formula.specs.Plain.{Plain, True, EarlyExit, Inside, Outside, Not, And, Or, AX, EX, AU, EU, After, InBranch}
use Rattle.ctl_fixpoint.specs.CtlHolds.Rounds.{holds}

abbrev label : NodeKind → Bool → NodeLabel
label k bail = record { kind = k; tree = no_statements; path = []; bail = bail; brace = 7 }

abbrev g : Flow
g = record {
  labels = label kind.FunHead false ∷ label kind.OpenBrace false ∷ label kind.Head false ∷ label kind.Simple true
      ∷ label kind.Head false ∷ label kind.CloseBrace false ∷ label kind.ExitNode false ∷ [];
  succ = (1 ∷ []) ∷ (2 ∷ []) ∷ (3 ∷ 4 ∷ 5 ∷ []) ∷ (6 ∷ []) ∷ (4 ∷ []) ∷ (6 ∷ []) ∷ (6 ∷ []) ∷ [];
  past = None ∷ None ∷ Some 5 ∷ None ∷ Some 5 ∷ Some 6 ∷ None ∷ [];
  down = (1 ∷ []) ∷ [] ∷ (3 ∷ 4 ∷ []) ∷ [] ∷ [] ∷ [] ∷ [] ∷ [];
  types = no_types;
}

-- walks of at most, or exactly, m nodes
abbrev at : ℕ → Plain → ℕ → Environment → Bool
at m f s env = holds [] [] g m f s env

-- each variable is the place of the `{`
abbrev env : Environment
env x = Place 7

module _ (b : Var) where
  -- the exit is the only node outside the block that has no body
  abbrev exit : Plain
  exit = And (Outside b) (Not (InBranch 0 True))

  -- some walk leaves the function; a walk that stays in a loop forever does not, so not every walk does
  some_leave : at 8 (EU True exit) 0 env ≡ true
  some_leave = refl

  not_all_leave : at 8 (AU True exit) 0 env ≡ false
  not_all_leave = refl

  all_leave_or_loop : at 8 (AU True (Or exit (Not (EU True exit)))) 0 env ≡ true
  all_leave_or_loop = refl

  -- the end may hold at the first node, whether the way does or not
  end_at_once : at 8 (EU (Not True) exit) 6 env ≡ true
  end_at_once = refl

  end_at_once_on_all : at 8 (AU (Not True) exit) 6 env ≡ true
  end_at_once_on_all = refl

  -- the way need not hold where the end does, and must hold at each earlier node
  way_before : at 8 (EU (Not exit) exit) 3 env ≡ true
  way_before = refl

  way_broken : at 8 (EU (Not EarlyExit) exit) 3 env ≡ false
  way_broken = refl

  -- from node 0 the exit is the fifth node: a bound of four is too small, and one more than the number of nodes is enough
  four_too_few : at 4 (EU True exit) 0 env ≡ false
  four_too_few = refl

  five_enough : at 5 (EU True exit) 0 env ≡ true
  five_enough = refl

  -- once the bound is large, one more node makes no difference, neither for a loop nor for its negation
  loop_not : at 8 (Not (AU True exit)) 4 env ≡ true
  loop_not = refl

  loop_not_longer : at 30 (Not (AU True exit)) 4 env ≡ true
  loop_not_longer = refl

  -- next is not past: past the `if` is the `}`, while next are its branches
  past_is_not_next : at 8 (After (AX exit)) 2 env ≡ true
  past_is_not_next = refl

  next_is_not_past : at 8 (AX (AX exit)) 2 env ≡ false
  next_is_not_past = refl

  -- where there is no such node, neither `After` nor `InBranch` holds for anything
  no_past : at 8 (After True) 3 env ≡ false
  no_past = refl

  no_third_body : at 8 (InBranch 2 True) 2 env ≡ false
  no_third_body = refl

  first_body : at 8 (InBranch 0 EarlyExit) 2 env ≡ true
  first_body = refl

  second_body : at 8 (InBranch 1 EarlyExit) 2 env ≡ false
  second_body = refl

  -- a bail is marked at the node itself; the `}` of a block is not outside it yet
  bail_there : at 8 (And (EX EarlyExit) (Not EarlyExit)) 2 env ≡ true
  bail_there = refl

  exit_there : at 8 exit 5 env ≡ false
  exit_there = refl

-- A block in a block, and which nodes are inside and outside.
--
--       0 head   1 `{` of 7   2 a();   3 `{` of 9   4 b();   5 `}` of 9   6 c();   7 `}` of 7   8 exit
abbrev brace : NodeKind → ℕ → NodeLabel
brace k place = record { kind = k; tree = no_statements; path = []; bail = false; brace = place }

abbrev nested : Flow
nested = record {
  labels = label kind.FunHead false ∷ brace kind.OpenBrace 7 ∷ label kind.Simple false ∷ brace kind.OpenBrace 9
      ∷ label kind.Simple false ∷ brace kind.CloseBrace 9 ∷ label kind.Simple false ∷ brace kind.CloseBrace 7
      ∷ label kind.ExitNode false ∷ [];
  succ = [];
  past = [];
  down = [];
  types = no_types;
}

-- at nodes 0 to 9, of which the last is not in the graph, if each variable has the value
abbrev along : Plain → Value → List Bool
along f v = map (λ s. holds [] [] nested 10 f s (λ x. v)) (0 ∷ 1 ∷ 2 ∷ 3 ∷ 4 ∷ 5 ∷ 6 ∷ 7 ∷ 8 ∷ 9 ∷ [])

module _ (b : Var) where
  -- inside from the `{` up to the `}`, inner blocks and their braces included; the `}` is neither inside nor outside
  outer_inside : along (Inside b) (Place 7)
      ≡ false ∷ true ∷ true ∷ true ∷ true ∷ true ∷ true ∷ false ∷ false ∷ false ∷ []
  outer_inside = refl

  outer_outside : along (Outside b) (Place 7)
      ≡ true ∷ false ∷ false ∷ false ∷ false ∷ false ∷ false ∷ false ∷ true ∷ false ∷ []
  outer_outside = refl

  -- what follows the `}` is outside, even in the outer block
  inner_inside : along (Inside b) (Place 9)
      ≡ false ∷ false ∷ false ∷ true ∷ true ∷ false ∷ false ∷ false ∷ false ∷ false ∷ []
  inner_inside = refl

  inner_outside : along (Outside b) (Place 9)
      ≡ true ∷ true ∷ true ∷ false ∷ false ∷ false ∷ true ∷ true ∷ true ∷ false ∷ []
  inner_outside = refl

  -- every node is outside if the value is not the place of a brace, or not a place
  no_inside : along (Inside b) (Place 8)
      ≡ false ∷ false ∷ false ∷ false ∷ false ∷ false ∷ false ∷ false ∷ false ∷ false ∷ []
  no_inside = refl

  no_outside : along (Outside b) (Place 8)
      ≡ true ∷ true ∷ true ∷ true ∷ true ∷ true ∷ true ∷ true ∷ true ∷ false ∷ []
  no_outside = refl

  term_outside : along (Outside b) (Term no_statements)
      ≡ true ∷ true ∷ true ∷ true ∷ true ∷ true ∷ true ∷ true ∷ true ∷ false ∷ []
  term_outside = refl
