-- Forests at small graphs. A value is named by its place among the graph's values; a table says where an atom matches and
-- what it touches there.
use Rattle.std.proofs.Common.{◌≡◌, ℕ, zero, suc, ◌+◌, Bool, true, false, not, ◌&&◌, ◌||◌, refl, List, [], ◌∷◌, Option, Some, None, slice_index_or, cond, map}
use Rattle.std.specs.Prelude.{codes, eqb, slice_get}
use Rattle.std.specs.List.{list_any, list_all}
use Rattle.c_types.specs.Tables.{no_types}
use Rattle.cfg_build.specs.declared.cfg_graph.label.NodeKind.{NodeKind}
use Rattle.cfg_build.specs.declared.cfg_graph.label.NodeKind.TheVariants as kind
use Rattle.cfg_build.specs.declared.cfg_graph.label.NodeLabel.{NodeLabel}
use Rattle.cfg_build.specs.CfgGraph.Empty.{no_statements}
use Rattle.cfg_build.specs.CfgGraph.Flow.{Flow, count_of, succ_of, past_of, down_of}
use Rattle.smpl_terms.specs.declared.var.Var.{Var}
use Rattle.smpl_terms.specs.declared.value.Value.{Value}
use Rattle.smpl_terms.specs.declared.value.Value.TheVariants.{Place}
use Rattle.smpl_terms.specs.Values.{same}
use Rattle.smpl_terms.specs.Environments.{Environment, change}
use Rattle.smpl_patch.specs.declared.pattern.Pattern.{Pattern}
use Rattle.smpl_patch.specs.declared.pattern.Spot.TheVariants as spot
use Rattle.smpl_patch.specs.declared.pattern.VarKind.TheVariants as var_kind
use Rattle.smpl_patch.specs.declared.pattern.VarDecl.{VarDecl}
use Rattle.smpl_patch.specs.declared.witness.Witness.TheVariants.{Touch, Bind}
use Rattle.smpl_patch.specs.Wants.{anything}
use Rattle.ctl_formula.specs.Plain.{Plain, True, Atom, EarlyExit, BraceOpen, BraceClose, Inside, Outside, Not, And, Or, AX, EX, AU, EU, After, InBranch, Exists}
use Rattle.ctl_fixpoint.specs.CtlHolds.Holding.{in_block, off_block}
use Rattle.ctl_fixpoint.specs.CtlHolds.Rounds.{passes, passes_there, rounds}
use Rattle.wit_forest.proofs.WitOrder.WitnessLemmas.{order-Touch-Touch, order-Touch-Bind, order-Bind-Bind}
use Rattle.wit_forest.specs.WitTrees.Forest.{World, forest}

abbrev v : ℕ → List ℕ → Var
v rule name = record { rule = rule; name = name }

abbrev p : ℕ → Pattern
p n = record { atom = n; spot = spot.Whole; forms = [] }

abbrev decl : Var → VarDecl
decl x = record { var = x; kind = var_kind.Position; inherited = false; not_names = []; not_places = []; wanted = anything }

abbrev label : NodeKind → ℕ → NodeLabel
label k brace = record { kind = k; tree = no_statements; path = []; bail = false; brace = brace }

-- a node, an atom, the values under which it matches there, and the places that it touches
abbrev Row : Type 0
Row = ℕ × ℕ × List (Var × ℕ) × List (List ℕ)

abbrev fits : Row → ℕ → ℕ → Environment → Bool
fits r s a env = eqb r.0 s && (eqb r.1 a && list_all (λ b. same (Place b.1) (env b.0)) r.2)

abbrev first : List Row → ℕ → ℕ → Environment → List (List ℕ)
first [] s a env = []
first (r ∷ rs) s a env = cond (fits r s a env) r.3 (first rs s a env)

abbrev places : ℕ → ℕ → List Value
places n zero = []
places n (suc k) = Place n ∷ places (suc n) k

-- the places of the blocks that nodes open and close
abbrev labels : List (Option ℕ) → List (Option ℕ) → List NodeLabel
labels (Some id ∷ opens) (_ ∷ closes) = label kind.OpenBrace id ∷ labels opens closes
labels (None ∷ opens) (Some id ∷ closes) = label kind.CloseBrace id ∷ labels opens closes
labels (None ∷ opens) (None ∷ closes) = label kind.Simple 0 ∷ labels opens closes
labels _ _ = []

abbrev is_brace : Option ℕ → Value → Bool
is_brace None x = false
is_brace (Some id) x = same (Place id) x

-- what a table says, and where formulas hold by the table
module _ (g : Flow) (values : List Value) (rows : List Row) (bails : List ℕ) (opens closes : List (Option ℕ)) where
  abbrev matches : Pattern → ℕ → Environment → Bool
  matches q s env = list_any (λ r. fits r s q.atom env) rows

  abbrev holds : Plain → ℕ → Environment → Bool
  holds True s env = true
  holds (Atom q) s env = matches q s env
  holds EarlyExit s env = list_any (λ n. eqb n s) bails
  holds (BraceOpen q b) s env = is_brace (slice_index_or opens s None) (env b) && matches q s env
  holds (BraceClose q b) s env = is_brace (slice_index_or closes s None) (env b) && matches q s env
  holds (Inside b) s env = in_block g (env b) s
  holds (Outside b) s env = off_block g (env b) s
  holds (Not f) s env = not (holds f s env)
  holds (And f h) s env = holds f s env && holds h s env
  holds (Or f h) s env = holds f s env || holds h s env
  holds (AX f) s env = passes true (λ k. holds f k env) (succ_of g s)
  holds (EX f) s env = passes false (λ k. holds f k env) (succ_of g s)
  holds (AU f h) s env = rounds g true (λ k. holds f k env) (λ k. holds h k env) (count_of g + 1) s
  holds (EU f h) s env = rounds g false (λ k. holds f k env) (λ k. holds h k env) (count_of g + 1) s
  holds (After f) s env = passes_there (λ k. holds f k env) (past_of g s)
  holds (InBranch i f) s env = passes_there (λ k. holds f k env) (slice_get (down_of g s) i)
  holds (Exists x f) s env = list_any (λ y. holds f s (change env x y)) values

abbrev world : List (List ℕ) → List (Option ℕ) → List (List ℕ) → ℕ → List Row → List ℕ → List (Option ℕ) → List (Option ℕ) → List Var → World
world succ past down values rows bails opens closes vars =
    let g : Flow = record { labels = labels opens closes; succ = succ; past = past; down = down; types = no_types } in record {
      graph = g;
      values = places 0 values;
      holds = holds g (places 0 values) rows bails opens closes;
      touches = λ q s env. first rows s q.atom env;
      decls = map decl vars;
    }

abbrev start : Environment
start x = Place 1000

-- each call of an expression, by its argument
abbrev w1 : World
w1 = (world ((1 ∷ []) ∷ (2 ∷ []) ∷ (3 ∷ []) ∷ (4 ∷ []) ∷ (4 ∷ []) ∷ []) ((Some 4) ∷ (Some 4) ∷ (Some 3) ∷ (Some 4) ∷ None ∷ [])
    ((1 ∷ []) ∷ (2 ∷ []) ∷ [] ∷ [] ∷ [] ∷ []) 48
    ((2, 0, (((v 0 (codes "E")), 0) ∷ []), ((2 ∷ 1 ∷ 0 ∷ 2 ∷ 0 ∷ []) ∷ []))
    ∷ (2, 0, (((v 0 (codes "E")), 1) ∷ []), ((2 ∷ 1 ∷ 0 ∷ 2 ∷ 2 ∷ []) ∷ [])) ∷ []) []
    (None ∷ (Some 34) ∷ None ∷ None ∷ None ∷ []) (None ∷ None ∷ None ∷ (Some 34) ∷ None ∷ []) ((v 0 (codes "E")) ∷ []))

abbrev f1 : Plain
f1 = (Exists (v 0 (codes "E")) (Atom (p 0)))

forest1_2 : forest w1 f1 2 start ≡ ((Bind 2 (v 0 (codes "E")) (Place 0) ((Touch 2 0 (2 ∷ 1 ∷ 0 ∷ 2 ∷ 0 ∷ [])) ∷ []))
    ∷ ((Bind 2 (v 0 (codes "E")) (Place 1) ((Touch 2 0 (2 ∷ 1 ∷ 0 ∷ 2 ∷ 2 ∷ [])) ∷ [])) ∷ []))
forest1_2 = simp order-Bind-Bind refl

-- the first branch of a disjunction that matches is touched, and no other branch
abbrev w2 : World
w2 = (world ((1 ∷ []) ∷ (2 ∷ []) ∷ (3 ∷ []) ∷ (4 ∷ []) ∷ (4 ∷ []) ∷ []) ((Some 4) ∷ (Some 4) ∷ (Some 3) ∷ (Some 4) ∷ None ∷ [])
    ((1 ∷ []) ∷ (2 ∷ []) ∷ [] ∷ [] ∷ [] ∷ []) 33
    ((2, 0, (((v 0 (codes "x")), 3) ∷ []), ((2 ∷ 1 ∷ []) ∷ [])) ∷ (2, 1, [], ((2 ∷ 1 ∷ []) ∷ [])) ∷ []) []
    (None ∷ (Some 26) ∷ None ∷ None ∷ None ∷ []) (None ∷ None ∷ None ∷ (Some 26) ∷ None ∷ []) ((v 0 (codes "x")) ∷ []))

abbrev f2 : Plain
f2 = (Or (Exists (v 0 (codes "x")) (Atom (p 0))) (And (Atom (p 1)) (Not (Exists (v 0 (codes "x")) (Atom (p 0))))))

forest2_2 : forest w2 f2 2 start ≡ ((Bind 2 (v 0 (codes "x")) (Place 3) ((Touch 2 0 (2 ∷ 1 ∷ [])) ∷ [])) ∷ [])
forest2_2 = refl

-- one value for each branch
abbrev w3 : World
w3 = (world ((1 ∷ []) ∷ (2 ∷ []) ∷ (3 ∷ []) ∷ (4 ∷ 5 ∷ []) ∷ (6 ∷ []) ∷ (6 ∷ []) ∷ (7 ∷ []) ∷ (7 ∷ []) ∷ [])
    ((Some 7) ∷ (Some 7) ∷ (Some 3) ∷ (Some 6) ∷ (Some 6) ∷ (Some 6) ∷ (Some 7) ∷ None ∷ [])
    ((1 ∷ []) ∷ (2 ∷ []) ∷ [] ∷ (4 ∷ 5 ∷ []) ∷ [] ∷ [] ∷ [] ∷ [] ∷ []) 59
    ((2, 0, (((v 0 (codes "l")), 0) ∷ []), ((2 ∷ 1 ∷ []) ∷ [])) ∷ (4, 1, (((v 0 (codes "m")), 0) ∷ []), ((2 ∷ 2 ∷ 4 ∷ []) ∷ []))
    ∷ (5, 1, (((v 0 (codes "m")), 1) ∷ []), ((2 ∷ 2 ∷ 6 ∷ []) ∷ [])) ∷ []) []
    (None ∷ (Some 37) ∷ None ∷ None ∷ None ∷ None ∷ None ∷ None ∷ [])
    (None ∷ None ∷ None ∷ None ∷ None ∷ None ∷ (Some 37) ∷ None ∷ []) ((v 0 (codes "l")) ∷ (v 0 (codes "m")) ∷ []))

abbrev f3 : Plain
f3 = (And (Exists (v 0 (codes "l")) (Atom (p 0)))
    (AX (And (AU (And (Not (Exists (v 0 (codes "l")) (Atom (p 0)))) (Not (Exists (v 0 (codes "m")) (Atom (p 1)))))
    (Or (Exists (v 0 (codes "m")) (Atom (p 1))) EarlyExit))
    (EU (And (Not (Exists (v 0 (codes "l")) (Atom (p 0)))) (Not (Exists (v 0 (codes "m")) (Atom (p 1))))) (Exists (v 0 (codes "m")) (Atom (p 1)))))))

forest3_2 : forest w3 f3 2 start ≡ ((Bind 2 (v 0 (codes "l")) (Place 0) ((Touch 2 0 (2 ∷ 1 ∷ [])) ∷ []))
    ∷ ((Bind 4 (v 0 (codes "m")) (Place 0) ((Touch 4 1 (2 ∷ 2 ∷ 4 ∷ [])) ∷ []))
    ∷ ((Bind 5 (v 0 (codes "m")) (Place 1) ((Touch 5 1 (2 ∷ 2 ∷ 6 ∷ [])) ∷ [])) ∷ [])))
forest3_2 = simp (order-Touch-Touch, order-Bind-Bind) refl

-- a value is reported where it is bound
abbrev w4 : World
w4 = (world ((1 ∷ []) ∷ (2 ∷ []) ∷ (3 ∷ []) ∷ (4 ∷ []) ∷ (5 ∷ []) ∷ (6 ∷ []) ∷ (6 ∷ []) ∷ [])
    ((Some 6) ∷ (Some 6) ∷ (Some 3) ∷ (Some 4) ∷ (Some 5) ∷ (Some 6) ∷ None ∷ [])
    ((1 ∷ []) ∷ (2 ∷ []) ∷ [] ∷ [] ∷ [] ∷ [] ∷ [] ∷ []) 50
    ((2, 0, [], ((2 ∷ 1 ∷ []) ∷ [])) ∷ (4, 1, (((v 0 (codes "x")), 6) ∷ []), ((2 ∷ 3 ∷ []) ∷ []))
    ∷ (3, 2, (((v 0 (codes "x")), 5) ∷ []), []) ∷ []) [] (None ∷ (Some 34) ∷ None ∷ None ∷ None ∷ None ∷ None ∷ [])
    (None ∷ None ∷ None ∷ None ∷ None ∷ (Some 34) ∷ None ∷ []) ((v 0 (codes "x")) ∷ []))

abbrev f4 : Plain
f4 = (And (Atom (p 0)) (AX (Exists (v 0 (codes "x"))
    (And (AU (And (And (Not (Atom (p 2))) (Not (Atom (p 0)))) (Not (Atom (p 1)))) (Or (Atom (p 1)) EarlyExit))
    (EU (And (And (Not (Atom (p 2))) (Not (Atom (p 0)))) (Not (Atom (p 1)))) (Atom (p 1)))))))

forest4_2 : forest w4 f4 2 start ≡ ((Touch 2 0 (2 ∷ 1 ∷ [])) ∷ ((Bind 3 (v 0 (codes "x")) (Place 6) ((Touch 4 1 (2 ∷ 3 ∷ [])) ∷ [])) ∷ []))
forest4_2 = simp (order-Touch-Touch, order-Touch-Bind) refl

-- a loop is entered once
abbrev w7 : World
w7 = (world ((1 ∷ []) ∷ (2 ∷ []) ∷ (3 ∷ []) ∷ (4 ∷ 5 ∷ []) ∷ (3 ∷ []) ∷ (6 ∷ []) ∷ (7 ∷ []) ∷ (7 ∷ []) ∷ [])
    ((Some 7) ∷ (Some 7) ∷ (Some 3) ∷ (Some 5) ∷ (Some 3) ∷ (Some 6) ∷ (Some 7) ∷ None ∷ [])
    ((1 ∷ []) ∷ (2 ∷ []) ∷ [] ∷ (4 ∷ []) ∷ [] ∷ [] ∷ [] ∷ [] ∷ []) 51
    ((2, 0, [], ((2 ∷ 1 ∷ []) ∷ [])) ∷ (5, 1, [], ((2 ∷ 3 ∷ []) ∷ [])) ∷ []) []
    (None ∷ (Some 33) ∷ None ∷ None ∷ None ∷ None ∷ None ∷ None ∷ []) (None ∷ None ∷ None ∷ None ∷ None ∷ None ∷ (Some 33) ∷ None ∷ []) [])

abbrev f7 : Plain
f7 = (And (Atom (p 0)) (EX (EU (And (Not (Atom (p 0))) (Not (Atom (p 1)))) (Atom (p 1)))))

forest7_2 : forest w7 f7 2 start ≡ ((Touch 2 0 (2 ∷ 1 ∷ [])) ∷ ((Touch 5 1 (2 ∷ 3 ∷ [])) ∷ []))
forest7_2 = simp order-Touch-Touch refl

-- a tree occurs once, however many walks reach it
abbrev w8 : World
w8 = (world ((1 ∷ []) ∷ (2 ∷ []) ∷ (3 ∷ []) ∷ (4 ∷ 5 ∷ []) ∷ (5 ∷ []) ∷ (6 ∷ 7 ∷ []) ∷ (7 ∷ []) ∷ (8 ∷ []) ∷ (9 ∷ []) ∷ (9 ∷ [])
    ∷ []) ((Some 9) ∷ (Some 9) ∷ (Some 3) ∷ (Some 5) ∷ (Some 5) ∷ (Some 7) ∷ (Some 7) ∷ (Some 8) ∷ (Some 9) ∷ None ∷ [])
    ((1 ∷ []) ∷ (2 ∷ []) ∷ [] ∷ (4 ∷ []) ∷ [] ∷ (6 ∷ []) ∷ [] ∷ [] ∷ [] ∷ [] ∷ []) 59
    ((2, 0, [], ((2 ∷ 1 ∷ []) ∷ [])) ∷ (7, 1, [], ((2 ∷ 4 ∷ []) ∷ [])) ∷ []) []
    (None ∷ (Some 33) ∷ None ∷ None ∷ None ∷ None ∷ None ∷ None ∷ None ∷ None ∷ [])
    (None ∷ None ∷ None ∷ None ∷ None ∷ None ∷ None ∷ None ∷ (Some 33) ∷ None ∷ []) [])

abbrev f8 : Plain
f8 = (And (Atom (p 0)) (EX (EU (And (Not (Atom (p 0))) (Not (Atom (p 1)))) (Atom (p 1)))))

forest8_2 : forest w8 f8 2 start ≡ ((Touch 2 0 (2 ∷ 1 ∷ [])) ∷ ((Touch 7 1 (2 ∷ 4 ∷ [])) ∷ []))
forest8_2 = simp order-Touch-Touch refl

-- a walk that leaves early ends there
abbrev w9 : World
w9 = (world ((1 ∷ []) ∷ (2 ∷ []) ∷ (3 ∷ []) ∷ (4 ∷ 5 ∷ []) ∷ (7 ∷ []) ∷ (6 ∷ []) ∷ (7 ∷ []) ∷ (7 ∷ []) ∷ [])
    ((Some 7) ∷ (Some 7) ∷ (Some 3) ∷ (Some 5) ∷ (Some 5) ∷ (Some 6) ∷ (Some 7) ∷ None ∷ [])
    ((1 ∷ []) ∷ (2 ∷ []) ∷ [] ∷ (4 ∷ []) ∷ [] ∷ [] ∷ [] ∷ [] ∷ []) 48
    ((2, 0, [], ((2 ∷ 1 ∷ []) ∷ [])) ∷ (5, 1, [], ((2 ∷ 3 ∷ []) ∷ [])) ∷ []) (4 ∷ [])
    (None ∷ (Some 32) ∷ None ∷ None ∷ None ∷ None ∷ None ∷ None ∷ []) (None ∷ None ∷ None ∷ None ∷ None ∷ None ∷ (Some 32) ∷ None ∷ []) [])

abbrev f9 : Plain
f9 = (And (Atom (p 0)) (AX (And (AU (And (Not (Atom (p 0))) (Not (Atom (p 1)))) (Or (Atom (p 1)) EarlyExit))
    (EU (And (Not (Atom (p 0))) (Not (Atom (p 1)))) (Atom (p 1))))))

forest9_2 : forest w9 f9 2 start ≡ ((Touch 2 0 (2 ∷ 1 ∷ [])) ∷ ((Touch 5 1 (2 ∷ 3 ∷ [])) ∷ []))
forest9_2 = simp order-Touch-Touch refl

-- one tree for each value, over the forest under it
abbrev w11 : World
w11 = (world ((1 ∷ []) ∷ (2 ∷ []) ∷ (3 ∷ []) ∷ (4 ∷ []) ∷ (5 ∷ []) ∷ (6 ∷ []) ∷ (7 ∷ []) ∷ (8 ∷ []) ∷ (8 ∷ []) ∷ [])
    ((Some 8) ∷ (Some 8) ∷ (Some 3) ∷ (Some 4) ∷ (Some 5) ∷ (Some 6) ∷ (Some 7) ∷ (Some 8) ∷ None ∷ [])
    ((1 ∷ []) ∷ (2 ∷ []) ∷ [] ∷ [] ∷ [] ∷ [] ∷ [] ∷ [] ∷ [] ∷ []) 64
    ((2, 0, (((v 0 (codes "x")), 0) ∷ []), ((2 ∷ 1 ∷ []) ∷ [])) ∷ (4, 0, (((v 0 (codes "x")), 1) ∷ []), ((2 ∷ 3 ∷ []) ∷ []))
    ∷ (3, 1, (((v 0 (codes "x")), 0) ∷ []), []) ∷ (5, 1, (((v 0 (codes "x")), 1) ∷ []), []) ∷ (6, 2, [], ((2 ∷ 5 ∷ []) ∷ []))
    ∷ []) [] (None ∷ (Some 38) ∷ None ∷ None ∷ None ∷ None ∷ None ∷ None ∷ None ∷ [])
    (None ∷ None ∷ None ∷ None ∷ None ∷ None ∷ None ∷ (Some 38) ∷ None ∷ []) ((v 0 (codes "x")) ∷ []))

abbrev f11 : Plain
f11 = (Exists (v 0 (codes "x")) (And (Atom (p 0))
    (EX (EU (And (And (Not (Atom (p 0))) (Not (Atom (p 2)))) (Or (Atom (p 1)) (Not (Atom (p 1))))) (Atom (p 2))))))

forest11_2 : forest w11 f11 2 start ≡ ((Bind 2 (v 0 (codes "x")) (Place 0) ((Touch 2 0 (2 ∷ 1 ∷ [])) ∷ ((Touch 6 2 (2 ∷ 5 ∷ [])) ∷ []))) ∷ [])
forest11_2 = simp order-Touch-Touch refl

forest11_4 : forest w11 f11 4 start ≡ ((Bind 4 (v 0 (codes "x")) (Place 1) ((Touch 4 0 (2 ∷ 3 ∷ [])) ∷ ((Touch 6 2 (2 ∷ 5 ∷ [])) ∷ []))) ∷ [])
forest11_4 = simp order-Touch-Touch refl

-- the variable of a block has no tree
abbrev w13 : World
w13 = (world ((1 ∷ []) ∷ (2 ∷ []) ∷ (3 ∷ 8 ∷ []) ∷ (4 ∷ []) ∷ (5 ∷ []) ∷ (6 ∷ []) ∷ (7 ∷ []) ∷ (2 ∷ []) ∷ (9 ∷ []) ∷ (9 ∷ [])
    ∷ []) ((Some 9) ∷ (Some 9) ∷ (Some 8) ∷ (Some 2) ∷ (Some 5) ∷ (Some 6) ∷ (Some 7) ∷ (Some 2) ∷ (Some 9) ∷ None ∷ [])
    ((1 ∷ []) ∷ (2 ∷ []) ∷ (3 ∷ []) ∷ (4 ∷ []) ∷ [] ∷ [] ∷ [] ∷ [] ∷ [] ∷ [] ∷ []) 56
    ((2, 0, (((v 0 (codes "x")), 0) ∷ []), []) ∷ (1, 1, [], []) ∷ (3, 1, [], [])
    ∷ (5, 2, (((v 0 (codes "x")), 0) ∷ []), ((2 ∷ 1 ∷ 4 ∷ 2 ∷ []) ∷ [])) ∷ (7, 3, [], []) ∷ (8, 3, [], []) ∷ []) []
    (None ∷ (Some 35) ∷ None ∷ (Some 40) ∷ None ∷ None ∷ None ∷ None ∷ None ∷ None ∷ [])
    (None ∷ None ∷ None ∷ None ∷ None ∷ None ∷ None ∷ (Some 40) ∷ (Some 35) ∷ None ∷ []) ((v 0 (codes "x")) ∷ []))

abbrev f13 : Plain
f13 = (Exists (v 0 (codes "x")) (And (And (Atom (p 0))
    (InBranch 0 (And (Exists (v 0 (123 ∷ codes "0"))
    (And (BraceOpen (p 1) (v 0 (123 ∷ codes "0")))
    (InBranch 0 (EU (And (Inside (v 0 (123 ∷ codes "0"))) (Not (Atom (p 2))))
    (And (Inside (v 0 (123 ∷ codes "0")))
    (And (Atom (p 2)) (EX (EU (And (Inside (v 0 (123 ∷ codes "0"))) (Not (Atom (p 2))))
    (Or (BraceClose (p 3) (v 0 (123 ∷ codes "0"))) (Outside (v 0 (123 ∷ codes "0")))))))))))) (After True)))) (After True)))

forest13_2 : forest w13 f13 2 start ≡ ((Bind 2 (v 0 (codes "x")) (Place 0) ((Touch 5 2 (2 ∷ 1 ∷ 4 ∷ 2 ∷ [])) ∷ [])) ∷ [])
forest13_2 = refl

-- a nest
abbrev w14 : World
w14 = (world ((1 ∷ []) ∷ (2 ∷ []) ∷ (3 ∷ []) ∷ (4 ∷ []) ∷ (5 ∷ []) ∷ (6 ∷ []) ∷ (6 ∷ []) ∷ [])
    ((Some 6) ∷ (Some 6) ∷ (Some 3) ∷ (Some 4) ∷ (Some 5) ∷ (Some 6) ∷ None ∷ [])
    ((1 ∷ []) ∷ (2 ∷ []) ∷ [] ∷ [] ∷ [] ∷ [] ∷ [] ∷ []) 48
    ((2, 0, (((v 0 (codes "x")), 0) ∷ []), ((2 ∷ 1 ∷ []) ∷ [])) ∷ (3, 1, (((v 0 (codes "x")), 0) ∷ []), [])
    ∷ (4, 2, [], ((2 ∷ 3 ∷ []) ∷ [])) ∷ []) [] (None ∷ (Some 32) ∷ None ∷ None ∷ None ∷ None ∷ None ∷ [])
    (None ∷ None ∷ None ∷ None ∷ None ∷ (Some 32) ∷ None ∷ []) ((v 0 (codes "x")) ∷ []))

abbrev f14 : Plain
f14 = (Exists (v 0 (codes "x")) (And (Atom (p 0))
    (EX (And (EU (And (And (Not (Atom (p 0))) (Not (Atom (p 2)))) (Or (Atom (p 1)) (Not (Atom (p 1))))) (Atom (p 2)))
    (EU (And (Not (Atom (p 0))) (Not (Atom (p 2))))
    (And (And (And (Not (Atom (p 0))) (Not (Atom (p 2)))) (Atom (p 1))) (EU (And (Not (Atom (p 0))) (Not (Atom (p 2)))) (Atom (p 2)))))))))

forest14_2 : forest w14 f14 2 start ≡ ((Bind 2 (v 0 (codes "x")) (Place 0) ((Touch 2 0 (2 ∷ 1 ∷ [])) ∷ ((Touch 4 2 (2 ∷ 3 ∷ [])) ∷ []))) ∷ [])
forest14_2 = simp order-Touch-Touch refl

-- a nest: the repeated part is touched at each node that it matches, with its own value
abbrev w20 : World
w20 = (world ((1 ∷ []) ∷ (2 ∷ []) ∷ (3 ∷ []) ∷ (4 ∷ []) ∷ (5 ∷ []) ∷ (6 ∷ []) ∷ (7 ∷ []) ∷ (8 ∷ []) ∷ (8 ∷ []) ∷ [])
    ((Some 8) ∷ (Some 8) ∷ (Some 3) ∷ (Some 4) ∷ (Some 5) ∷ (Some 6) ∷ (Some 7) ∷ (Some 8) ∷ None ∷ [])
    ((1 ∷ []) ∷ (2 ∷ []) ∷ [] ∷ [] ∷ [] ∷ [] ∷ [] ∷ [] ∷ [] ∷ []) 3
    ((2, 0, [], []) ∷ (3, 1, (((v 0 (codes "x")), 0) ∷ []), ((2 ∷ 2 ∷ []) ∷ []))
    ∷ (5, 1, (((v 0 (codes "x")), 1) ∷ []), ((2 ∷ 4 ∷ []) ∷ [])) ∷ (6, 2, [], []) ∷ []) []
    (None ∷ (Some 38) ∷ None ∷ None ∷ None ∷ None ∷ None ∷ None ∷ None ∷ [])
    (None ∷ None ∷ None ∷ None ∷ None ∷ None ∷ None ∷ (Some 38) ∷ None ∷ []) ((v 0 (codes "x")) ∷ []))

abbrev f20 : Plain
f20 =
    let once : Plain = Exists (v 0 (codes "x")) (Atom (p 1)) in
    let way : Plain = And (And (Not (Atom (p 0))) (Not (Atom (p 2)))) (Or once (Not once)) in
    And (Atom (p 0)) (AX (And (AU way (Or (Atom (p 2)) EarlyExit)) (EU way (Atom (p 2)))))

forest20_2 : forest w20 f20 2 start ≡ (Bind 3 (v 0 (codes "x")) (Place 0) (Touch 3 1 (2 ∷ 2 ∷ []) ∷ [])
    ∷ Bind 5 (v 0 (codes "x")) (Place 1) (Touch 5 1 (2 ∷ 4 ∷ []) ∷ []) ∷ [])
forest20_2 = simp (order-Touch-Touch, order-Bind-Bind) refl
