-- What a rule finds in a graph: the same with any types, if none of its variables asks for types.
use Rattle.std.proofs.Common.{◌≡◌, ℕ, zero, suc, ◌+◌, Bool, true, false, not, ◌&&◌, ◌||◌, eqb, refl, ◌∙◌, List, [], map, Option, None, Some}
use Rattle.std.proofs.Common.{slice_get, if◌then◌else◌}
use Rattle.std.specs.List.{list_any, filter, flat_map}
use Rattle.cfg_build.specs.declared.cfg_graph.label.NodeLabel.{NodeLabel}
use Rattle.cfg_build.specs.CfgGraph.Flow.{Flow, count_of, succ_of, past_of, down_of, with_types}
use Rattle.c_types.specs.Tables.{ItemTypes}
use Rattle.smpl_terms.specs.declared.var.Var.{Var}
use Rattle.smpl_terms.specs.declared.value.Value.{Value}
use Rattle.smpl_terms.specs.declared.value.Value.TheVariants.{Place}
use Rattle.smpl_terms.specs.Values.{same}
use Rattle.smpl_terms.specs.Environments.{Environment, change, total}
use Rattle.smpl_patch.specs.declared.pattern.VarDecl.{VarDecl}
use Rattle.smpl_patch.specs.declared.pattern.PatToken.{PatToken}
use Rattle.smpl_patch.specs.declared.pattern.Pattern.{Pattern}
use Rattle.smpl_patch.specs.declared.witness.Witness.{Witness}
use Rattle.smpl_patch.specs.declared.witness.RuleWitness.{RuleWitness}
use Rattle.smpl_patch.specs.Wants.{ask_types}
use Rattle.pat_match.specs.declared.aligning.Alignment.{Alignment}
use Rattle.ctl_formula.specs.Plain.{Plain, True, Atom, EarlyExit, BraceOpen, BraceClose, Inside, Outside, Not, And, Or, AX, EX, AU}
use Rattle.ctl_formula.specs.Plain.{EU, After, InBranch, Exists}
use Rattle.ctl_fixpoint.specs.CtlHolds.Values.{values_of}
use Rattle.ctl_fixpoint.specs.CtlHolds.Holding.{at_node, is_open, is_close, is_brace, open_after}
use Rattle.ctl_fixpoint.specs.CtlHolds.Rounds.{passes, passes_there, rounds, holds}
use Rattle.wit_forest.specs.WitTrees.Unions.{union, union_of}
use Rattle.wit_forest.specs.WitTrees.Marks.{is_touched}
use Rattle.wit_forest.specs.WitTrees.Forest.{World, numbers, is_hidden, reached, at_option, bound_to, forest}
use Rattle.wit_forest.specs.WitTrees.Graphs.{paths_at, forest_of}
use Rattle.wit_forest.specs.WitTrees.Rules.{in_order, choices, witnesses_at, witnesses_of}
use Rattle.seen_laws.proofs.MatchLemmas.{matches_same, aligns_same}

module _ (g : Flow) (types : ItemTypes) where
  abbrev typed : Flow
  typed = with_types g types

  open_same : (v : Value) (n : ℕ) → open_after typed v n ≡ open_after g v n
  open_same v zero = refl
  open_same v (suc n) = λ i. at_node g n (λ l. is_brace is_open v l || (not (is_brace is_close v l) && open_same v n i))

  rounds_same : (every : Bool) (p q : ℕ → Bool) (k s : ℕ) → rounds typed every p q k s ≡ rounds g every p q k s
  rounds_same every p q zero s = refl
  rounds_same every p q (suc k) s = λ i. q s || (p s && passes every (λ n. rounds_same every p q k n i) (succ_of g s))

  reached_same : (test : ℕ → Bool) (s : ℕ) → reached typed test s ≡ reached g test s
  reached_same test s = λ i. filter (λ n. rounds_same false test (λ k. eqb k n) (count_of g + 1) s i) (numbers (count_of g))

  module _ (told : Plain → ℕ → Environment → Bool) (touches : Pattern → ℕ → Environment → List (List ℕ)) (decls : List VarDecl) where
    abbrev world : Flow → World
    world graph = record { graph = graph; values = values_of g; holds = told; touches = touches; decls = decls }

    option_same : (f : ℕ → List Witness) (o : Option ℕ) → at_option (world typed) f o ≡ at_option (world g) f o
    option_same f None = refl
    option_same f (Some k) = refl

    bound_same : (b : Bool) (s : ℕ) (x : Var) (v : Value) (ws : List Witness) → bound_to (world typed) b s x v ws ≡ bound_to (world g) b s x v ws
    bound_same true s x v ws = refl
    bound_same false s x v ws = refl

    forests_same : (f : Plain) (s : ℕ) (env : Environment) → forest (world typed) f s env ≡ forest (world g) f s env
    forests_same True s env = refl
    forests_same (Atom p) s env = refl
    forests_same EarlyExit s env = refl
    forests_same (BraceOpen p b) s env = refl
    forests_same (BraceClose p b) s env = refl
    forests_same (Inside b) s env = refl
    forests_same (Outside b) s env = refl
    forests_same (Not f) s env = refl
    forests_same (And f h) s env = λ i. union decls (forests_same f s env i) (forests_same h s env i)
    forests_same (Or f h) s env =
        λ i. union decls (if told f s env then forests_same f s env i else []) (if told h s env then forests_same h s env i else [])
    forests_same (AX f) s env = λ i. union_of decls (map (λ k. forests_same f k env i) (succ_of g s))
    forests_same (EX f) s env = λ i. union_of decls (map (λ k. if told f k env then forests_same f k env i else []) (succ_of g s))
    forests_same (AU f h) s env =
        λ i. union_of decls (map (λ n. if told h n env then forests_same h n env i else forests_same f n env i)
        (reached_same (λ n. told f n env && not (told h n env)) s i))
    forests_same (EU f h) s env =
        λ i. union_of decls (map
        (λ n. union decls (if told h n env then forests_same h n env i else [])
        (if told f n env && list_any (λ k. told (EU f h) k env) (succ_of g n) then forests_same f n env i else []))
        (reached_same (λ n. told f n env) s i))
    forests_same (After f) s env =
        (λ i. at_option (world typed) (λ k. forests_same f k env i) (past_of g s))
        ∙ option_same (λ k. forest (world g) f k env) (past_of g s)
    forests_same (InBranch b f) s env =
        (λ i. at_option (world typed) (λ k. forests_same f k env i) (slice_get (down_of g s) b))
        ∙ option_same (λ k. forest (world g) f k env) (slice_get (down_of g s) b)
    forests_same (Exists x f) s env =
        (λ i. union_of decls (map (λ v. bound_to (world typed) (is_hidden x) s x v (forests_same f s (change env x v) i))
        (filter (λ v. told f s (change env x v)) (values_of g))))
        ∙ (λ i. union_of decls (map (λ v. bound_same (is_hidden x) s x v (forest (world g) f s (change env x v)) i)
        (filter (λ v. told f s (change env x v)) (values_of g))))

  module _ (decls : List VarDecl) (none : ask_types decls ≡ false) (tokens : List PatToken) where
    holds_same : (m : ℕ) (f : Plain) (s : ℕ) (env : Environment) → holds decls tokens typed m f s env ≡ holds decls tokens g m f s env
    holds_same m True s env = refl
    holds_same m (Atom p) s env = λ i. at_node g s (λ l. matches_same types g.types decls none tokens env p l i)
    holds_same m EarlyExit s env = refl
    holds_same m (BraceOpen p b) s env =
        λ i. at_node g s (λ l. is_open l.kind && same (Place l.brace) (env b) && matches_same types g.types decls none tokens env p l i)
    holds_same m (BraceClose p b) s env =
        λ i. at_node g s (λ l. is_close l.kind && same (Place l.brace) (env b) && matches_same types g.types decls none tokens env p l i)
    holds_same m (Inside b) s env = open_same (env b) (suc s)
    holds_same m (Outside b) s env =
        λ i. at_node g s (λ l. not (is_brace is_close (env b) l) && not (open_same (env b) (suc s) i))
    holds_same m (Not f) s env = λ i. not (holds_same m f s env i)
    holds_same m (And f h) s env = λ i. holds_same m f s env i && holds_same m h s env i
    holds_same m (Or f h) s env = λ i. holds_same m f s env i || holds_same m h s env i
    holds_same m (AX f) s env = λ i. passes true (λ k. holds_same m f k env i) (succ_of g s)
    holds_same m (EX f) s env = λ i. passes false (λ k. holds_same m f k env i) (succ_of g s)
    holds_same m (AU f h) s env =
        rounds_same true (λ k. holds decls tokens typed m f k env) (λ k. holds decls tokens typed m h k env) m s
        ∙ (λ i. rounds g true (λ k. holds_same m f k env i) (λ k. holds_same m h k env i) m s)
    holds_same m (EU f h) s env =
        rounds_same false (λ k. holds decls tokens typed m f k env) (λ k. holds decls tokens typed m h k env) m s
        ∙ (λ i. rounds g false (λ k. holds_same m f k env i) (λ k. holds_same m h k env i) m s)
    holds_same m (After f) s env = λ i. passes_there (λ k. holds_same m f k env i) (past_of g s)
    holds_same m (InBranch b f) s env = λ i. passes_there (λ k. holds_same m f k env i) (slice_get (down_of g s) b)
    holds_same m (Exists x f) s env = λ i. list_any (λ v. holds_same m f s (change env x v) i) (values_of g)

    paths_same : (p : Pattern) (env : Environment) (o : Option NodeLabel) → paths_at decls tokens types p env o ≡ paths_at decls tokens g.types p env o
    paths_same p env None = refl
    paths_same p env (Some l) = λ i. map (λ (a : Alignment). a.path) (aligns_same types g.types decls none tokens env p l i)

    forest_same : (f : Plain) (s : ℕ) (env : Environment) → forest_of decls tokens typed f s env ≡ forest_of decls tokens g f s env
    forest_same f s env =
        (λ i. forest (world (λ h k e. holds_same (count_of g + 1) h k e i)
        (λ p k e. if is_touched tokens p then paths_same p e (slice_get g.labels k) i else []) decls typed) f s env)
        ∙ forests_same (holds decls tokens g (count_of g + 1))
        (λ p k e. if is_touched tokens p then paths_at decls tokens g.types p e (slice_get g.labels k) else []) decls f s env

    module _ (f : Plain) (exports : List Var) (rule item : ℕ) where
      abbrev made : ℕ → List (Var × Value) → List Witness → RuleWitness
      made s env ws = record { rule = rule; item = item; node = s; env = env; forest = ws }

      at_same : (s : ℕ) (env : List (Var × Value))
          → witnesses_at decls tokens typed f exports rule item s env ≡ witnesses_at decls tokens g f exports rule item s env
      at_same s env =
          λ i. map (λ e. made s e (forest_same f s (total e) i))
          (filter (λ e. holds_same (count_of g + 1) f s (total e) i) (choices (in_order (values_of g)) exports env))

      pub witnesses_same : (env : List (Var × Value))
          → witnesses_of decls tokens typed f exports rule item env ≡ witnesses_of decls tokens g f exports rule item env
      witnesses_same env = λ i. flat_map (λ s. at_same s env i) (numbers (count_of g))
