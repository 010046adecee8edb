-- If no label has a word, a formula that needs it holds at no node.
-- Proof: by cases of the formula. Each node has a successor, so what holds at every next node holds at one of them.
use Rattle.std.proofs.Common.{◌≡◌, ℕ, zero, suc, ◌<◌, ◌^◌, Bool, true, false, ◌&&◌, ◌||◌, refl, List, Option, None, Some, slice_get, ⊎_elim, Contains}
use Rattle.std.specs.List.{list_any, list_all}
use Rattle.c_terms.specs.declared.tree.Tree.{Tree}
use Rattle.cfg_build.specs.declared.cfg_graph.label.NodeKind.{NodeKind}
use Rattle.cfg_build.specs.declared.cfg_graph.label.NodeLabel.{NodeLabel}
use Rattle.c_types.specs.Tables.{ItemTypes}
use Rattle.cfg_build.specs.CfgGraph.Flow.{Flow, IsSound, count_of, succ_of, past_of, down_of, with_types}
use Rattle.cfg_build.proofs.TypedLemmas.{typed-sound}
use Rattle.cfg_build.specs.Graphs.{node_count, graph_of}
use Rattle.cfg_build.proofs.SoundLemmas.{graph_of-sound}
use Rattle.smpl_terms.specs.declared.var.Var.{Var}
use Rattle.smpl_terms.specs.declared.value.Value.TheVariants.{Place}
use Rattle.smpl_terms.specs.Values.{same}
use Rattle.smpl_terms.specs.Environments.{Environment, change}
use Rattle.smpl_patch.specs.declared.pattern.VarDecl.{VarDecl}
use Rattle.smpl_patch.specs.declared.pattern.PatToken.{PatToken}
use Rattle.smpl_patch.specs.declared.pattern.Pattern.{Pattern}
use Rattle.pat_match.specs.Matching.{matches}
use Rattle.ctl_formula.specs.Plain.{Plain, True, Atom, EarlyExit, BraceOpen, BraceClose, Inside, Outside, Not, And, Or, AX, EX, AU}
use Rattle.ctl_formula.specs.Plain.{EU, After, InBranch, Exists}
use Rattle.ctl_fixpoint.specs.CtlHolds.Values.{values_of}
use Rattle.ctl_fixpoint.specs.CtlHolds.Holding.{is_open, is_close, atom_at, brace_at, Holds}
use Rattle.ctl_fixpoint.specs.CtlHolds.Rounds.{passes, passes_there, rounds, holds}
use Rattle.ctl_fixpoint.proofs.CtlHolds.AtomLemmas.{label_of}
use Rattle.ctl_fixpoint.proofs.CtlHolds.GraphLemmas.{node_after, first_after, past_node, down_node}
use Rattle.ctl_fixpoint.proofs.CtlHolds.HoldLemmas.{holds_decides}
use Rattle.ctl_fixpoint.proofs.CtlHolds.TestLemmas.{any_found, all_has}
use Rattle.ctl_fixpoint.specs.RequiredWords.Words.{has_word, spelled, needs}
use Rattle.ctl_fixpoint.proofs.RequiredWords.WordLemmas.{and_left, and_right, or_cases, not_both}
use Rattle.ctl_fixpoint.proofs.RequiredWords.MatchWords.{match_word}
use Rattle.ctl_fixpoint.proofs.RequiredWords.GraphWords.{labels_lack}

-- tests that fail

and_no_left : (a b : Bool) → a ≡ false → (a && b) ≡ false
and_no_left true b h = absurd (cc)
and_no_left false b h = refl

and_no_right : (a b : Bool) → b ≡ false → (a && b) ≡ false
and_no_right true b h = h
and_no_right false b h = refl

or_no : (a b : Bool) → a ≡ false → b ≡ false → (a || b) ≡ false
or_no true b h k = absurd (cc)
or_no false b h k = k

never : (b : Bool) → (b ≡ true → ⊥) → b ≡ false
never true h = absurd (h refl)
never false h = refl

any_no : {X : Type 0} (x : X → Bool) (l : List X) → ((k : X) → Contains l k → x k ≡ false) → list_any x l ≡ false
any_no x l h = never (list_any x l) (λ e. let r = any_found x l e in not_both (x r.0) r.2 (h r.0 r.1))

all_no : {X : Type 0} (x : X → Bool) (k : X) (l : List X) → Contains l k → x k ≡ false → list_all x l ≡ false
all_no x k l c h = never (list_all x l) (λ e. not_both (x k) (all_has x k l c e) h)

there_no : (x : ℕ → Bool) (o : Option ℕ) → ((k : ℕ) → o ≡ Some k → x k ≡ false) → passes_there x o ≡ false
there_no x None h = refl
there_no x (Some k) h = h k refl

module _ (g : Flow) (ok : IsSound g) where
  -- it passes at no node
  abbrev Nowhere : (ℕ → Bool) → Type 0
  Nowhere x = (s : ℕ) → s < count_of g → x s ≡ false

  next_no : (every : Bool) (x : ℕ → Bool) → Nowhere x → (s : ℕ) → s < count_of g → passes every x (succ_of g s) ≡ false
  next_no true x h s lt =
      let k = first_after g ok s lt in
      all_no x k.0 (succ_of g s) k.1 (h k.0 (node_after g ok s k.0 lt k.1))
  next_no false x h s lt = any_no x (succ_of g s) (λ k c. h k (node_after g ok s k lt c))

  rounds_no : (every : Bool) (p q : ℕ → Bool) → Nowhere q → (m : ℕ) → Nowhere (rounds g every p q m)
  rounds_no every p q h zero s lt = refl
  rounds_no every p q h (suc m) s lt =
      or_no (q s) _ (h s lt) (and_no_right (p s) _ (next_no every (rounds g every p q m) (rounds_no every p q h m) s lt))

  module _ (w : List ℕ) (decls : List VarDecl) (tokens : List PatToken)
      (lacks : (n : ℕ) (l : NodeLabel) → slice_get g.labels n ≡ Some l → has_word w l.tree ≡ false) (m : ℕ) where
    atom_no : (p : Pattern) → spelled w p ≡ true → (s : ℕ) (env : Environment) → atom_at decls tokens g p s env ≡ false
    atom_no p e s env = never (atom_at decls tokens g p s env)
        (λ h.
        let l = label_of g s (λ l. matches decls tokens g.types env p l) (slice_get g.labels s) refl h in
        not_both (has_word w l.0.tree) (match_word decls tokens g.types env w p l.0 e l.2) (lacks s l.0 l.1))

    brace_no : (is : NodeKind → Bool) (p : Pattern) (b : Var) → spelled w p ≡ true → (s : ℕ) (env : Environment)
        → brace_at decls tokens g is p b s env ≡ false
    brace_no is p b e s env = never (brace_at decls tokens g is p b s env)
        (λ h.
        let l = label_of g s (λ l. is l.kind && same (Place l.brace) (env b) && matches decls tokens g.types env p l) (slice_get g.labels s) refl h in
        not_both (has_word w l.0.tree) (match_word decls tokens g.types env w p l.0 e (and_right _ _ l.2)) (lacks s l.0 l.1))

    none : (f : Plain) → needs w f ≡ true → (s : ℕ) → s < count_of g → (env : Environment) → holds decls tokens g m f s env ≡ false
    none True n s lt env = absurd (cc)
    none (Atom p) n s lt env = atom_no p n s env
    none EarlyExit n s lt env = absurd (cc)
    none (BraceOpen p b) n s lt env = brace_no is_open p b n s env
    none (BraceClose p b) n s lt env = brace_no is_close p b n s env
    none (Inside b) n s lt env = absurd (cc)
    none (Outside b) n s lt env = absurd (cc)
    none (Not f) n s lt env = absurd (cc)
    none (And f h) n s lt env = ⊎_elim
        (λ a. and_no_left (holds decls tokens g m f s env) (holds decls tokens g m h s env) (none f a s lt env))
        (λ a. and_no_right (holds decls tokens g m f s env) (holds decls tokens g m h s env) (none h a s lt env))
        (or_cases (needs w f) (needs w h) n)
    none (Or f h) n s lt env =
        or_no (holds decls tokens g m f s env) (holds decls tokens g m h s env)
        (none f (and_left (needs w f) (needs w h) n) s lt env) (none h (and_right (needs w f) (needs w h) n) s lt env)
    none (AX f) n s lt env = next_no true (λ k. holds decls tokens g m f k env) (λ k l. none f n k l env) s lt
    none (EX f) n s lt env = next_no false (λ k. holds decls tokens g m f k env) (λ k l. none f n k l env) s lt
    none (AU f h) n s lt env =
        rounds_no true (λ k. holds decls tokens g m f k env) (λ k. holds decls tokens g m h k env) (λ k l. none h n k l env) m s lt
    none (EU f h) n s lt env =
        rounds_no false (λ k. holds decls tokens g m f k env) (λ k. holds decls tokens g m h k env) (λ k l. none h n k l env) m s lt
    none (After f) n s lt env =
        there_no (λ k. holds decls tokens g m f k env) (past_of g s) (λ k e. none f n k (past_node g ok s k lt e) env)
    none (InBranch i f) n s lt env =
        there_no (λ k. holds decls tokens g m f k env) (slice_get (down_of g s) i) (λ k e. none f n k (down_node g ok s i k lt e) env)
    none (Exists x f) n s lt env =
        any_no (λ v. holds decls tokens g m f s (change env x v)) (values_of g) (λ v c. none f n s lt (change env x v))

-- in the graph of an item that lacks the word, whatever is known of the types of the item's expressions

pub holds_no : (w : List ℕ) (decls : List VarDecl) (tokens : List PatToken) (t : Tree) (types : ItemTypes) → node_count t < 2 ^ 32
    → has_word w t ≡ false → (m : ℕ) → (f : Plain) → needs w f ≡ true → (s : ℕ) → s < count_of (graph_of t)
    → (env : Environment) → holds decls tokens (with_types (graph_of t) types) m f s env ≡ false
holds_no w decls tokens t types few h m f n s lt env =
    none (with_types (graph_of t) types) (typed-sound (graph_of t) types (graph_of-sound t few)) w decls tokens (labels_lack w t h) m f n s lt env

pub Holds_no : (w : List ℕ) (decls : List VarDecl) (tokens : List PatToken) (t : Tree) (types : ItemTypes) → node_count t < 2 ^ 32
    → has_word w t ≡ false → (m : ℕ) → 0 < m → (f : Plain) → needs w f ≡ true → (s : ℕ) → s < count_of (graph_of t)
    → (env : Environment) → Holds decls tokens (with_types (graph_of t) types) m f s env → ⊥
Holds_no w decls tokens t types few h m pos f n s lt env held =
    let g = with_types (graph_of t) types in
    not_both (holds decls tokens g m f s env)
    ((holds_decides decls tokens g (typed-sound (graph_of t) types (graph_of-sound t few)) m pos f s lt env).1 held)
    (holds_no w decls tokens t types few h m f n s lt env)
