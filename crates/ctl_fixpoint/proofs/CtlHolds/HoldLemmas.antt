-- `holds` decides `Holds`.
use Rattle.std.proofs.Common.{◌≡◌, ℕ, ◌<◌, Bool, true, false, ◌&&◌, ◌||◌, not, refl, sym, ap, ◌∙◌, subst, List, Option, None}
use Rattle.std.proofs.Common.{Some, slice_get, ◌⊎◌, inl, inr, ⊎_elim, Contains}
use Rattle.std.specs.Bool.{Decides}
use Rattle.std.specs.List.{list_any, list_all}
use Rattle.cfg_build.specs.CfgGraph.Flow.{Flow, IsSound, count_of, succ_of, past_of, down_of}
use Rattle.smpl_terms.specs.Environments.{Environment, change}
use Rattle.smpl_patch.specs.declared.pattern.VarDecl.{VarDecl}
use Rattle.smpl_patch.specs.declared.pattern.PatToken.{PatToken}
use Rattle.ctl_formula.specs.Plain.{Plain, True, Atom, EarlyExit, BraceOpen, BraceClose, Inside, Outside, Not, And, Or, AX, EX, AU}
use Rattle.ctl_formula.specs.Plain.{EU, After, InBranch, Exists}
use Rattle.ctl_fixpoint.specs.CtlHolds.Values.{values_of}
use Rattle.ctl_fixpoint.specs.CtlHolds.Holding.{Holds}
use Rattle.ctl_fixpoint.specs.CtlHolds.Rounds.{passes_there, holds}
use Rattle.ctl_fixpoint.proofs.CtlHolds.TestLemmas.{or_cases, or_left, or_right, and_left, and_right, and_both, true_or_false, not_both}
use Rattle.ctl_fixpoint.proofs.CtlHolds.TestLemmas.{any_found, any_has, all_has, all_lacks}
use Rattle.ctl_fixpoint.proofs.CtlHolds.GraphLemmas.{node_after, past_node, down_node}
use Rattle.ctl_fixpoint.proofs.CtlHolds.WalkLemmas.{some_decides, every_decides}

not_decides : {P : Type 0} (b : Bool) → Decides b P → Decides (not b) (P → ⊥)
not_decides true d = (λ h. absurd (cc), λ n. absurd (n (d.0 refl)))
not_decides false d = (λ h p. not_both false (d.1 p) refl, λ n. refl)

and_decides : {P Q : Type 0} (a b : Bool) → Decides a P → Decides b Q → Decides (a && b) (P × Q)
and_decides a b d e =
    (λ h. (d.0 (and_left a b h), e.0 (and_right a b h)), λ w. and_both a b (d.1 w.0) (e.1 w.1))

or_decides : {P Q : Type 0} (a b : Bool) → Decides a P → Decides b Q → Decides (a || b) (P ⊎ Q)
or_decides a b d e = (
  λ h. ⊎_elim (λ x. inl (d.0 x)) (λ y. inr (e.0 y)) (or_cases a b h),
  λ w. ⊎_elim (λ x. or_left a b (d.1 x)) (λ y. or_right a b (e.1 y)) w,
)

all_decides : {X : Type 0} (x : X → Bool) (P : X → Type 0) (l : List X) → ((k : X) → Contains l k → Decides (x k) (P k))
    → Decides (list_all x l) ((k : X) → Contains l k → P k)
all_decides x P l d = (
  λ h k c. (d k c).0 (all_has x k l c h),
  λ all. ⊎_elim
      (λ t. t)
      (λ f. let r = all_lacks x l f in not_both (x r.0) ((d r.0 r.1).1 (all r.0 r.1)) r.2)
      (true_or_false (list_all x l)),
)

any_decides : {X : Type 0} (x : X → Bool) (P : X → Type 0) (l : List X) → ((k : X) → Contains l k → Decides (x k) (P k))
    → Decides (list_any x l) ((k : X) × Contains l k × P k)
any_decides x P l d = (
  λ h. let r = any_found x l h in (r.0, r.1, (d r.0 r.1).0 r.2),
  λ w. any_has x w.0 l w.1 ((d w.0 w.1).1 w.2),
)

none_some : {X : Type 0} {x : X} → None ≡ Some x → ⊥
none_some e = absurd (cc)

there_decides : (x : ℕ → Bool) (P : ℕ → Type 0) (o : Option ℕ) → ((k : ℕ) → o ≡ Some k → Decides (x k) (P k))
    → Decides (passes_there x o) ((k : ℕ) × (o ≡ Some k) × P k)
there_decides x P None d = (λ h. not_both false h refl, λ w. absurd (none_some w.1))
there_decides x P (Some j) d = (
  λ h. (j, refl, (d j refl).0 h),
  λ w. let same : w.0 ≡ j = let e = w.1 in cc in subst (λ k. x k ≡ true) same ((d w.0 w.1).1 w.2),
)

module _ (decls : List VarDecl) (tokens : List PatToken) (g : Flow) (ok : IsSound g) (m : ℕ) (pos : 0 < m) where
  pub holds_decides : (f : Plain) (s : ℕ) → s < count_of g → (env : Environment)
      → Decides (holds decls tokens g m f s env) (Holds decls tokens g m f s env)
  holds_decides True s lt env = (λ h. tt, λ w. refl)
  holds_decides (Atom p) s lt env = (λ h. h, λ w. w)
  holds_decides EarlyExit s lt env = (λ h. h, λ w. w)
  holds_decides (BraceOpen p b) s lt env = (λ h. h, λ w. w)
  holds_decides (BraceClose p b) s lt env = (λ h. h, λ w. w)
  holds_decides (Inside b) s lt env = (λ h. h, λ w. w)
  holds_decides (Outside b) s lt env = (λ h. h, λ w. w)
  holds_decides (Not f) s lt env = not_decides _ (holds_decides f s lt env)
  holds_decides (And f h) s lt env = and_decides _ _ (holds_decides f s lt env) (holds_decides h s lt env)
  holds_decides (Or f h) s lt env = or_decides _ _ (holds_decides f s lt env) (holds_decides h s lt env)
  holds_decides (AX f) s lt env =
      all_decides (λ k. holds decls tokens g m f k env) (λ k. Holds decls tokens g m f k env) (succ_of g s)
      (λ k c. holds_decides f k (node_after g ok s k lt c) env)
  holds_decides (EX f) s lt env =
      any_decides (λ k. holds decls tokens g m f k env) (λ k. Holds decls tokens g m f k env) (succ_of g s)
      (λ k c. holds_decides f k (node_after g ok s k lt c) env)
  holds_decides (AU f h) s lt env =
      every_decides g ok (λ k. Holds decls tokens g m f k env) (λ k. Holds decls tokens g m h k env)
      (λ k. holds decls tokens g m f k env) (λ k. holds decls tokens g m h k env)
      (λ k l. holds_decides f k l env) (λ k l. holds_decides h k l env) m s pos lt
  holds_decides (EU f h) s lt env =
      some_decides g ok (λ k. Holds decls tokens g m f k env) (λ k. Holds decls tokens g m h k env)
      (λ k. holds decls tokens g m f k env) (λ k. holds decls tokens g m h k env)
      (λ k l. holds_decides f k l env) (λ k l. holds_decides h k l env) m s lt
  holds_decides (After f) s lt env =
      there_decides (λ k. holds decls tokens g m f k env) (λ k. Holds decls tokens g m f k env) (past_of g s)
      (λ k e. holds_decides f k (past_node g ok s k lt e) env)
  holds_decides (InBranch i f) s lt env =
      there_decides (λ k. holds decls tokens g m f k env) (λ k. Holds decls tokens g m f k env) (slice_get (down_of g s) i)
      (λ k e. holds_decides f k (down_node g ok s i k lt e) env)
  holds_decides (Exists x f) s lt env =
      any_decides (λ v. holds decls tokens g m f s (change env x v)) (λ v. Holds decls tokens g m f s (change env x v))
      (values_of g) (λ v c. holds_decides f s lt (change env x v))
