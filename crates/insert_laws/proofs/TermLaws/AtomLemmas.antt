-- If an atom matches, each of its sure variables that is no position has a term.
use Rattle.std.proofs.Common.{◌≡◌, ℕ, suc, Bool, true, ◌&&◌, refl, List, [], ◌∷◌}
use Rattle.std.proofs.Common.{slice_get, ⊎_elim}
use Rattle.std.specs.List.{list_any}
use Rattle.c_terms.specs.declared.token.Token.{Token}
use Rattle.c_terms.specs.declared.token.TokenKind.TheVariants as token_kind
use Rattle.c_terms.specs.declared.tree.Tree.{Tree}
use Rattle.c_terms.specs.Trees.{leaves}
use Rattle.c_terms.specs.Places.{Place as Seat}
use Rattle.c_types.specs.Tables.{ItemTypes}
use Rattle.smpl_terms.specs.declared.var.Var.{Var}
use Rattle.smpl_terms.specs.declared.value.Value.TheVariants.{Place}
use Rattle.smpl_terms.specs.Values.{same}
use Rattle.smpl_terms.specs.Environments.{Environment}
use Rattle.cfg_build.specs.declared.cfg_graph.label.NodeKind.{NodeKind}
use Rattle.cfg_build.specs.declared.cfg_graph.label.NodeLabel.{NodeLabel}
use Rattle.cfg_build.specs.CfgGraph.Flow.{Flow}
use Rattle.smpl_patch.specs.declared.pattern.VarDecl.{VarDecl}
use Rattle.smpl_patch.specs.declared.pattern.PatToken.{PatToken}
use Rattle.smpl_patch.specs.declared.pattern.Pattern.{Pattern}
use Rattle.smpl_patch.specs.declared.pattern.Spot.{Spot}
use Rattle.smpl_patch.specs.Held.{held}
use Rattle.smpl_patch.specs.Patterns.{is_meta_of, is_position_of, is_own, held_sure, in_first, sure}
use Rattle.pat_match.specs.Spots.{seats}
use Rattle.pat_match.specs.Roles.{role_of}
use Rattle.pat_match.specs.declared.role.NodeRole.{NodeRole}
use Rattle.pat_match.specs.Matching.{token_passes, keeps, is_live, fits_seat, matches}
use Rattle.ctl_fixpoint.specs.CtlHolds.Holding.{atom_at, brace_at}
use Rattle.ctl_fixpoint.specs.CtlHolds.BoundLaw.{SureStand}
use Rattle.ctl_fixpoint.proofs.CtlHolds.TestLemmas.{or_cases, and_left, and_right, any_found, all_has}
use Rattle.ctl_fixpoint.proofs.CtlHolds.AtomLemmas.{label_of}
use Rattle.insert_laws.specs.TermLaws.Terms.{is_term, IsNoPosition}
use Rattle.insert_laws.proofs.TermLaws.HeldLemmas.{held_has_term}
use Rattle.ctl_fixpoint.proofs.CtlHolds.AtomLemmas.{held_leaves, kept_sure, meta_at, position_at}

-- what stands in a part of a form that is compared stands in the form

-- the other forms that match have each sure variable of the first as a sure one

module _ (decls : List VarDecl) (tokens : List PatToken) (types : ItemTypes) (env : Environment) (x : Var) (off : IsNoPosition tokens x) where
  token_at : (q : Var → Bool) (a : Token) → token_passes decls tokens q a ≡ true → is_own decls tokens x a ≡ true → q x ≡ true
  token_at q a h e = ⊎_elim
      (λ m. meta_at decls q x a.kind a (and_left _ _ h) m)
      (λ p. position_at q x (slice_get tokens a.id) (and_right _ _ h) p)
      (or_cases (is_meta_of decls a a.kind x) (is_position_of (slice_get tokens a.id) x) e)

  live_form : (s : Spot) (first form : Tree) → held_sure decls tokens s x first ≡ true
      → list_any (λ t. list_any (is_own decls tokens x) (leaves t)) (held s first) ≡ true
      → is_live decls tokens s first form ≡ true → held_sure decls tokens s x form ≡ true
  live_form s first form e h l =
      let a = any_found (is_own decls tokens x) (leaves first) (held_leaves (is_own decls tokens x) s first h) in
      kept_sure _ _ e
      (token_at (keeps decls tokens s first form) a.0
      (all_has (token_passes decls tokens (keeps decls tokens s first form)) a.0 (leaves first) a.1 l) a.2)

  first_form : (s : Spot) (form : Tree) (fs : List Tree) → in_first (held_sure decls tokens s x) fs ≡ true
      → in_first (λ f. list_any (λ t. list_any (is_own decls tokens x) (leaves t)) (held s f)) fs ≡ true
      → in_first (λ first. is_live decls tokens s first form) fs ≡ true → held_sure decls tokens s x form ≡ true
  first_form s form [] e h l = absurd (cc)
  first_form s form (first ∷ fs) e h l = live_form s first form e h l

  seat_law : (p : Pattern) (r : NodeRole) (form t : Tree) → sure decls tokens p x ≡ true → SureStand decls tokens p
      → fits_seat decls tokens types env p r form t ≡ true → is_term (env x) ≡ true
  seat_law p r form t e stand h =
      held_has_term decls tokens types env x p.spot r.kind form t off (and_right _ _ h)
      (first_form p.spot form p.forms e (stand x e) (and_left _ _ (and_left _ _ h)))

  pub match_law : (p : Pattern) (l : NodeLabel) → sure decls tokens p x ≡ true → SureStand decls tokens p
      → matches decls tokens types env p l ≡ true → is_term (env x) ≡ true
  match_law p l e stand h =
      let f = any_found
      (λ f. list_any (λ (s : Seat). fits_seat decls tokens types env p (role_of l) f s.tree) (seats p.spot l.kind l.tree)) p.forms h in
      let t = any_found (λ (s : Seat). fits_seat decls tokens types env p (role_of l) f.0 s.tree) (seats p.spot l.kind l.tree) f.2 in
      seat_law p (role_of l) f.0 t.0.tree e stand t.2

module _ (decls : List VarDecl) (tokens : List PatToken) (env : Environment) (x : Var) (off : IsNoPosition tokens x) where
  pub atom_term : (g : Flow) (p : Pattern) (s : ℕ) → SureStand decls tokens p → sure decls tokens p x ≡ true
      → atom_at decls tokens g p s env ≡ true → is_term (env x) ≡ true
  atom_term g p s stand e h =
      let l = label_of g s (λ l. matches decls tokens g.types env p l) (slice_get g.labels s) refl h in
      match_law decls tokens g.types env x off p l.0 e stand l.2

  pub brace_term : (g : Flow) (p : Pattern) (s : ℕ) → SureStand decls tokens p → (is : NodeKind → Bool) (b : Var) → sure decls tokens p x ≡ true
      → brace_at decls tokens g is p b s env ≡ true → is_term (env x) ≡ true
  brace_term g p s stand is b e h =
      let l = label_of g s (λ l. is l.kind && same (Place l.brace) (env b) && matches decls tokens g.types env p l)
      (slice_get g.labels s) refl h in
      match_law decls tokens g.types env x off p l.0 e stand (and_right _ _ l.2)
