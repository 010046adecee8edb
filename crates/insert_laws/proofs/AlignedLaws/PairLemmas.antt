-- The pattern tokens of an alignment are tokens of the form.
use Rattle.std.proofs.Common.{◌≡◌, ℕ, Bool, true, false, ◌||◌, cond, refl, sym, ap, ◌∙◌, ⊎_elim, List, [], ◌∷◌, ◌++◌, map, take, drop, Option, Some, None}
use Rattle.std.specs.List.{list_any}
use Rattle.std.proofs.lemmas.List.Folds.{list_any-append}
use Rattle.c_terms.specs.declared.token.Token.{Token}
use Rattle.c_terms.specs.declared.label.Label.{Label}
use Rattle.c_terms.specs.declared.list.Member.{Member}
use Rattle.c_terms.specs.declared.shape.Shape.{Shape}
use Rattle.c_terms.specs.declared.shape.Shape.TheVariants as shape
use Rattle.c_terms.specs.declared.tree.Tree.{Tree, out-Tree}
use Rattle.c_terms.specs.declared.tree.Tree.TheVariants.{Leaf, Branch}
use Rattle.c_terms.specs.Lists.{is_comma, members}
use Rattle.c_terms.specs.Shapes.{shape_of}
use Rattle.c_terms.specs.Trees.{leaves}
use Rattle.c_terms.proofs.SameLemmas.{out-Leaf, out-Branch}
use Rattle.c_terms.proofs.TreeLemmas.{leaves-Leaf, leaves-Branch}
use Rattle.c_terms.proofs.Induct.{Each, tree_induction, tree_cases}
use Rattle.c_types.specs.Tables.{ItemTypes}
use Rattle.smpl_terms.specs.Environments.{Environment}
use Rattle.smpl_patch.specs.declared.pattern.VarDecl.{VarDecl}
use Rattle.smpl_patch.specs.declared.pattern.PatToken.{PatToken}
use Rattle.pat_match.specs.Runs.{Pair, Piece, as_comma, is_wild, comma_pairs, wild_pairs, single_pairs, taken_pairs, leftmost, runs_pairs, list_pairs}
use Rattle.pat_match.specs.Fitting.{leaf_of, first_pairs, every_pairs, zip_pairs, kids_pairs, pairs_by, piece, alignment}
use Rattle.pat_match.proofs.Pieces.{piece-Leaf, piece-Branch, piece-token}
use Rattle.ctl_fixpoint.proofs.CtlHolds.TestLemmas.{or_cases, or_left, or_right, not_both}
use Rattle.ctl_fixpoint.proofs.CtlHolds.AtomLemmas.{any_joined, or_nothing}

module _ (decls : List VarDecl) (tokens : List PatToken) (types : ItemTypes) (env : Environment) (q : Token → Bool) where
  -- the pattern token of one of the pairs passes
  abbrev pub some : List Pair → Bool
  some ps = list_any (λ (p : Pair). q p.0) ps

  -- a token of the tree passes, and of one of the trees
  abbrev pub has : Tree → Bool
  has t = list_any q (leaves t)

  abbrev pub any : List Tree → Bool
  any cs = list_any has cs

  abbrev pub Law : Tree → Type 0
  Law form = (t : Tree) → some (alignment decls tokens types env form t) ≡ true → has form ≡ true

  pub has-Leaf : (a : Token) → q a ≡ true → has (Leaf a) ≡ true
  has-Leaf a h = ap (list_any q) (leaves-Leaf a) ∙ or_left (q a) false h

  pub has-Branch : (l : Label) (cs : List Tree) → any cs ≡ true → has (Branch l cs) ≡ true
  has-Branch l cs h = ap (list_any q) (leaves-Branch l cs) ∙ any_joined q cs h

  -- the cases of what two lists of pairs have
  pub split : (xs ys : List Pair) (b : Bool) → (some xs ≡ true → b ≡ true) → (some ys ≡ true → b ≡ true) → some (xs ++ ys) ≡ true → b ≡ true
  split xs ys b f g h = ⊎_elim f g (or_cases (some xs) (some ys) (sym (list_any-append (λ (p : Pair). q p.0) xs ys) ∙ h))

  pairs-Leaf : (a : Token) (t : Tree) → alignment decls tokens types env (Leaf a) t ≡ (a, leaves t) ∷ []
  pairs-Leaf a t = ap (λ (p : Piece). p.pairs t) (piece-Leaf decls tokens types env a)

  pairs-Branch : (l : Label) (cs : List Tree) (t : Tree)
      → alignment decls tokens types env (Branch l cs) t ≡ pairs_by decls tokens types env (shape_of l) l (map (piece decls tokens types env) cs) t
  pairs-Branch l cs t = ap (λ (p : Piece). p.pairs t) (piece-Branch decls tokens types env l cs)

  leaf_law : (a : Token) → Law (Leaf a)
  leaf_law a t h = has-Leaf a (or_nothing (q a) (sym (ap some (pairs-Leaf a t)) ∙ h))

  -- a piece that has a token is a leaf with it
  token_has : (a : Token) (c : Tree) → (piece decls tokens types env c).token ≡ Some a → q a ≡ true → has c ≡ true
  token_has a c = tree_cases (λ c. (piece decls tokens types env c).token ≡ Some a → q a ≡ true → has c ≡ true)
      (λ b e h.
      let s : Some b ≡ Some a = sym (ap leaf_of (out-Leaf b)) ∙ sym (piece-token decls tokens types env (Leaf b)) ∙ e in
      let same : b ≡ a = cc in
      has-Leaf b (ap q same ∙ h))
      (λ l cs e h.
      let s : None ≡ Some a = sym (ap leaf_of (out-Branch l cs)) ∙ sym (piece-token decls tokens types env (Branch l cs)) ∙ e in
      absurd (cc))
      c

  -- ---- rows, disjunctions and conjunctions

  pub zip_law : (cs us : List Tree) → Each Law cs → some (zip_pairs (map (piece decls tokens types env) cs) us) ≡ true → any cs ≡ true
  zip_law [] us e h = h
  zip_law (c ∷ cs) [] e h = not_both false h refl
  zip_law (c ∷ cs) (u ∷ us) e h =
      split (alignment decls tokens types env c u) (zip_pairs (map (piece decls tokens types env) cs) us) (any (c ∷ cs))
      (λ a. or_left (has c) (any cs) (e.0 u a)) (λ a. or_right (has c) (any cs) (zip_law cs us e.1 a)) h

  first_by : (c : Tree) (cs : List Tree) (t : Tree) (b : Bool) → Law c → (some (first_pairs (map (piece decls tokens types env) cs) t) ≡ true → any cs ≡ true)
      → some (cond b (alignment decls tokens types env c t) (first_pairs (map (piece decls tokens types env) cs) t)) ≡ true → any (c ∷ cs) ≡ true
  first_by c cs t true law more h = or_left (has c) (any cs) (law t h)
  first_by c cs t false law more h = or_right (has c) (any cs) (more h)

  first_law : (cs : List Tree) (t : Tree) → Each Law cs → some (first_pairs (map (piece decls tokens types env) cs) t) ≡ true → any cs ≡ true
  first_law [] t e h = h
  first_law (c ∷ cs) t e h = first_by c cs t ((piece decls tokens types env c).fits t) e.0 (first_law cs t e.1) h

  cond_law : (c t : Tree) (b : Bool) → Law c → some (cond b (alignment decls tokens types env c t) []) ≡ true → has c ≡ true
  cond_law c t true law h = law t h
  cond_law c t false law h = not_both false h refl

  every_law : (cs : List Tree) (t : Tree) → Each Law cs → some (every_pairs (map (piece decls tokens types env) cs) t) ≡ true → any cs ≡ true
  every_law [] t e h = h
  every_law (c ∷ cs) t e h =
      split (cond ((piece decls tokens types env c).fits t) (alignment decls tokens types env c t) [])
      (every_pairs (map (piece decls tokens types env) cs) t) (any (c ∷ cs))
      (λ a. or_left (has c) (any cs) (cond_law c t ((piece decls tokens types env c).fits t) e.0 a))
      (λ a. or_right (has c) (any cs) (every_law cs t e.1 a)) h

  -- ---- lists

  abbrev comma_has : Option Token → Bool
  comma_has None = false
  comma_has (Some a) = q a

  comma_law : (o : Option Token) (ms : List Member) → some (comma_pairs o ms) ≡ true → comma_has o ≡ true
  comma_law None ms h = h
  comma_law (Some a) ms h = or_nothing (q a) h

  wild_law : (l : Label) (c : Tree) (ms : List Member) (o : Option Token) → (piece decls tokens types env c).token ≡ o → some (wild_pairs l o ms) ≡ true
      → has c ≡ true
  wild_law l c ms None e h = not_both false h refl
  wild_law l c ms (Some a) e h = token_has a c e (or_nothing (q a) h)

  single_law : (c : Tree) (ms : List Member) → Law c → some (single_pairs (alignment decls tokens types env c) ms) ≡ true → has c ≡ true
  single_law c [] law h = not_both false h refl
  single_law c (m ∷ ms) law h = law m.tree h

  member_law : (l : Label) (c : Tree) (ms : List Member) (b : Bool) → Law c
      → some (cond b (wild_pairs l (piece decls tokens types env c).token ms) (single_pairs (alignment decls tokens types env c) ms)) ≡ true → has c ≡ true
  member_law l c ms true law h = wild_law l c ms (piece decls tokens types env c).token refl h
  member_law l c ms false law h = single_law c ms law h

  taken_law : (l : Label) (before : Option Token) (c : Tree) (ms : List Member) → Law c
      → some (taken_pairs l before (piece decls tokens types env c) ms) ≡ true → (comma_has before || has c) ≡ true
  taken_law l before c ms law h =
      split (comma_pairs before ms)
      (cond (is_wild l (piece decls tokens types env c).token) (wild_pairs l (piece decls tokens types env c).token ms)
      (single_pairs (alignment decls tokens types env c) ms))
      (comma_has before || has c)
      (λ a. or_left (comma_has before) (has c) (comma_law before ms a))
      (λ a. or_right (comma_has before) (has c) (member_law l c ms (is_wild l (piece decls tokens types env c).token) law a)) h

  -- what is a comma is the token
  comma_token : (o : Option Token) (d : Token) → as_comma o ≡ Some d → o ≡ Some d
  comma_token None d e = absurd (cc)
  comma_token (Some a) d e = by (is_comma a) e
    where
      by : (b : Bool) → cond b (Some a) None ≡ Some d → Some a ≡ Some d
      by true e = e
      by false e = absurd (cc)

  abbrev RunsLaw : Label → List Tree → Type 0
  RunsLaw l cs = (before : Option Token) (ms : List Member) (ks : List ℕ)
      → some (runs_pairs decls tokens env l before (map (piece decls tokens types env) cs) ms ks) ≡ true → (comma_has before || any cs) ≡ true

  regroup : (a b c : Bool) → (a || b) ≡ true → (a || (b || c)) ≡ true
  regroup a b c h = ⊎_elim (λ k. or_left a (b || c) k) (λ k. or_right a (b || c) (or_left b c k)) (or_cases a b h)

  later : (a b c : Bool) → c ≡ true → (a || (b || c)) ≡ true
  later a b c h = or_right a (b || c) (or_right b c h)

  runs_none : (l : Label) (c : Tree) (cs : List Tree) → Law c → RunsLaw l cs → (before : Option Token) (ms : List Member) (ks : List ℕ)
      → some (elim ks as (λ ks. List Pair) [
        | [] ↦ []
        | k ∷ ks ↦ taken_pairs l before (piece decls tokens types env c) (take k ms)
            ++ runs_pairs decls tokens env l None (map (piece decls tokens types env) cs) (drop k ms) ks
      ]) ≡ true → (comma_has before || (has c || any cs)) ≡ true
  runs_none l c cs law ih before ms [] h = not_both false h refl
  runs_none l c cs law ih before ms (k ∷ ks) h =
      split (taken_pairs l before (piece decls tokens types env c) (take k ms))
      (runs_pairs decls tokens env l None (map (piece decls tokens types env) cs) (drop k ms) ks) (comma_has before || (has c || any cs))
      (λ a. regroup (comma_has before) (has c) (any cs) (taken_law l before c (take k ms) law a))
      (λ a. later (comma_has before) (has c) (any cs) (ih None (drop k ms) ks a)) h

  runs_step : (l : Label) (c : Tree) (cs : List Tree) → Law c → RunsLaw l cs → (before : Option Token) (ms : List Member) (ks : List ℕ) (o : Option Token)
      → as_comma (piece decls tokens types env c).token ≡ o
      → some (elim o as (λ o. List Pair) [
        | None ↦ elim ks as (λ ks. List Pair) [
          | [] ↦ []
          | k ∷ ks ↦ taken_pairs l before (piece decls tokens types env c) (take k ms)
              ++ runs_pairs decls tokens env l None (map (piece decls tokens types env) cs) (drop k ms) ks
        ]
        | Some d ↦ comma_pairs before [] ++ runs_pairs decls tokens env l (Some d) (map (piece decls tokens types env) cs) ms ks
      ]) ≡ true → (comma_has before || (has c || any cs)) ≡ true
  runs_step l c cs law ih before ms ks None e h = runs_none l c cs law ih before ms ks h
  runs_step l c cs law ih before ms ks (Some d) e h =
      split (comma_pairs before []) (runs_pairs decls tokens env l (Some d) (map (piece decls tokens types env) cs) ms ks)
      (comma_has before || (has c || any cs))
      (λ a. or_left (comma_has before) (has c || any cs) (comma_law before [] a))
      (λ a. or_right (comma_has before) (has c || any cs) (⊎_elim
      (λ k. or_left (has c) (any cs) (token_has d c (comma_token (piece decls tokens types env c).token d e) k))
      (λ k. or_right (has c) (any cs) k)
      (or_cases (q d) (any cs) (ih (Some d) ms ks a)))) h

  runs_law : (l : Label) (cs : List Tree) → Each Law cs → RunsLaw l cs
  runs_law l [] e before ms ks h = or_left (comma_has before) false (comma_law before [] h)
  runs_law l (c ∷ cs) e before ms ks h =
      runs_step l c cs e.0 (runs_law l cs e.1) before ms ks (as_comma (piece decls tokens types env c).token) refl h

  list_law : (l : Label) (cs us : List Tree) → Each Law cs → some (list_pairs decls tokens env l (map (piece decls tokens types env) cs) us) ≡ true
      → any cs ≡ true
  list_law l cs us e h =
      runs_law l cs e None (members us) (leftmost decls tokens env l None (map (piece decls tokens types env) cs) (members us)) h

  -- ---- all forms

  abbrev pub Kids : (List Piece → List Tree → List Pair) → List Tree → Tree → Type 0
  Kids pairs cs t = some (kids_pairs pairs (map (piece decls tokens types env) cs) (out-Tree t)) ≡ true → any cs ≡ true

  pub kids_law : (pairs : List Piece → List Tree → List Pair) (cs : List Tree)
      → ((us : List Tree) → some (pairs (map (piece decls tokens types env) cs) us) ≡ true → any cs ≡ true) → (t : Tree) → Kids pairs cs t
  kids_law pairs cs f = tree_cases (Kids pairs cs)
      (λ b h. not_both false (sym (ap (λ y. some (kids_pairs pairs (map (piece decls tokens types env) cs) y)) (out-Leaf b)) ∙ h) refl)
      (λ k us h. f us (sym (ap (λ y. some (kids_pairs pairs (map (piece decls tokens types env) cs) y)) (out-Branch k us)) ∙ h))

  by_shape : (r : Shape) (l : Label) (cs : List Tree) → Each Law cs → (t : Tree)
      → some (pairs_by decls tokens types env r l (map (piece decls tokens types env) cs) t) ≡ true → any cs ≡ true
  by_shape shape.Or l cs e t h = first_law cs t e h
  by_shape shape.And l cs e t h = every_law cs t e h
  by_shape shape.List l cs e t h = kids_law (list_pairs decls tokens env l) cs (λ us k. list_law l cs us e k) t h
  by_shape shape.Plain l cs e t h = kids_law zip_pairs cs (λ us k. zip_law cs us e k) t h

  pub tree_law : (form : Tree) → Law form
  tree_law = tree_induction Law leaf_law
      (λ l cs e t h. has-Branch l cs (by_shape (shape_of l) l cs e t (sym (ap some (pairs-Branch l cs t)) ∙ h)))
