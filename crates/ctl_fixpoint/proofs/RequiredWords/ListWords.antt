-- The same for lists, and so for all forms.
use Rattle.std.proofs.Common.{◌≡◌, ℕ, suc, zero, ◌<◌, Bool, true, false, ◌&&◌, ◌||◌, cond, refl, sym, ap, ◌∙◌, arith, List, []}
use Rattle.std.proofs.Common.{◌∷◌, map, length, take, drop, Option, Some, None, ⊎_elim, if◌then◌else◌}
use Rattle.std.specs.List.{list_any}
use Rattle.c_terms.specs.declared.token.Token.{Token}
use Rattle.c_terms.specs.declared.token.TokenKind.{TokenKind}
use Rattle.c_terms.specs.declared.token.TokenKind.TheVariants as kind
use Rattle.c_terms.specs.declared.label.Label.{Label}
use Rattle.c_terms.specs.declared.list.Member.{Member}
use Rattle.c_terms.specs.declared.tree.Tree.{Tree, out-Tree}
use Rattle.c_terms.specs.Lists.{is_punct, is_comma, comma, comma_at, members, members_from}
use Rattle.c_terms.proofs.SameLemmas.{out-Leaf, out-Branch}
use Rattle.c_terms.proofs.Induct.{Each, tree_cases}
use Rattle.c_types.specs.Tables.{ItemTypes}
use Rattle.smpl_terms.specs.Environments.{Environment}
use Rattle.smpl_patch.specs.declared.pattern.VarDecl.{VarDecl}
use Rattle.smpl_patch.specs.declared.pattern.PatToken.{PatToken}
use Rattle.pat_match.specs.Runs.{is_wild_kind, is_wild, comma_fits, run_fits, single_fits, takes, some_below, runs_from, list_fits}
use Rattle.pat_match.specs.Fitting.{leaf_of, kids_fit, piece, fits_tree}
use Rattle.pat_match.proofs.Pieces.{piece-token}
use Rattle.pat_match.proofs.RowLemmas.{choice}
use Rattle.ctl_fixpoint.specs.RequiredWords.Words.{is_word_kind, is_word, has_word, spells}
use Rattle.ctl_fixpoint.proofs.RequiredWords.WordLemmas.{and_left, and_right, or_cases, or_left, or_right, not_both, word-kid, spells-Leaf}
use Rattle.ctl_fixpoint.proofs.RequiredWords.FitWords.{any_spells, Law, Fit, ListLaw, fit_law}
use Rattle.pat_match.proofs.SureLists.{any_drop, any_take, below_elim}

cond_false : (b x y : Bool) → b ≡ false → cond b x y ≡ true → y ≡ true
cond_false true x y e h = absurd (cc)
cond_false false x y e h = h

-- the kinds of words are neither of these kinds

word_not_wild : (l : Label) (k : TokenKind) → is_word_kind k ≡ true → is_wild_kind l k ≡ false
word_not_wild l (kind.Meta k) h = absurd (cc)
word_not_wild l kind.Dots h = absurd (cc)
word_not_wild l _ h = refl

punct_word : (k : TokenKind) → is_punct k ≡ true → is_word_kind k ≡ false
punct_word kind.Punct h = refl
punct_word _ h = absurd (cc)

chosen : (a c : Token) (b : Bool) → (if b then Some a else None) ≡ Some c → b ≡ true
chosen a c true h = refl
chosen a c false h = absurd (cc)

module _ (w : List ℕ) where
  abbrev in_member : Member → Bool
  in_member m = has_word w m.tree

  -- a form that spells a word takes no run, and is no comma

  not_wild : (l : Label) (c : Tree) → spells w c ≡ true → is_wild l (leaf_of (out-Tree c)) ≡ false
  not_wild l = tree_cases (λ c. spells w c ≡ true → is_wild l (leaf_of (out-Tree c)) ≡ false)
      (λ a h. ap (λ y. is_wild l (leaf_of y)) (out-Leaf a) ∙ word_not_wild l a.kind (and_left _ _ (sym (spells-Leaf w a) ∙ h)))
      (λ k cs h. ap (λ y. is_wild l (leaf_of y)) (out-Branch k cs))

  no_comma : (d : Token) (c : Tree) → comma c ≡ Some d → spells w c ≡ true → ⊥
  no_comma d = tree_cases (λ c. comma c ≡ Some d → spells w c ≡ true → ⊥)
      (λ a h s.
      let e : (if is_comma a then Some a else None) ≡ Some d = sym (ap comma_at (out-Leaf a)) ∙ h in
      let p : is_comma a ≡ true = chosen a d (is_comma a) e in
      let q : is_word w a ≡ true = sym (spells-Leaf w a) ∙ s in
      not_both (is_word_kind a.kind) (and_left _ _ q) (punct_word a.kind (and_left _ _ p)))
      (λ l cs h s. let f = sym (ap comma_at (out-Branch l cs)) ∙ h in absurd (cc))

  -- the members of a list are among its children

  kid_step : (b : Option Token) (u : Tree) (us : List Tree) (o : Option Token)
      → ((c : Option Token) → list_any in_member (members_from c us) ≡ true → list_any (has_word w) us ≡ true)
      → list_any in_member (elim o as (λ o. List Member) [
        | None ↦ record { comma = b; tree = u } ∷ members_from None us
        | Some c ↦ members_from (Some c) us
      ]) ≡ true
      → list_any (has_word w) (u ∷ us) ≡ true
  kid_step b u us None ih h = ⊎_elim (λ a. or_left _ _ a) (λ a. or_right _ _ (ih None a))
      (or_cases (has_word w u) (list_any in_member (members_from None us)) h)
  kid_step b u us (Some c) ih h = or_right _ _ (ih (Some c) h)

  kid_of : (us : List Tree) (b : Option Token) → list_any in_member (members_from b us) ≡ true → list_any (has_word w) us ≡ true
  kid_of [] b h = absurd (cc)
  kid_of (u ∷ us) b h = kid_step b u us (comma u) (kid_of us) h

module _ (decls : List VarDecl) (tokens : List PatToken) (types : ItemTypes) (env : Environment) (w : List ℕ) (l : Label) where
  single_law : (c : Tree) (ms : List Member) → Law decls tokens types env w c → single_fits (fits_tree decls tokens types env c) ms ≡ true → spells w c ≡ true
      → list_any (in_member w) ms ≡ true
  single_law c [] law h s = absurd (cc)
  single_law c (m ∷ []) law h s = or_left _ _ (law m.tree h s)
  single_law c (m ∷ n ∷ ms) law h s = absurd (cc)

  member_law : (c : Tree) (ms : List Member) → Law decls tokens types env w c
      → cond (is_wild l (piece decls tokens types env c).token) (run_fits decls tokens env l (piece decls tokens types env c).token ms)
      (single_fits (fits_tree decls tokens types env c) ms) ≡ true
      → spells w c ≡ true → list_any (in_member w) ms ≡ true
  member_law c ms law h s =
      single_law c ms law
      (cond_false (is_wild l (piece decls tokens types env c).token) _ _ (ap (is_wild l) (piece-token decls tokens types env c) ∙ not_wild w l c s) h) s

  abbrev RunsLaw : List Tree → Type 0
  RunsLaw cs = (before : Option Token) (ms : List Member) → runs_from decls tokens env l before (map (piece decls tokens types env) cs) ms ≡ true
      → any_spells decls tokens types env w cs ≡ true → list_any (in_member w) ms ≡ true

  runs_step : (c : Tree) (cs : List Tree) → Law decls tokens types env w c → RunsLaw cs → (before : Option Token) (ms : List Member) (o : Option Token)
      → comma c ≡ o
      → elim o as (λ o. Bool) [
        | None ↦ some_below (λ k. takes decls tokens env l before (piece decls tokens types env c) (take k ms)
            && runs_from decls tokens env l None (map (piece decls tokens types env) cs) (drop k ms)) (suc (length ms))
        | Some d ↦ comma_fits decls tokens env before [] && runs_from decls tokens env l (Some d) (map (piece decls tokens types env) cs) ms
      ] ≡ true
      → (spells w c || any_spells decls tokens types env w cs) ≡ true → list_any (in_member w) ms ≡ true
  runs_step c cs law ih before ms None e h s =
      let r = below_elim _ (suc (length ms)) h in
      ⊎_elim
      (λ a. any_take (in_member w) ms r.0 (member_law c (take r.0 ms) law (and_right _ _ (and_left _ _ r.2)) a))
      (λ a. any_drop (in_member w) ms r.0 (ih None (drop r.0 ms) (and_right _ _ r.2) a))
      (or_cases (spells w c) (any_spells decls tokens types env w cs) s)
  runs_step c cs law ih before ms (Some d) e h s =
      ⊎_elim
      (λ a. absurd (no_comma w d c e a))
      (λ a. ih (Some d) ms (and_right _ _ h) a)
      (or_cases (spells w c) (any_spells decls tokens types env w cs) s)

  runs_law : (cs : List Tree) → Each (Law decls tokens types env w) cs → RunsLaw cs
  runs_law [] e before ms h s = absurd (cc)
  runs_law (c ∷ cs) e before ms h s =
      runs_step c cs e.0 (runs_law cs e.1) before ms (comma c) refl (sym (choice decls tokens types l env before c cs ms (comma c) refl) ∙ h) s

module _ (decls : List VarDecl) (tokens : List PatToken) (types : ItemTypes) (env : Environment) (w : List ℕ) where
  list_law : ListLaw decls tokens types env w
  list_law l cs laws = tree_cases (Fit decls tokens types env w (list_fits decls tokens env l) l cs)
      (λ b h s. let f = sym (ap (kids_fit (list_fits decls tokens env l) l (map (piece decls tokens types env) cs)) (out-Leaf b)) ∙ h in absurd (cc))
      (λ k us h s.
      let f = sym (ap (kids_fit (list_fits decls tokens env l) l (map (piece decls tokens types env) cs)) (out-Branch k us)) ∙ h in
      word-kid w k us (kid_of w us None (runs_law decls tokens types env w l cs laws None (members us) (and_right _ _ f) s)))

  -- if the form fits the tree, each word that it spells is one of the tree's tokens
  pub fits_word : (form t : Tree) → fits_tree decls tokens types env form t ≡ true → spells w form ≡ true → has_word w t ≡ true
  fits_word form = fit_law decls tokens types env w list_law form
