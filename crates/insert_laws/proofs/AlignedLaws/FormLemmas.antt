-- Tokens with positions or plus code in the compared part of a form of a tree are in the compared part of the tree.
use Rattle.std.proofs.Common.{◌≡◌, ℕ, suc, Bool, true, false, refl, sym, ap, ◌∙◌, subst, ⊎_elim, List, [], ◌∷◌, ◌++◌, map, length, slice_get, if◌then◌else◌}
use Rattle.std.specs.Prelude.{All}
use Rattle.std.specs.List.{list_any, list_all}
use Rattle.std.proofs.lemmas.List.Elements.{All-nil, All-cons}
use Rattle.std.proofs.lemmas.List.Folds.{list_any-append}
use Rattle.c_terms.specs.declared.token.Token.{Token}
use Rattle.c_terms.specs.declared.label.Label.{Label}
use Rattle.c_terms.specs.declared.tree.Tree.{Tree}
use Rattle.c_terms.specs.declared.tree.Tree.TheVariants.{Leaf, Branch}
use Rattle.c_terms.specs.Trees.{leaves, join}
use Rattle.c_terms.proofs.SameLemmas.{out-Branch}
use Rattle.c_terms.proofs.TreeLemmas.{leaves-Branch}
use Rattle.c_terms.proofs.Induct.{Each, tree_induction}
use Rattle.smpl_patch.specs.declared.pattern.PatToken.{PatToken}
use Rattle.smpl_patch.specs.declared.pattern.Spot.{Spot}
use Rattle.smpl_patch.specs.declared.rule.Iso.{Iso}
use Rattle.smpl_patch.specs.Held.{is_split_into_nodes, is_held, kept, held_at}
use Rattle.iso_expand.specs.IsoForms.Kinds.{is_expression}
use Rattle.iso_expand.specs.IsoForms.Replacing.{is_plain, becomes}
use Rattle.iso_expand.specs.IsoForms.Forms.{choices, is_among, with_form, with_forms, branches, with_iso, with_isos, of_choices, forms}
use Rattle.iso_expand.proofs.IsoForms.FormLemmas.{forms-Leaf, forms-Branch}
use Rattle.sound_laws.proofs.IsoLaws.GoodLemmas.{each-append, left_true, right_true}
use Rattle.ctl_fixpoint.proofs.CtlHolds.TestLemmas.{or_cases, or_left, or_right, not_both}
use Rattle.ctl_fixpoint.proofs.CtlHolds.AtomLemmas.{any_joined, or_nothing, held_leaves}
use Rattle.insert_laws.specs.AlignedLaws.Compared.{compared}
use Rattle.insert_laws.proofs.AlignedLaws.PlainLemmas.{plain, AllPlain, becomes_plain}

-- ---- lists

each-join : (Q : Tree → Type 0) (f : Tree → List Tree) → ((t : Tree) → Each Q (f t)) → (ts : List Tree) → Each Q (join (map f ts))
each-join Q f h [] = tt
each-join Q f h (t ∷ ts) = each-append Q (f t) (join (map f ts)) (h t) (each-join Q f h ts)

form-each : (Q : Tree → Type 0) (list : List Tree) (t : Tree) → Each Q list → Q t → Each Q (with_form list t)
form-each Q list t e q = by (is_among list t)
  where
    by : (b : Bool) → Each Q (if b then list else list ++ t ∷ [])
    by true = e
    by false = each-append Q list (t ∷ []) e (q, tt)

forms-each : (Q : Tree → Type 0) (list more : List Tree) → Each Q list → Each Q more → Each Q (with_forms list more)
forms-each Q list [] e m = e
forms-each Q list (t ∷ ts) e m = forms-each Q (with_form list t) ts (form-each Q list t e m.0) m.1

each-all : (Q : Tree → Type 0) (ts : List Tree) → Each Q ts → All Q ts
each-all Q [] e = All-nil Q
each-all Q (t ∷ ts) e = All-cons Q t ts e.0 (each-all Q ts e.1)

each-more : (Q R : Tree → Type 0) → ((t : Tree) → Q t → R t) → (ts : List Tree) → Each Q ts → Each R ts
each-more Q R f [] e = tt
each-more Q R f (t ∷ ts) e = (f t e.0, each-more Q R f ts e.1)

module _ (tokens : List PatToken) (q : Token → Bool) (marked : (a : Token) → q a ≡ true → is_plain (slice_get tokens a.id) ≡ false) where
  abbrev has : Tree → Bool
  has t = list_any q (leaves t)

  abbrev any : List Tree → Bool
  any cs = list_any has cs

  -- the second tree has no such tokens but where the first one has
  record Keeps (t f : Tree) : Type 0 where
    whole : has f ≡ true → has t ≡ true
    at : (s : Spot) → compared q s f ≡ true → compared q s t ≡ true

  none_plain : (ts : List Token) → list_all (plain tokens) ts ≡ true → list_any q ts ≡ true → ⊥
  none_plain [] h k = not_both false k refl
  none_plain (a ∷ ts) h k = ⊎_elim
      (λ m. not_both (plain tokens a) (left_true (plain tokens a) (list_all (plain tokens) ts) h) (marked a m))
      (λ m. none_plain ts (right_true (plain tokens a) (list_all (plain tokens) ts) h) m)
      (or_cases (q a) (list_any q ts) k)

  plain_keeps : (t f : Tree) → AllPlain tokens f → Keeps t f
  plain_keeps t f h = record {
    whole = λ k. absurd (none_plain (leaves f) h k);
    at = λ s k. absurd (none_plain (leaves f) h (held_leaves q s f k));
  }

  -- ---- a branch of one form of each child

  abbrev AreForms : List Tree → List Tree → Type 0
  AreForms [] [] = Unit {0}
  AreForms (c ∷ cs) [] = ⊥
  AreForms [] (f ∷ fs) = ⊥
  AreForms (c ∷ cs) (f ∷ fs) = Keeps c f × AreForms cs fs

  same_length : (cs fs : List Tree) → AreForms cs fs → length fs ≡ length cs
  same_length [] [] h = refl
  same_length (c ∷ cs) [] h = absurd h
  same_length [] (f ∷ fs) h = absurd h
  same_length (c ∷ cs) (f ∷ fs) h = ap suc (same_length cs fs h.1)

  any_kept : (cs fs : List Tree) → AreForms cs fs → any fs ≡ true → any cs ≡ true
  any_kept [] [] h k = k
  any_kept (c ∷ cs) [] h k = absurd h
  any_kept [] (f ∷ fs) h k = absurd h
  any_kept (c ∷ cs) (f ∷ fs) h k =
      ⊎_elim (λ a. or_left (has c) (any cs) (h.0.whole a)) (λ a. or_right (has c) (any cs) (any_kept cs fs h.1 a)) (or_cases (has f) (any fs) k)

  some_kept : (test : ℕ → Bool) (i : ℕ) (cs fs : List Tree) → AreForms cs fs → any (kept test i fs) ≡ true → any (kept test i cs) ≡ true
  some_kept test i [] [] h k = k
  some_kept test i (c ∷ cs) [] h k = absurd h
  some_kept test i [] (f ∷ fs) h k = absurd h
  some_kept test i (c ∷ cs) (f ∷ fs) h k = by (test i) (some_kept test (suc i) cs fs h.1) k
    where
      by : (b : Bool) → (any (kept test (suc i) fs) ≡ true → any (kept test (suc i) cs) ≡ true)
          → any (if b then f ∷ kept test (suc i) fs else kept test (suc i) fs) ≡ true
          → any (if b then c ∷ kept test (suc i) cs else kept test (suc i) cs) ≡ true
      by true more k = ⊎_elim
          (λ a. or_left (has c) (any (kept test (suc i) cs)) (h.0.whole a)) (λ a. or_right (has c) (any (kept test (suc i) cs)) (more a))
          (or_cases (has f) (any (kept test (suc i) fs)) k)
      by false more k = more k

  split_joined : (fs : List Tree) → list_any q (join (map leaves fs)) ≡ true → any fs ≡ true
  split_joined [] h = h
  split_joined (f ∷ fs) h = ⊎_elim (λ a. or_left (has f) (any fs) a) (λ a. or_right (has f) (any fs) (split_joined fs a))
      (or_cases (has f) (list_any q (join (map leaves fs))) (sym (list_any-append q (leaves f) (join (map leaves fs))) ∙ h))

  branch_whole : (l : Label) (cs fs : List Tree) → AreForms cs fs → has (Branch l fs) ≡ true → has (Branch l cs) ≡ true
  branch_whole l cs fs h k =
      ap (list_any q) (leaves-Branch l cs)
      ∙ any_joined q cs (any_kept cs fs h (split_joined fs (sym (ap (list_any q) (leaves-Branch l fs)) ∙ k)))

  branch_at : (l : Label) (cs fs : List Tree) → AreForms cs fs → (s : Spot) (b : Bool)
      → any (if b then kept (is_held s l (length fs)) 0 fs else Branch l fs ∷ []) ≡ true
      → any (if b then kept (is_held s l (length cs)) 0 cs else Branch l cs ∷ []) ≡ true
  branch_at l cs fs h s true k =
      some_kept (is_held s l (length cs)) 0 cs fs h (sym (ap (λ n. any (kept (is_held s l n) 0 fs)) (same_length cs fs h)) ∙ k)
  branch_at l cs fs h s false k = or_left (has (Branch l cs)) false (branch_whole l cs fs h (or_nothing (has (Branch l fs)) k))

  branch_keeps : (l : Label) (cs fs : List Tree) → AreForms cs fs → Keeps (Branch l cs) (Branch l fs)
  branch_keeps l cs fs h = record {
    whole = branch_whole l cs fs h;
    at = λ s k.
        ap (λ y. any (held_at s y (Branch l cs))) (out-Branch l cs)
        ∙ branch_at l cs fs h s (is_split_into_nodes s l) (sym (ap (λ y. any (held_at s y (Branch l fs))) (out-Branch l fs)) ∙ k);
  }

  -- ---- choices

  abbrev EachForms : List Tree → List (List Tree) → Type 0
  EachForms cs [] = Unit {0}
  EachForms cs (fs ∷ css) = AreForms cs fs × EachForms cs css

  forms-append : (cs : List Tree) (css more : List (List Tree)) → EachForms cs css → EachForms cs more → EachForms cs (css ++ more)
  forms-append cs [] more h k = k
  forms-append cs (fs ∷ css) more h k = (h.0, forms-append cs css more h.1 k)

  forms-before : (c t : Tree) (cs : List Tree) (css : List (List Tree)) → Keeps c t → EachForms cs css
      → EachForms (c ∷ cs) (map (λ fs. t ∷ fs) css)
  forms-before c t cs [] k h = tt
  forms-before c t cs (fs ∷ css) k h = ((k, h.0), forms-before c t cs css k h.1)

  forms-join : (c : Tree) (cs : List Tree) (css : List (List Tree)) (ts : List Tree) → Each (Keeps c) ts → EachForms cs css
      → EachForms (c ∷ cs) (join (map (λ t. map (λ fs. t ∷ fs) css) ts))
  forms-join c cs css [] e h = tt
  forms-join c cs css (t ∷ ts) e h =
      forms-append (c ∷ cs) (map (λ fs. t ∷ fs) css) (join (map (λ u. map (λ fs. u ∷ fs) css) ts)) (forms-before c t cs css e.0 h)
      (forms-join c cs css ts e.1 h)

  branches_keep : (l : Label) (cs : List Tree) (css : List (List Tree)) → EachForms cs css → Each (Keeps (Branch l cs)) (branches l css)
  branches_keep l cs [] h = tt
  branches_keep l cs (fs ∷ css) h = (branch_keeps l cs fs h.0, branches_keep l cs css h.1)

  -- ---- forms

  module _ (isos : List Iso) where
    isos_keep : (t : Tree) (more : List Iso) (list : List Tree) → Each (Keeps t) list → Each (Keeps t) (with_isos tokens list more)
    isos_keep t [] list e = e
    isos_keep t (iso ∷ more) list e =
        isos_keep t more (with_iso tokens list iso)
        (forms-each (Keeps t) list (join (map (becomes tokens iso) list)) e
        (each-join (Keeps t) (becomes tokens iso)
        (λ u. each-more (AllPlain tokens) (Keeps t) (plain_keeps t) (becomes tokens iso u) (becomes_plain tokens iso u)) list))

    abbrev AllKeep : Tree → Type 0
    AllKeep t = Each (Keeps t) (forms tokens isos t)

    choices_keep : (cs : List Tree) → Each AllKeep cs → EachForms cs (choices (map (forms tokens isos) cs))
    choices_keep [] e = (tt, tt)
    choices_keep (c ∷ cs) e = forms-join c cs (choices (map (forms tokens isos) cs)) (forms tokens isos c) e.0 (choices_keep cs e.1)

    of_choices_keep : (t : Tree) (l : Label) (css : List (List Tree)) → Each (Keeps t) (branches l css) → Each (Keeps t) (of_choices tokens isos l css)
    of_choices_keep t l css e = by (is_expression l)
      where
        by : (b : Bool) → Each (Keeps t) (if b then with_isos tokens (branches l css) isos else branches l css)
        by true = isos_keep t isos (branches l css) e
        by false = e

    all_keep : (t : Tree) → AllKeep t
    all_keep = tree_induction AllKeep
        (λ a. subst (Each (Keeps (Leaf a))) (sym (forms-Leaf tokens isos a)) (record { whole = λ k. k; at = λ s k. k }, tt))
        (λ l cs e. subst (Each (Keeps (Branch l cs))) (sym (forms-Branch tokens isos l cs))
        (of_choices_keep (Branch l cs) l (choices (map (forms tokens isos) cs))
        (branches_keep l cs (choices (map (forms tokens isos) cs)) (choices_keep cs e))))

    pub forms_keep : (s : Spot) (t : Tree) → All (λ f. compared q s f ≡ true → compared q s t ≡ true) (forms tokens isos t)
    forms_keep s t =
        each-all (λ f. compared q s f ≡ true → compared q s t ≡ true) (forms tokens isos t)
        (each-more (Keeps t) (λ f. compared q s f ≡ true → compared q s t ≡ true) (λ f k. k.at s) (forms tokens isos t) (all_keep t))
