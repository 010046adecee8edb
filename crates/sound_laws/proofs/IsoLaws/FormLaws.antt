-- Each form of a good tree is good.
-- Proof: by induction on the tree. A branch of one good form of each child is good, and so is what an isomorphism makes of
-- a good tree.
use Rattle.std.proofs.Common.{◌≡◌, ℕ, ◌+◌, suc, ◌<◌, Bool, true, false, true≢false, not, ◌||◌, if◌then◌else◌, List, [], ◌∷◌, ◌++◌}
use Rattle.std.proofs.Common.{length, map, Option, Some, None, refl, sym, ap, subst, arith}
use Rattle.std.specs.Prelude.{nat_lt, slice_get}
use Rattle.std.specs.List.{list_all}
use Rattle.std.proofs.lemmas.Bool.Decides.{nat_tests}
use Rattle.std.proofs.lemmas.List.{length-map}
use Rattle.c_terms.specs.declared.token.Token.{Token}
use Rattle.c_terms.specs.declared.label.Label.{Label}
use Rattle.c_terms.specs.declared.tree.Tree.{Tree}
use Rattle.c_terms.specs.Trees.{join, leaves, width}
use Rattle.c_terms.proofs.Induct.{Each, tree_induction}
use Rattle.smpl_patch.specs.declared.pattern.PatToken.{PatToken}
use Rattle.smpl_patch.specs.declared.rule.Iso.{Iso}
use Rattle.iso_expand.specs.declared.iso_forms.matching.Bound.{Bound}
use Rattle.iso_expand.specs.IsoForms.Kinds.{is_expression}
use Rattle.iso_expand.specs.IsoForms.Matching.{matched}
use Rattle.iso_expand.specs.IsoForms.Making.{made, first_id, id_of}
use Rattle.iso_expand.specs.IsoForms.Replacing.{may_become, are_plain, is_open, targets_from, targets, replaced, by_sides, becomes}
use Rattle.iso_expand.specs.IsoForms.Forms.{choices, branches, is_among, with_form, with_forms, with_iso, with_isos, of_choices, forms}
use Rattle.iso_expand.proofs.IsoForms.FormLemmas.{forms-Leaf, forms-Branch}
use Rattle.sound_laws.specs.IsoLaws.Fine.{holds, covers, covers_from, all_cover}
use Rattle.sound_laws.proofs.IsoLaws.GoodLemmas.{left_true, right_true, no_some, each-append, Good, good-Branch, branch-Good, Values}
use Rattle.sound_laws.proofs.IsoLaws.GoodLemmas.{HasValue}
use Rattle.sound_laws.proofs.IsoLaws.FittingLemmas.{fits}
use Rattle.sound_laws.proofs.IsoLaws.MakingLemmas.{Passes, covered, makes}

-- ---- lists

each-join : (Q : Tree → Type 0) (f : Tree → List Tree) → ((t : Tree) → Q t → Each Q (f t)) → (ts : List Tree) → Each Q ts → Each Q (join (map f ts))
each-join Q f h [] e = tt
each-join Q f h (t ∷ ts) e = each-append Q (f t) (join (map f ts)) (h t e.0) (each-join Q f h ts e.1)

form-each : (Q : Tree → Type 0) (list : List Tree) (t : Tree) → Each Q list → Q t → Each Q (with_form list t)
form-each Q list t e q = by (is_among list t)
  where
    by : (b : Bool) → Each Q (if b then list else list ++ t ∷ [])
    by true = e
    by false = each-append Q list (t ∷ []) e (q, tt)

forms-each : (Q : Tree → Type 0) (list more : List Tree) → Each Q list → Each Q more → Each Q (with_forms list more)
forms-each Q list [] e m = e
forms-each Q list (t ∷ ts) e m = forms-each Q (with_form list t) ts (form-each Q list t e m.0) m.1

-- ---- choices of as many trees as there are lists

abbrev EachList : (Tree → Type 0) → List (List Tree) → Type 0
EachList Q [] = Unit {0}
EachList Q (ts ∷ more) = Each Q ts × EachList Q more

abbrev Chosen : (Tree → Type 0) → ℕ → List (List Tree) → Type 0
Chosen Q n [] = Unit {0}
Chosen Q n (cs ∷ css) = ((length cs ≡ n) × Each Q cs) × Chosen Q n css

chosen-append : (Q : Tree → Type 0) (n : ℕ) (css more : List (List Tree)) → Chosen Q n css → Chosen Q n more → Chosen Q n (css ++ more)
chosen-append Q n [] more h k = k
chosen-append Q n (cs ∷ css) more h k = (h.0, chosen-append Q n css more h.1 k)

chosen-before : (Q : Tree → Type 0) (n : ℕ) (t : Tree) (css : List (List Tree)) → Q t → Chosen Q n css → Chosen Q (suc n) (map (λ cs. t ∷ cs) css)
chosen-before Q n t [] q h = tt
chosen-before Q n t (cs ∷ css) q h = ((ap suc h.0.0, (q, h.0.1)), chosen-before Q n t css q h.1)

chosen-join : (Q : Tree → Type 0) (n : ℕ) (css : List (List Tree)) (ts : List Tree) → Each Q ts → Chosen Q n css
    → Chosen Q (suc n) (join (map (λ t. map (λ cs. t ∷ cs) css) ts))
chosen-join Q n css [] e h = tt
chosen-join Q n css (t ∷ ts) e h =
    chosen-append Q (suc n) (map (λ cs. t ∷ cs) css) (join (map (λ u. map (λ cs. u ∷ cs) css) ts)) (chosen-before Q n t css e.0 h)
    (chosen-join Q n css ts e.1 h)

all-chosen : (Q : Tree → Type 0) (fss : List (List Tree)) → EachList Q fss → Chosen Q (length fss) (choices fss)
all-chosen Q [] e = ((refl, tt), tt)
all-chosen Q (ts ∷ more) e = chosen-join Q (length more) (choices more) ts e.0 (all-chosen Q more e.1)

-- ---- forms

abbrev narrow : ℕ → Tree → Bool
narrow N t = nat_lt (width t) N

below : (m n : ℕ) → nat_lt m n ≡ true → m < n
below m n h = grind (arith, nat_tests)

module _ (P : Token → Bool) (N : ℕ) (ids : (a : Token) → P a ≡ true → Passes P a.id) (tokens : List PatToken) where
  abbrev Fine : Iso → Type 0
  Fine iso = (all_cover iso 0 iso.sides ≡ true) × (list_all (narrow N) iso.sides ≡ true)

  abbrev pub AllFine : List Iso → Type 0
  AllFine [] = Unit {0}
  AllFine (iso ∷ isos) = Fine iso × AllFine isos

  targets_good : (both : List Bool) (bs : List Bound) (id i : ℕ) (s : Tree) → Values P N bs → Passes P id
      → ((name : List ℕ) → holds (leaves s) name ≡ true → HasValue bs name) → (j : ℕ) (ss : List Tree) → covers_from both i j s ss ≡ true
      → list_all (narrow N) ss ≡ true → Each (Good P N) (targets_from both bs id i j ss)
  targets_good both bs id i s v p has j [] c n = tt
  targets_good both bs id i s v p has j (u ∷ us) c n =
      by (targets_good both bs id i s v p has (j + 1) us (right_true (not (may_become both i j) || covers s u) (covers_from both i (j + 1) s us) c)
      (right_true (narrow N u) (list_all (narrow N) us) n)) (may_become both i j)
      (left_true (not (may_become both i j) || covers s u) (covers_from both i (j + 1) s us) c)
    where
      by : Each (Good P N) (targets_from both bs id i (j + 1) us) → (x : Bool) → (not x || covers s u) ≡ true
          → Each (Good P N) (if x then made bs id u ∷ targets_from both bs id i (j + 1) us else targets_from both bs id i (j + 1) us)
      by rest true h =
          (makes P N bs id v p u (below (width u) N (left_true (narrow N u) (list_all (narrow N) us) n)) (λ name k. has name (covered s u h name k)), rest)
      by rest false h = rest

  open_passes : (t : Tree) → is_open tokens t ≡ true → Good P N t → Passes P (first_id t)
  open_passes t m g = by (leaves t) m g.0
    where
      by : (ts : List Token) → are_plain tokens ts ≡ true → list_all P ts ≡ true → Passes P (id_of (slice_get ts 0))
      by [] m h = absurd (true≢false (sym m))
      by (a ∷ ts) m h = ids a (left_true (P a) (list_all P ts) h)

  module _ (iso : Iso) (fine : Fine iso) (t : Tree) (good : Good P N t) where
    side_good : (s : Tree) (i : ℕ) → covers_from iso.both i 0 s iso.sides ≡ true → (o : Option (List Bound)) → replaced tokens iso.vars s t ≡ o
        → Each (Good P N) (targets iso t i o)
    side_good s i c None q = tt
    side_good s i c (Some bs) q = by (is_open tokens t) refl q
      where
        by : (x : Bool) → is_open tokens t ≡ x → (if x then matched iso.vars s t [] else None) ≡ Some bs
            → Each (Good P N) (targets_from iso.both bs (first_id t) i 0 iso.sides)
        by true m e =
            let f = fits P N iso.vars s t [] bs e good tt in
            targets_good iso.both bs (first_id t) i s f.values (open_passes t m good) f.has 0 iso.sides c fine.1
        by false m e = absurd (no_some bs e)

    sides_good : (ss : List Tree) (i : ℕ) → all_cover iso i ss ≡ true → Each (Good P N) (by_sides tokens iso t i ss)
    sides_good [] i c = tt
    sides_good (s ∷ ss) i c =
        each-append (Good P N) (targets iso t i (replaced tokens iso.vars s t)) (by_sides tokens iso t (i + 1) ss)
        (side_good s i (left_true (covers_from iso.both i 0 s iso.sides) (all_cover iso (i + 1) ss) c) (replaced tokens iso.vars s t) refl)
        (sides_good ss (i + 1) (right_true (covers_from iso.both i 0 s iso.sides) (all_cover iso (i + 1) ss) c))

    becomes_good : Each (Good P N) (becomes tokens iso t)
    becomes_good = sides_good iso.sides 0 fine.0

  isos_good : (isos : List Iso) → AllFine isos → (list : List Tree) → Each (Good P N) list → Each (Good P N) (with_isos tokens list isos)
  isos_good [] f list e = e
  isos_good (iso ∷ isos) f list e =
      isos_good isos f.1 (with_iso tokens list iso)
      (forms-each (Good P N) list (join (map (becomes tokens iso) list)) e
      (each-join (Good P N) (becomes tokens iso) (λ t g. becomes_good iso f.0 t g) list e))

  branches_good : (l : Label) (n : ℕ) (css : List (List Tree)) → n < N → Chosen (Good P N) n css → Each (Good P N) (branches l css)
  branches_good l n [] h c = tt
  branches_good l n (cs ∷ css) h c =
      let e = c.0.0 in
      (good-Branch P N l cs (omega (arith, e, h)) c.0.1, branches_good l n css h c.1)

  module _ (isos : List Iso) (fine : AllFine isos) where
    abbrev HasGood : Tree → Type 0
    HasGood t = Good P N t → Each (Good P N) (forms tokens isos t)

    lists_good : (cs : List Tree) → Each HasGood cs → Each (Good P N) cs → EachList (Good P N) (map (forms tokens isos) cs)
    lists_good [] h e = tt
    lists_good (c ∷ cs) h e = (h.0 e.0, lists_good cs h.1 e.1)

    of_choices_good : (l : Label) (css : List (List Tree)) → Each (Good P N) (branches l css) → Each (Good P N) (of_choices tokens isos l css)
    of_choices_good l css e = by (is_expression l)
      where
        by : (b : Bool) → Each (Good P N) (if b then with_isos tokens (branches l css) isos else branches l css)
        by true = isos_good isos fine (branches l css) e
        by false = e

    pub forms_good : (t : Tree) → Good P N t → Each (Good P N) (forms tokens isos t)
    forms_good = tree_induction HasGood
        (λ a g. subst (Each (Good P N)) (sym (forms-Leaf tokens isos a)) (g, tt))
        (λ l cs h g.
        let parts = branch-Good P N l cs g in
        let n = parts.0 in
        let e = length-map cs (forms tokens isos) in
        subst (Each (Good P N)) (sym (forms-Branch tokens isos l cs))
        (of_choices_good l (choices (map (forms tokens isos) cs))
        (branches_good l (length (map (forms tokens isos) cs)) (choices (map (forms tokens isos) cs)) (omega (arith, e, n))
        (all-chosen (Good P N) (map (forms tokens isos) cs) (lists_good cs h parts.1)))))
