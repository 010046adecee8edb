-- What the variables of a side stand for when a tree matches it.
-- Proof: by induction on the side, for all trees and all values so far.
use Rattle.std.proofs.Common.{◌≡◌, ℕ, Bool, true, false, true≢false, ◌&&◌, ◌||◌, if◌then◌else◌, List, [], ◌∷◌, ◌++◌, map, Option, Some}
use Rattle.std.proofs.Common.{None, refl, sym, ap, subst, ◌∙◌}
use Rattle.std.proofs.lemmas.List.Folds.{list_any-append}
use Rattle.c_terms.specs.declared.token.Token.{Token}
use Rattle.c_terms.specs.declared.token.TokenKind.{TokenKind}
use Rattle.c_terms.specs.declared.token.TokenKind.TheVariants as kind
use Rattle.c_terms.specs.declared.token.MetaKind.{MetaKind}
use Rattle.c_terms.specs.declared.label.Label.{Label}
use Rattle.c_terms.specs.declared.tree.Tree.{Tree, out-Tree}
use Rattle.c_terms.specs.declared.tree.Tree.TheOpen.{Tree-F}
use Rattle.c_terms.specs.declared.tree.Tree.TheVariants.{Leaf, Branch, rolls-Leaf, rolls-Branch}
use Rattle.c_terms.specs.declared.tree.Tree.TheFolds.{fold-roll-Tree}
use Rattle.c_terms.specs.Same.{same_bytes, same_label, same_tree}
use Rattle.c_terms.specs.Trees.{join, leaves}
use Rattle.c_terms.proofs.TreeLemmas.{leaves-Leaf, leaves-Branch}
use Rattle.c_terms.proofs.SameLemmas.{out-Leaf, out-Branch}
use Rattle.c_terms.proofs.BareLaws.{same_bytes-equal}
use Rattle.c_terms.proofs.Induct.{Each, tree_induction, tree_cases}
use Rattle.smpl_patch.specs.declared.pattern.VarDecl.{VarDecl}
use Rattle.iso_expand.specs.declared.iso_forms.matching.Bound.{Bound}
use Rattle.iso_expand.specs.IsoForms.Kinds.{is_of_kind, excepted}
use Rattle.iso_expand.specs.IsoForms.Matching.{Matcher, value, bind, is_same_leaf, each, match_branch, match_variable, match_leaf, match_step}
use Rattle.iso_expand.specs.IsoForms.Matching.{matched}
use Rattle.sound_laws.specs.IsoLaws.Fine.{is_variable, holds}
use Rattle.sound_laws.proofs.IsoLaws.GoodLemmas.{right_true, no_some, same_some, Good, branch-Good, Values, values-push, HasValue}
use Rattle.sound_laws.proofs.IsoLaws.GoodLemmas.{value_before, value_last}

-- after tokens of a side: values are good, those that were there stay, and each variable among the tokens has one
pub record Filled (P : Token → Bool) (N : ℕ) (tokens : List Token) (bs more : List Bound) : Type 0 where
  pub values : Values P N more
  pub kept : (name : List ℕ) → HasValue bs name → HasValue more name
  pub has : (name : List ℕ) → holds tokens name ≡ true → HasValue more name

or_false : (b : Bool) → (b || false) ≡ true → b ≡ true
or_false true h = refl
or_false false h = h

module _ (P : Token → Bool) (N : ℕ) (vars : List VarDecl) where
  matched-Leaf : (a : Token) (t : Tree) (bs : List Bound) → matched vars (Leaf a) t bs ≡ match_leaf vars a.kind a t bs
  matched-Leaf a t bs =
      ap (λ (m : Matcher). m t bs) (ap (matched vars) (sym (rolls-Leaf a)) ∙ fold-roll-Tree Matcher (match_step vars) _)

  matched-Branch : (l : Label) (ss : List Tree) (t : Tree) (bs : List Bound)
      → matched vars (Branch l ss) t bs ≡ match_branch l (map (matched vars) ss) (out-Tree t) bs
  matched-Branch l ss t bs =
      ap (λ (m : Matcher). m t bs) (ap (matched vars) (sym (rolls-Branch l ss)) ∙ fold-roll-Tree Matcher (match_step vars) _)

  -- ---- a leaf of a side

  same_values : (a : Token) (bs more : List Bound) → is_variable a.kind ≡ false → Values P N bs → bs ≡ more → Filled P N (a ∷ []) bs more
  same_values a bs more m v e = record {
    values = subst (Values P N) e v;
    kept = λ name h. subst (λ (x : List Bound). HasValue x name) e h;
    has = λ name h.
        let z : ((is_variable a.kind && same_bytes a.text name) || false) ≡ false = ap (λ (x : Bool). (x && same_bytes a.text name) || false) m in
        absurd (true≢false (sym h ∙ z));
  }

  plain_leaf : (a : Token) (t : Tree) (bs more : List Bound) → is_variable a.kind ≡ false
      → (if is_same_leaf a (out-Tree t) then Some bs else None) ≡ Some more → Values P N bs → Filled P N (a ∷ []) bs more
  plain_leaf a t bs more m e v = by (is_same_leaf a (out-Tree t)) e
    where
      by : (x : Bool) → (if x then Some bs else None) ≡ Some more → Filled P N (a ∷ []) bs more
      by true k = same_values a bs more m v (same_some bs more k)
      by false k = absurd (no_some more k)

  text_is : (a : Token) (name : List ℕ) → holds (a ∷ []) name ≡ true → same_bytes a.text name ≡ true
  text_is a name h =
      right_true (is_variable a.kind) (same_bytes a.text name) (or_false (is_variable a.kind && same_bytes a.text name) h)

  new_value : (a : Token) (t : Tree) (bs more : List Bound) → bs ++ record { name = a.text; tree = t } ∷ [] ≡ more → Good P N t → Values P N bs
      → Filled P N (a ∷ []) bs more
  new_value a t bs more e g v = record {
    values = subst (Values P N) e (values-push P N bs a.text t v g);
    kept = λ name h. subst (λ (x : List Bound). HasValue x name) e (value_before bs (record { name = a.text; tree = t } ∷ []) name h);
    has = λ name h. subst (λ (x : List Bound). HasValue x name) e (value_last bs a.text name t (text_is a name h));
  }

  old_value : (a : Token) (w : Tree) (bs more : List Bound) → value bs a.text ≡ Some w → bs ≡ more → Values P N bs → Filled P N (a ∷ []) bs more
  old_value a w bs more q e v = record {
    values = subst (Values P N) e v;
    kept = λ name h. subst (λ (x : List Bound). HasValue x name) e h;
    has = λ name h.
        let n : a.text ≡ name = same_bytes-equal a.text name (text_is a name h) in
        subst (λ (x : List Bound). HasValue x name) e (subst (λ (x : List ℕ). HasValue bs x) n (w, q));
  }

  variable_leaf : (k : MetaKind) (a : Token) (t : Tree) (bs more : List Bound) → match_variable vars k a.text t bs ≡ Some more → Good P N t
      → Values P N bs → Filled P N (a ∷ []) bs more
  variable_leaf k a t bs more e g v = by (is_of_kind k (excepted vars a.text) (out-Tree t)) e
    where
      by_same : (w : Tree) → value bs a.text ≡ Some w → (x : Bool) → (if x then Some bs else None) ≡ Some more → Filled P N (a ∷ []) bs more
      by_same w q true h = old_value a w bs more q (same_some bs more h) v
      by_same w q false h = absurd (no_some more h)

      by_value : (o : Option Tree) → value bs a.text ≡ o → bind o a.text t bs ≡ Some more → Filled P N (a ∷ []) bs more
      by_value None q h = new_value a t bs more (same_some (bs ++ record { name = a.text; tree = t } ∷ []) more h) g v
      by_value (Some w) q h = by_same w q (same_tree w t) h

      by : (x : Bool) → (if x then bind (value bs a.text) a.text t bs else None) ≡ Some more → Filled P N (a ∷ []) bs more
      by true h = by_value (value bs a.text) refl h
      by false h = absurd (no_some more h)

  leaf_by : (k : TokenKind) (a : Token) (t : Tree) (bs more : List Bound) → (is_variable k ≡ false → is_variable a.kind ≡ false)
      → match_leaf vars k a t bs ≡ Some more → Good P N t → Values P N bs → Filled P N (a ∷ []) bs more
  leaf_by (kind.Meta k) a t bs more m e g v = variable_leaf k a t bs more e g v
  leaf_by kind.Name a t bs more m e g v = plain_leaf a t bs more (m refl) e v
  leaf_by kind.Keyword a t bs more m e g v = plain_leaf a t bs more (m refl) e v
  leaf_by kind.Number a t bs more m e g v = plain_leaf a t bs more (m refl) e v
  leaf_by kind.Char a t bs more m e g v = plain_leaf a t bs more (m refl) e v
  leaf_by kind.Str a t bs more m e g v = plain_leaf a t bs more (m refl) e v
  leaf_by kind.Punct a t bs more m e g v = plain_leaf a t bs more (m refl) e v
  leaf_by kind.Stray a t bs more m e g v = plain_leaf a t bs more (m refl) e v
  leaf_by kind.Dots a t bs more m e g v = plain_leaf a t bs more (m refl) e v
  leaf_by kind.Pat a t bs more m e g v = plain_leaf a t bs more (m refl) e v

  -- ---- a branch of a side

  abbrev Fits : Tree → Type 0
  Fits s = (t : Tree) (bs more : List Bound) → matched vars s t bs ≡ Some more → Good P N t → Values P N bs → Filled P N (leaves s) bs more

  two_parts : (xs ys : List Token) (bs between more : List Bound) → Filled P N xs bs between → Filled P N ys between more → Filled P N (xs ++ ys) bs more
  two_parts xs ys bs between more one rest = record {
    values = rest.values;
    kept = λ name h. rest.kept name (one.kept name h);
    has = λ name h.
        by name (holds xs name) refl (sym (list_any-append (λ (a : Token). is_variable a.kind && same_bytes a.text name) xs ys) ∙ h);
  }
    where
      by : (name : List ℕ) (x : Bool) → holds xs name ≡ x → (holds xs name || holds ys name) ≡ true → HasValue more name
      by name true e h = rest.kept name (one.has name e)
      by name false e h = rest.has name (sym (ap (λ (x : Bool). x || holds ys name) e) ∙ h)

  fits_each : (ss us : List Tree) → Each Fits ss → Each (Good P N) us → (bs more : List Bound) → each (map (matched vars) ss) us bs ≡ Some more
      → Values P N bs → Filled P N (join (map leaves ss)) bs more
  fits_each [] [] k g bs more e v =
      let same : bs ≡ more = same_some bs more e in
      record {
        values = subst (Values P N) same v;
        kept = λ name h. subst (λ (x : List Bound). HasValue x name) same h;
        has = λ name h. absurd (true≢false (sym h));
      }
  fits_each [] (u ∷ us) k g bs more e v = absurd (no_some more e)
  fits_each (s ∷ ss) [] k g bs more e v = absurd (no_some more e)
  fits_each (s ∷ ss) (u ∷ us) k g bs more e v =
      by (λ found h w. fits_each ss us k.1 g.1 found more h w) (matched vars s u bs) refl e
    where
      by : ((found : List Bound) → each (map (matched vars) ss) us found ≡ Some more → Values P N found → Filled P N (join (map leaves ss)) found more)
          → (o : Option (List Bound)) → matched vars s u bs ≡ o
          → elim o as (λ o. Option (List Bound)) [ None ↦ None | Some found ↦ each (map (matched vars) ss) us found ] ≡ Some more
          → Filled P N (leaves s ++ join (map leaves ss)) bs more
      by rest None q h = absurd (no_some more h)
      by rest (Some found) q h =
          let one = k.0 u bs found q g.0 v in
          two_parts (leaves s) (join (map leaves ss)) bs found more one (rest found h one.values)

  branch_by : (l : Label) (ss : List Tree) → Each Fits ss → (t : Tree) (bs more : List Bound)
      → match_branch l (map (matched vars) ss) (out-Tree t) bs ≡ Some more → Good P N t → Values P N bs → Filled P N (join (map leaves ss)) bs more
  branch_by l ss fit = tree_cases (λ t. (bs more : List Bound) → match_branch l (map (matched vars) ss) (out-Tree t) bs ≡ Some more → Good P N t
      → Values P N bs → Filled P N (join (map leaves ss)) bs more)
      (λ b bs more e g v.
      absurd (no_some more (sym (ap (λ (x : Tree-F Tree). match_branch l (map (matched vars) ss) x bs) (out-Leaf b)) ∙ e)))
      (λ k us bs more e g v.
      by k us bs more (same_label l k) (sym (ap (λ (x : Tree-F Tree). match_branch l (map (matched vars) ss) x bs) (out-Branch k us)) ∙ e)
      (branch-Good P N k us g).1 v)
    where
      by : (k : Label) (us : List Tree) (bs more : List Bound) (x : Bool) → (if x then each (map (matched vars) ss) us bs else None) ≡ Some more
          → Each (Good P N) us → Values P N bs → Filled P N (join (map leaves ss)) bs more
      by k us bs more true h g v = fits_each ss us fit g bs more h v
      by k us bs more false h g v = absurd (no_some more h)

  filled-along : (xs ys : List Token) (bs more : List Bound) → xs ≡ ys → Filled P N ys bs more → Filled P N xs bs more
  filled-along xs ys bs more e f = subst (λ (ts : List Token). Filled P N ts bs more) (sym e) f

  pub fits : (s t : Tree) (bs more : List Bound) → matched vars s t bs ≡ Some more → Good P N t → Values P N bs → Filled P N (leaves s) bs more
  fits = tree_induction Fits
      (λ a t bs more e g v.
      filled-along (leaves (Leaf a)) (a ∷ []) bs more (leaves-Leaf a) (leaf_by a.kind a t bs more (λ h. h) (sym (matched-Leaf a t bs) ∙ e) g v))
      (λ l ss fit t bs more e g v.
      filled-along (leaves (Branch l ss)) (join (map leaves ss)) bs more (leaves-Branch l ss)
      (branch_by l ss fit t bs more (sym (matched-Branch l ss t bs) ∙ e) g v))
