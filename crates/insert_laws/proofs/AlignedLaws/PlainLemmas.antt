-- The tree that an isomorphism puts in place of another has no token with a position or plus code.
use Rattle.std.proofs.Common.{◌≡◌, ℕ, suc, ◌+◌, Bool, true, false, refl, sym, ap, ◌∙◌, subst, true≢false, arith, List, [], ◌∷◌, map, Option, None}
use Rattle.std.proofs.Common.{Some, slice_get, if◌then◌else◌}
use Rattle.std.specs.Prelude.{unwrap_or}
use Rattle.std.specs.List.{list_all}
use Rattle.std.proofs.lemmas.List.Folds.{list_all-append}
use Rattle.c_terms.specs.declared.token.Token.{Token}
use Rattle.c_terms.specs.declared.token.TokenKind.{TokenKind}
use Rattle.c_terms.specs.declared.token.TokenKind.TheVariants as kind
use Rattle.c_terms.specs.declared.label.Label.{Label}
use Rattle.c_terms.specs.declared.tree.Tree.{Tree}
use Rattle.c_terms.specs.declared.tree.Tree.TheVariants.{Leaf, Branch, rolls-Leaf, rolls-Branch}
use Rattle.c_terms.specs.declared.tree.Tree.TheFolds.{fold-roll-Tree}
use Rattle.c_terms.specs.Trees.{leaves, width, join}
use Rattle.c_terms.proofs.TreeLemmas.{leaves-Leaf, leaves-Branch}
use Rattle.c_terms.proofs.Induct.{Each, tree_induction}
use Rattle.smpl_patch.specs.declared.pattern.PatToken.{PatToken}
use Rattle.smpl_patch.specs.declared.rule.Iso.{Iso}
use Rattle.iso_expand.specs.declared.iso_forms.matching.Bound.{Bound}
use Rattle.iso_expand.specs.IsoForms.Matching.{value, matched}
use Rattle.iso_expand.specs.IsoForms.Making.{numbered, make_leaf, make_step, made, id_of, first_id}
use Rattle.iso_expand.specs.IsoForms.Replacing.{mark_of, is_plain, is_plain_of, are_plain, is_open, may_become, targets_from}
use Rattle.iso_expand.specs.IsoForms.Replacing.{targets, replaced, by_sides, becomes}
use Rattle.sound_laws.proofs.IsoLaws.GoodLemmas.{both_true, left_true, right_true, no_some, each-append, Good, Values, value-good}
use Rattle.sound_laws.proofs.IsoLaws.FittingLemmas.{fits}

module _ (tokens : List PatToken) where
  -- neither a position nor plus code stands at the token
  abbrev pub plain : Token → Bool
  plain a = is_plain (slice_get tokens a.id)

  abbrev pub AllPlain : Tree → Type 0
  AllPlain t = list_all plain (leaves t) ≡ true

  plain-Leaf : (a : Token) → plain a ≡ true → AllPlain (Leaf a)
  plain-Leaf a h = ap (list_all plain) (leaves-Leaf a) ∙ both_true (plain a) true h refl

  joined_plain : (cs : List Tree) → Each AllPlain cs → list_all plain (join (map leaves cs)) ≡ true
  joined_plain [] e = refl
  joined_plain (c ∷ cs) e =
      list_all-append plain (leaves c) (join (map leaves cs))
      ∙ both_true (list_all plain (leaves c)) (list_all plain (join (map leaves cs))) e.0 (joined_plain cs e.1)

  -- ---- what a side makes

  made-Leaf : (bs : List Bound) (id : ℕ) (a : Token) → made bs id (Leaf a) ≡ make_leaf bs id a.kind a
  made-Leaf bs id a = ap (made bs id) (sym (rolls-Leaf a)) ∙ fold-roll-Tree Tree (make_step bs id) _

  made-Branch : (bs : List Bound) (id : ℕ) (l : Label) (cs : List Tree) → made bs id (Branch l cs) ≡ Branch l (map (made bs id) cs)
  made-Branch bs id l cs = ap (made bs id) (sym (rolls-Branch l cs)) ∙ fold-roll-Tree Tree (make_step bs id) _

  module _ (N : ℕ) (bs : List Bound) (id : ℕ) (values : Values plain N bs) (here : is_plain (slice_get tokens id) ≡ true) where
    by_value : (a : Token) (o : Option Tree) → value bs a.text ≡ o → AllPlain (unwrap_or o (numbered id a))
    by_value a None q = plain-Leaf (record { kind = a.kind; text = a.text; id = id }) here
    by_value a (Some v) q = (value-good plain N bs a.text v values q).0

    leaf_plain : (k : TokenKind) (a : Token) → AllPlain (make_leaf bs id k a)
    leaf_plain (kind.Meta k) a = by_value a (value bs a.text) refl
    leaf_plain _ a = plain-Leaf (record { kind = a.kind; text = a.text; id = id }) here

    each_plain : (cs : List Tree) → Each (λ s. AllPlain (made bs id s)) cs → Each AllPlain (map (made bs id) cs)
    each_plain [] e = tt
    each_plain (c ∷ cs) e = (e.0, each_plain cs e.1)

    made_plain : (s : Tree) → AllPlain (made bs id s)
    made_plain = tree_induction (λ s. AllPlain (made bs id s))
        (λ a. subst AllPlain (sym (made-Leaf bs id a)) (leaf_plain a.kind a))
        (λ l cs e. subst AllPlain (sym (made-Branch bs id l cs))
        (ap (list_all plain) (leaves-Branch l (map (made bs id) cs)) ∙ joined_plain (map (made bs id) cs) (each_plain cs e)))

    targets_plain : (both : List Bool) (i j : ℕ) (ss : List Tree) → Each AllPlain (targets_from both bs id i j ss)
    targets_plain both i j [] = tt
    targets_plain both i j (s ∷ ss) = by (may_become both i j) (targets_plain both i (j + 1) ss)
      where
        by : (b : Bool) → Each AllPlain (targets_from both bs id i (j + 1) ss)
            → Each AllPlain (if b then made bs id s ∷ targets_from both bs id i (j + 1) ss else targets_from both bs id i (j + 1) ss)
        by true rest = (made_plain s, rest)
        by false rest = rest

  -- ---- where a tree may be replaced

  of_mark : (m : ℕ) (ts : List Token) → list_all (is_plain_of tokens m) ts ≡ true → list_all plain ts ≡ true
  of_mark m [] h = refl
  of_mark m (a ∷ ts) h =
      both_true (plain a) (list_all plain ts)
      (left_true (plain a) _ (left_true (is_plain_of tokens m a) (list_all (is_plain_of tokens m) ts) h))
      (of_mark m ts (right_true (is_plain_of tokens m a) (list_all (is_plain_of tokens m) ts) h))

  open_plain : (ts : List Token) → are_plain tokens ts ≡ true → (list_all plain ts ≡ true) × (is_plain (slice_get tokens (id_of (slice_get ts 0))) ≡ true)
  open_plain [] h = absurd (true≢false (sym h))
  open_plain (a ∷ ts) h =
      let all = of_mark (mark_of (slice_get tokens a.id)) (a ∷ ts) h in
      (all, left_true (plain a) (list_all plain ts) all)

  module _ (iso : Iso) (t : Tree) where
    side_plain : (s : Tree) (i : ℕ) (o : Option (List Bound)) → replaced tokens iso.vars s t ≡ o → Each AllPlain (targets iso t i o)
    side_plain s i None q = tt
    side_plain s i (Some bs) q = by (is_open tokens t) refl q
      where
        by : (x : Bool) → is_open tokens t ≡ x → (if x then matched iso.vars s t [] else None) ≡ Some bs
            → Each AllPlain (targets_from iso.both bs (first_id t) i 0 iso.sides)
        by true m e =
            let all = open_plain (leaves t) m in
            let good : Good plain (suc (width t)) t = (all.0, omega arith) in
            let f = fits plain (suc (width t)) iso.vars s t [] bs e good tt in
            targets_plain (suc (width t)) bs (first_id t) f.values all.1 iso.both i 0 iso.sides
        by false m e = absurd (no_some bs e)

    sides_plain : (ss : List Tree) (i : ℕ) → Each AllPlain (by_sides tokens iso t i ss)
    sides_plain [] i = tt
    sides_plain (s ∷ ss) i =
        each-append AllPlain (targets iso t i (replaced tokens iso.vars s t)) (by_sides tokens iso t (i + 1) ss)
        (side_plain s i (replaced tokens iso.vars s t) refl) (sides_plain ss (i + 1))

    pub becomes_plain : Each AllPlain (becomes tokens iso t)
    becomes_plain = sides_plain iso.sides 0
