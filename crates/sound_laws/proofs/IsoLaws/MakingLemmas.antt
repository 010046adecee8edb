-- A side whose variables have good values makes a good tree.
use Rattle.std.proofs.Common.{◌≡◌, ℕ, ◌<◌, Bool, true, false, true≢false, not, ◌&&◌, ◌||◌, List, [], ◌∷◌, ◌++◌, map, Option, Some}
use Rattle.std.proofs.Common.{None, refl, sym, ap, subst, ◌∙◌, arith}
use Rattle.std.specs.Prelude.{unwrap_or}
use Rattle.std.specs.List.{list_all}
use Rattle.std.proofs.lemmas.List.{length-map}
use Rattle.std.proofs.lemmas.List.Folds.{list_any-append}
use Rattle.c_terms.specs.declared.token.Token.{Token}
use Rattle.c_terms.specs.declared.token.TokenKind.{TokenKind}
use Rattle.c_terms.specs.declared.token.TokenKind.TheVariants as kind
use Rattle.c_terms.specs.declared.label.Label.{Label}
use Rattle.c_terms.specs.declared.tree.Tree.{Tree}
use Rattle.c_terms.specs.declared.tree.Tree.TheVariants.{Leaf, Branch, rolls-Leaf, rolls-Branch}
use Rattle.c_terms.specs.declared.tree.Tree.TheFolds.{fold-roll-Tree}
use Rattle.c_terms.specs.Same.{same_bytes}
use Rattle.c_terms.specs.Trees.{join, leaves, width, greatest}
use Rattle.c_terms.proofs.TreeLemmas.{leaves-Leaf, leaves-Branch, width-Branch}
use Rattle.c_terms.proofs.SameLaws.{bytes-refl}
use Rattle.c_terms.proofs.BareLaws.{same_bytes-equal}
use Rattle.c_terms.proofs.Induct.{Each, tree_induction}
use Rattle.iso_expand.specs.declared.iso_forms.matching.Bound.{Bound}
use Rattle.iso_expand.specs.IsoForms.Matching.{value}
use Rattle.iso_expand.specs.IsoForms.Making.{numbered, make_leaf, make_step, made}
use Rattle.sound_laws.specs.IsoLaws.Fine.{is_variable, holds, covers}
use Rattle.sound_laws.proofs.IsoLaws.GoodLemmas.{left_true, right_true, or_left, or_right, no_some, Good, good-Leaf, good-Branch, Values, value-good}
use Rattle.sound_laws.proofs.IsoLaws.GoodLemmas.{HasValue}

made-Leaf : (bs : List Bound) (id : ℕ) (a : Token) → made bs id (Leaf a) ≡ make_leaf bs id a.kind a
made-Leaf bs id a = ap (made bs id) (sym (rolls-Leaf a)) ∙ fold-roll-Tree Tree (make_step bs id) _

made-Branch : (bs : List Bound) (id : ℕ) (l : Label) (cs : List Tree) → made bs id (Branch l cs) ≡ Branch l (map (made bs id) cs)
made-Branch bs id l cs = ap (made bs id) (sym (rolls-Branch l cs)) ∙ fold-roll-Tree Tree (make_step bs id) _

-- what is no variable passes with this id
abbrev pub Passes : (Token → Bool) → ℕ → Type 0
Passes P id = (k : TokenKind) (text : List ℕ) → is_variable k ≡ false → P (record { kind = k; text = text; id = id }) ≡ true

-- a variable of these tokens stands in the first side
covered_from : (s : Tree) (ts : List Token) → list_all (λ (a : Token). not (is_variable a.kind) || holds (leaves s) a.text) ts ≡ true → (name : List ℕ)
    → holds ts name ≡ true → holds (leaves s) name ≡ true
covered_from s [] c name h = absurd (true≢false (sym h))
covered_from s (a ∷ ts) c name h =
    by (λ k. covered_from s ts
    (right_true (not (is_variable a.kind) || holds (leaves s) a.text) (list_all (λ (b : Token). not (is_variable b.kind) || holds (leaves s) b.text) ts) c)
    name k) (is_variable a.kind && same_bytes a.text name) refl h
  where
    first : (not (is_variable a.kind) || holds (leaves s) a.text) ≡ true
    first = left_true (not (is_variable a.kind) || holds (leaves s) a.text) (list_all (λ (b : Token). not (is_variable b.kind) || holds (leaves s) b.text) ts) c

    by : (holds ts name ≡ true → holds (leaves s) name ≡ true) → (x : Bool) → (is_variable a.kind && same_bytes a.text name) ≡ x
        → (x || holds ts name) ≡ true → holds (leaves s) name ≡ true
    by rest false q k = rest k
    by rest true q k =
        let m : is_variable a.kind ≡ true = left_true (is_variable a.kind) (same_bytes a.text name) q in
        let n : a.text ≡ name = same_bytes-equal a.text name (right_true (is_variable a.kind) (same_bytes a.text name) q) in
        let there : holds (leaves s) a.text ≡ true = sym (ap (λ (y : Bool). not y || holds (leaves s) a.text) m) ∙ first in
        ap (holds (leaves s)) (sym n) ∙ there

-- a variable of the second side stands in the first
pub covered : (s t : Tree) → covers s t ≡ true → (name : List ℕ) → holds (leaves t) name ≡ true → holds (leaves s) name ≡ true
covered s t = covered_from s (leaves t)

module _ (P : Token → Bool) (N : ℕ) (bs : List Bound) (id : ℕ) (values : Values P N bs) (passes : Passes P id) where
  abbrev Makes : Tree → Type 0
  Makes s = width s < N → ((name : List ℕ) → holds (leaves s) name ≡ true → HasValue bs name) → Good P N (made bs id s)

  plain_made : (a : Token) → 0 < N → is_variable a.kind ≡ false → Good P N (numbered id a)
  plain_made a n m = good-Leaf P N (record { kind = a.kind; text = a.text; id = id }) n (passes a.kind a.text m)

  variable_made : (a : Token) → (o : Option Tree) → value bs a.text ≡ o → HasValue bs a.text → Good P N (unwrap_or o (numbered id a))
  variable_made a None q h = absurd (no_some h.0 (sym q ∙ h.1))
  variable_made a (Some v) q h = value-good P N bs a.text v values q

  leaf_made : (k : TokenKind) (a : Token) → a.kind ≡ k → 0 < N → (is_variable k ≡ true → HasValue bs a.text) → Good P N (make_leaf bs id k a)
  leaf_made (kind.Meta k) a e n h = variable_made a (value bs a.text) refl (h refl)
  leaf_made kind.Name a e n h = plain_made a n (ap is_variable e)
  leaf_made kind.Keyword a e n h = plain_made a n (ap is_variable e)
  leaf_made kind.Number a e n h = plain_made a n (ap is_variable e)
  leaf_made kind.Char a e n h = plain_made a n (ap is_variable e)
  leaf_made kind.Str a e n h = plain_made a n (ap is_variable e)
  leaf_made kind.Punct a e n h = plain_made a n (ap is_variable e)
  leaf_made kind.Stray a e n h = plain_made a n (ap is_variable e)
  leaf_made kind.Dots a e n h = plain_made a n (ap is_variable e)
  leaf_made kind.Pat a e n h = plain_made a n (ap is_variable e)

  holds_itself : (a : Token) → is_variable a.kind ≡ true → holds (leaves (Leaf a)) a.text ≡ true
  holds_itself a m =
      ap (λ (ts : List Token). holds ts a.text) (leaves-Leaf a)
      ∙ ap (λ (x : Bool). (x && same_bytes a.text a.text) || false) m
      ∙ ap (λ (x : Bool). x || false) (bytes-refl a.text)

  each_made : (cs : List Tree) → Each Makes cs → greatest (map width cs) < N
      → ((name : List ℕ) → holds (join (map leaves cs)) name ≡ true → HasValue bs name) → Each (Good P N) (map (made bs id) cs)
  each_made [] e w h = tt
  each_made (c ∷ cs) e w h =
      (e.0 (omega (arith, w)) (λ name k. h name (one name k)), each_made cs e.1 (omega (arith, w)) (λ name k. h name (more name k)))
    where
      one : (name : List ℕ) → holds (leaves c) name ≡ true → holds (leaves c ++ join (map leaves cs)) name ≡ true
      one name k =
          list_any-append (λ (a : Token). is_variable a.kind && same_bytes a.text name) (leaves c) (join (map leaves cs))
          ∙ or_left (holds (leaves c) name) (holds (join (map leaves cs)) name) k

      more : (name : List ℕ) → holds (join (map leaves cs)) name ≡ true → holds (leaves c ++ join (map leaves cs)) name ≡ true
      more name k =
          list_any-append (λ (a : Token). is_variable a.kind && same_bytes a.text name) (leaves c) (join (map leaves cs))
          ∙ or_right (holds (leaves c) name) (holds (join (map leaves cs)) name) k

  pub makes : (s : Tree) → width s < N → ((name : List ℕ) → holds (leaves s) name ≡ true → HasValue bs name) → Good P N (made bs id s)
  makes = tree_induction Makes
      (λ a w h. subst (Good P N) (sym (made-Leaf bs id a)) (leaf_made a.kind a refl (omega (arith, w)) (λ m. h a.text (holds_itself a m))))
      (λ l cs e w h.
      let b = width-Branch l cs in
      let n = length-map cs (made bs id) in
      subst (Good P N) (sym (made-Branch bs id l cs)) (good-Branch P N l (map (made bs id) cs) (omega (arith, b, n, w))
      (each_made cs e (omega (arith, b, w)) (λ name k. h name (ap (λ (ts : List Token). holds ts name) (leaves-Branch l cs) ∙ k)))))
