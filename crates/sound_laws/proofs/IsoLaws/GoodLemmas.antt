-- Trees whose tokens all pass a test, and in which no branch has too many children.
use Rattle.std.proofs.Common.{◌≡◌, ℕ, ◌<◌, Bool, true, false, true≢false, ◌&&◌, ◌||◌, if◌then◌else◌, List, [], ◌∷◌, ◌++◌, length, map}
use Rattle.std.proofs.Common.{Some, None, refl, sym, ap, subst, ◌∙◌, arith}
use Rattle.std.specs.List.{list_all}
use Rattle.std.proofs.lemmas.List.Folds.{list_all-append}
use Rattle.c_terms.specs.declared.token.Token.{Token}
use Rattle.c_terms.specs.declared.label.Label.{Label}
use Rattle.c_terms.specs.declared.tree.Tree.{Tree}
use Rattle.c_terms.specs.declared.tree.Tree.TheVariants.{Leaf, Branch}
use Rattle.c_terms.specs.Same.{same_bytes}
use Rattle.c_terms.specs.Trees.{join, leaves, width, greatest}
use Rattle.c_terms.proofs.TreeLemmas.{leaves-Leaf, leaves-Branch, width-Leaf, width-Branch}
use Rattle.c_terms.proofs.Induct.{Each}
use Rattle.iso_expand.specs.declared.iso_forms.matching.Bound.{Bound}
use Rattle.iso_expand.specs.IsoForms.Matching.{value}

pub both_true : (a b : Bool) → a ≡ true → b ≡ true → (a && b) ≡ true
both_true true b h k = k
both_true false b h k = absurd (true≢false (sym h))

pub left_true : (a b : Bool) → (a && b) ≡ true → a ≡ true
left_true true b h = refl
left_true false b h = absurd (true≢false (sym h))

pub right_true : (a b : Bool) → (a && b) ≡ true → b ≡ true
right_true true b h = h
right_true false b h = absurd (true≢false (sym h))

pub or_left : (a b : Bool) → a ≡ true → (a || b) ≡ true
or_left true b h = refl
or_left false b h = absurd (true≢false (sym h))

pub or_right : (a b : Bool) → b ≡ true → (a || b) ≡ true
or_right true b h = refl
or_right false b h = h

pub no_some : {A : Type 0} (x : A) → None ≡ Some x → ⊥
no_some x e = cc

pub same_some : {A : Type 0} (x y : A) → Some x ≡ Some y → x ≡ y
same_some x y e = cc

-- ---- lists of trees

pub each-append : (Q : Tree → Type 0) (xs ys : List Tree) → Each Q xs → Each Q ys → Each Q (xs ++ ys)
each-append Q [] ys h k = k
each-append Q (x ∷ xs) ys h k = (h.0, each-append Q xs ys h.1 k)

-- ---- trees

module _ (P : Token → Bool) (N : ℕ) where
  abbrev pub Good : Tree → Type 0
  Good t = (list_all P (leaves t) ≡ true) × (width t < N)

  pub good-Leaf : (a : Token) → 0 < N → P a ≡ true → Good (Leaf a)
  good-Leaf a n h =
      (ap (list_all P) (leaves-Leaf a) ∙ both_true (P a) true h refl, let w = width-Leaf a in omega (arith, w, n))

  pub leaf-Good : (a : Token) → Good (Leaf a) → P a ≡ true
  leaf-Good a g = left_true (P a) true (sym (ap (list_all P) (leaves-Leaf a)) ∙ g.0)

  all_pass : (cs : List Tree) → Each Good cs → list_all P (join (map leaves cs)) ≡ true
  all_pass [] e = refl
  all_pass (c ∷ cs) e =
      list_all-append P (leaves c) (join (map leaves cs))
      ∙ both_true (list_all P (leaves c)) (list_all P (join (map leaves cs))) e.0.0 (all_pass cs e.1)

  all_narrow : (cs : List Tree) → 0 < N → Each Good cs → greatest (map width cs) < N
  all_narrow [] n e = n
  all_narrow (c ∷ cs) n e = let h = all_narrow cs n e.1 in let k = e.0.1 in omega (arith, h, k)

  pub good-Branch : (l : Label) (cs : List Tree) → length cs < N → Each Good cs → Good (Branch l cs)
  good-Branch l cs n e = (
    ap (list_all P) (leaves-Branch l cs) ∙ all_pass cs e,
    let w = width-Branch l cs in let h = all_narrow cs (omega (arith, n)) e in omega (arith, w, h, n),
  )

  parts : (cs : List Tree) → list_all P (join (map leaves cs)) ≡ true → greatest (map width cs) < N → Each Good cs
  parts [] h n = tt
  parts (c ∷ cs) h n =
      let k : (list_all P (leaves c) && list_all P (join (map leaves cs))) ≡ true = sym (list_all-append P (leaves c) (join (map leaves cs))) ∙ h in (
        (left_true (list_all P (leaves c)) (list_all P (join (map leaves cs))) k, omega (arith, n)),
        parts cs (right_true (list_all P (leaves c)) (list_all P (join (map leaves cs))) k) (omega (arith, n)),
      )

  pub branch-Good : (l : Label) (cs : List Tree) → Good (Branch l cs) → (length cs < N) × Each Good cs
  branch-Good l cs g =
      let w = width-Branch l cs in
      let n = g.1 in
      (omega (arith, w, n), parts cs (sym (ap (list_all P) (leaves-Branch l cs)) ∙ g.0) (omega (arith, w, n)))

  -- ---- values of variables

  abbrev pub Values : List Bound → Type 0
  Values [] = Unit {0}
  Values (b ∷ bs) = Good b.tree × Values bs

  pub values-push : (bs : List Bound) (name : List ℕ) (t : Tree) → Values bs → Good t → Values (bs ++ record { name = name; tree = t } ∷ [])
  values-push [] name t v g = (g, tt)
  values-push (b ∷ bs) name t v g = (v.0, values-push bs name t v.1 g)

  pub value-good : (bs : List Bound) (name : List ℕ) (v : Tree) → Values bs → value bs name ≡ Some v → Good v
  value-good [] name v h e = absurd (no_some v e)
  value-good (b ∷ bs) name v h e = by (same_bytes b.name name) (λ k. value-good bs name v h.1 k) e
    where
      by : (x : Bool) → (value bs name ≡ Some v → Good v) → (if x then Some b.tree else value bs name) ≡ Some v → Good v
      by true rest k = subst Good (same_some b.tree v k) h.0
      by false rest k = rest k

-- ---- variables that have a value

abbrev pub HasValue : List Bound → List ℕ → Type 0
HasValue bs name = (v : Tree) × (value bs name ≡ Some v)

pub value_before : (bs more : List Bound) (name : List ℕ) → HasValue bs name → HasValue (bs ++ more) name
value_before [] more name h = absurd (no_some h.0 h.1)
value_before (b ∷ bs) more name h = by (same_bytes b.name name) (λ v k. value_before bs more name (v, k)) h.0 h.1
  where
    by : (x : Bool) → ((v : Tree) → value bs name ≡ Some v → HasValue (bs ++ more) name) → (v : Tree)
        → (if x then Some b.tree else value bs name) ≡ Some v → (w : Tree) × ((if x then Some b.tree else value (bs ++ more) name) ≡ Some w)
    by true rest v k = (b.tree, refl)
    by false rest v k = rest v k

pub value_last : (bs : List Bound) (name other : List ℕ) (t : Tree) → same_bytes name other ≡ true
    → HasValue (bs ++ record { name = name; tree = t } ∷ []) other
value_last [] name other t h = (t, ap (λ (x : Bool). if x then Some t else None) h)
value_last (b ∷ bs) name other t h = by (same_bytes b.name other) (value_last bs name other t h)
  where
    by : (x : Bool) → HasValue (bs ++ record { name = name; tree = t } ∷ []) other
        → (w : Tree) × ((if x then Some b.tree else value (bs ++ record { name = name; tree = t } ∷ []) other) ≡ Some w)
    by true rest = (b.tree, refl)
    by false rest = rest
