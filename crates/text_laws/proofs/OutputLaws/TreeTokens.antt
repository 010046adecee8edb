-- What holds of the tokens of a tree holds of those of its subtrees, and of the runs of its lists.
use Rattle.std.proofs.Common.{ℕ, zero, suc, Bool, true, false, sym, subst, List, [], ◌∷◌, ◌++◌, map, take, drop, Option, None, Some}
use Rattle.std.specs.Prelude.{slice_get, if◌then◌else◌, option_and_then}
use Rattle.c_terms.specs.declared.token.Token.{Token}
use Rattle.c_terms.specs.declared.label.Label.{Label}
use Rattle.c_terms.specs.declared.list.Member.{Member}
use Rattle.c_terms.specs.declared.tree.Tree.{Tree, out-Tree}
use Rattle.c_terms.specs.declared.tree.Tree.TheOpen.{Tree-F}
use Rattle.c_terms.specs.declared.tree.Tree.TheVariants.{Leaf}
use Rattle.c_terms.specs.Trees.{leaves, join}
use Rattle.c_terms.specs.Lists.{is_comma, comma_at, comma, members_from, comma_kids, more_kids, run_kids, run}
use Rattle.c_terms.specs.Places.{child_at, child, subtree}
use Rattle.c_terms.proofs.Induct.{Each, tree_cases}
use Rattle.c_terms.proofs.TreeLemmas.{leaves-Leaf, leaves-Branch}
use Rattle.c_terms.proofs.SameLemmas.{out-Leaf, out-Branch}

module _ (P : Token → Type 0) where
  abbrev pub Have : List Token → Type 0
  Have [] = Unit {0}
  Have (t ∷ ts) = P t × Have ts

  pub have_left : (xs ys : List Token) → Have (xs ++ ys) → Have xs
  have_left [] ys h = tt
  have_left (x ∷ xs) ys h = (h.0, have_left xs ys h.1)

  pub have_right : (xs ys : List Token) → Have (xs ++ ys) → Have ys
  have_right [] ys h = h
  have_right (x ∷ xs) ys h = have_right xs ys h.1

  pub have_both : (xs ys : List Token) → Have xs → Have ys → Have (xs ++ ys)
  have_both [] ys h k = k
  have_both (x ∷ xs) ys h k = (h.0, have_both xs ys h.1 k)

  -- ---- trees

  abbrev pub TreeHas : Tree → Type 0
  TreeHas t = Have (leaves t)

  pub kids_have : (cs : List Tree) → Have (join (map leaves cs)) → Each TreeHas cs
  kids_have [] h = tt
  kids_have (c ∷ cs) h = (have_left (leaves c) (join (map leaves cs)) h, kids_have cs (have_right (leaves c) (join (map leaves cs)) h))

  pub have_kids : (cs : List Tree) → Each TreeHas cs → Have (join (map leaves cs))
  have_kids [] h = tt
  have_kids (c ∷ cs) h = have_both (leaves c) (join (map leaves cs)) h.0 (have_kids cs h.1)

  pub leaf_has : (a : Token) → P a → TreeHas (Leaf a)
  leaf_has a h = subst Have (sym (leaves-Leaf a)) (h, tt)

  abbrev pub Layer : Tree-F Tree → Type 0
  Layer (Tree-F.Leaf a) = P a
  Layer (Tree-F.Branch l cs) = Each TreeHas cs

  pub layer : (t : Tree) → TreeHas t → Layer (out-Tree t)
  layer = tree_cases (λ t. TreeHas t → Layer (out-Tree t))
      (λ a h. subst Layer (sym (out-Leaf a)) ((subst Have (leaves-Leaf a) h).0))
      (λ l cs h. subst Layer (sym (out-Branch l cs)) (kids_have cs (subst Have (leaves-Branch l cs) h)))

  abbrev pub SomeTreeHas : Option Tree → Type 0
  SomeTreeHas None = Unit {0}
  SomeTreeHas (Some t) = TreeHas t

  pub kid_at : (cs : List Tree) (i : ℕ) → Each TreeHas cs → SomeTreeHas (slice_get cs i)
  kid_at [] i h = tt
  kid_at (c ∷ cs) zero h = h.0
  kid_at (c ∷ cs) (suc i) h = kid_at cs i h.1

  pub child_by : (y : Tree-F Tree) (i : ℕ) → Layer y → SomeTreeHas (child_at y i)
  child_by (Tree-F.Leaf a) i h = tt
  child_by (Tree-F.Branch l cs) i h = kid_at cs i h

  pub child_has : (t : Tree) (i : ℕ) → TreeHas t → SomeTreeHas (child t i)
  child_has t i h = child_by (out-Tree t) i (layer t h)

  -- ---- members of lists

  abbrev pub SomeHas : Option Token → Type 0
  SomeHas None = Unit {0}
  SomeHas (Some t) = P t

  abbrev pub MembersHave : List Member → Type 0
  MembersHave [] = Unit {0}
  MembersHave (m ∷ ms) = (SomeHas m.comma × TreeHas m.tree) × MembersHave ms

  pub comma_if : (a : Token) (b : Bool) → P a → SomeHas (if b then Some a else None)
  comma_if a true h = h
  comma_if a false h = tt

  pub comma_by : (y : Tree-F Tree) → Layer y → SomeHas (comma_at y)
  comma_by (Tree-F.Leaf a) h = comma_if a (is_comma a) h
  comma_by (Tree-F.Branch l cs) h = tt

  pub members_have : (before : Option Token) (us : List Tree) → SomeHas before → Each TreeHas us → MembersHave (members_from before us)
  members_have before [] b h = tt
  members_have before (t ∷ ts) b h =
      elim (comma t) as (λ (o : Option Token). SomeHas o → MembersHave (elim o as (λ p. List Member) [
        | None ↦ record { comma = before; tree = t } ∷ members_from None ts
        | Some c ↦ members_from (Some c) ts
      ])) [
        | None ↦ λ x. ((b, h.0), members_have None ts tt h.1)
        | Some c ↦ λ x. members_have (Some c) ts x h.1
      ] (comma_by (out-Tree t) (layer t h.0))

  pub take_have : (n : ℕ) (ms : List Member) → MembersHave ms → MembersHave (take n ms)
  take_have zero ms h = tt
  take_have (suc n) [] h = tt
  take_have (suc n) (m ∷ ms) h = (h.0, take_have n ms h.1)

  pub drop_have : (n : ℕ) (ms : List Member) → MembersHave ms → MembersHave (drop n ms)
  drop_have zero ms h = h
  drop_have (suc n) [] h = tt
  drop_have (suc n) (m ∷ ms) h = drop_have n ms h.1

  pub comma_kids_have : (o : Option Token) (rest : List Tree) → SomeHas o → Each TreeHas rest → Each TreeHas (comma_kids o ++ rest)
  comma_kids_have None rest h k = k
  comma_kids_have (Some a) rest h k = (leaf_has a h, k)

  pub more_have : (ms : List Member) → MembersHave ms → Each TreeHas (more_kids ms)
  more_have [] h = tt
  more_have (m ∷ ms) h = comma_kids_have m.comma (m.tree ∷ more_kids ms) h.0.0 (h.0.1, more_have ms h.1)

  pub run_kids_have : (ms : List Member) → MembersHave ms → Each TreeHas (run_kids ms)
  run_kids_have [] h = tt
  run_kids_have (m ∷ ms) h = (h.0.1, more_have ms h.1)

  pub run_has : (l : Label) (ms : List Member) → MembersHave ms → TreeHas (run l ms)
  run_has l ms h = subst Have (sym (leaves-Branch l (run_kids ms))) (have_kids (run_kids ms) (run_kids_have ms h))

  -- ---- subtrees

  pub then_has : (f : Tree → Option Tree) → ((t : Tree) → TreeHas t → SomeTreeHas (f t)) → (o : Option Tree) → SomeTreeHas o → SomeTreeHas (option_and_then f o)
  then_has f from None h = tt
  then_has f from (Some c) h = from c h

  pub subtree_has : (t : Tree) (path : List ℕ) → TreeHas t → SomeTreeHas (subtree t path)
  subtree_has t [] h = h
  subtree_has t (i ∷ path) h = then_has (λ c. subtree c path) (λ c k. subtree_has c path k) (child t i) (child_has t i h)
