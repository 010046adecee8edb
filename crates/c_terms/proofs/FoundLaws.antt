-- The path of each part of a tree leads to it.
-- Proof: by induction on the tree. The parts of a branch are split by child, and a child's number is the number of
-- children before it.
use Rattle.std.proofs.Common.{◌≡◌, ℕ, zero, suc, Bool, true, false, cond, refl, sym, ap, ◌∙◌, subst, arith, List, [], ◌∷◌, ◌++◌}
use Rattle.std.proofs.Common.{map, length, append_assoc, length-append, Some, slice_get}
use Rattle.std.specs.Option.{option_and_then}
use Rattle.c_terms.specs.declared.label.Label.{Label}
use Rattle.c_terms.specs.declared.tree.Tree.{Tree}
use Rattle.c_terms.specs.declared.tree.Tree.TheVariants.{Leaf, Branch}
use Rattle.c_terms.specs.Places.{Place, below, child, subtree, part_at, parts, parts_from}
use Rattle.c_terms.proofs.PlaceLaws.{child_known, parts-Leaf, parts-Branch}
use Rattle.c_terms.proofs.PlaceLemmas.{child-Branch}
use Rattle.c_terms.proofs.Induct.{Each, tree_induction}

-- each path leads to its tree
abbrev AllFound : Tree → List Place → Type 0
AllFound t [] = Unit {0}
AllFound t (p ∷ ps) = (subtree t p.path ≡ Some p.tree) × AllFound t ps

found-append : (t : Tree) (ps qs : List Place) → AllFound t ps → AllFound t qs → AllFound t (ps ++ qs)
found-append t [] qs f g = g
found-append t (p ∷ ps) qs f g = (f.0, found-append t ps qs f.1 g)

found-at : (t : Tree) (ps : List Place) → AllFound t ps → (k : ℕ) (p : Place) → slice_get ps k ≡ Some p → subtree t p.path ≡ Some p.tree
found-at t [] f k p e = absurd (cc)
found-at t (q ∷ ps) f zero p e = let same : q ≡ p = cc in subst (λ (x : Place). subtree t x.path ≡ Some x.tree) same f.0
found-at t (q ∷ ps) f (suc k) p e = found-at t ps f.1 k p e

-- the child after these
child-behind : (before more : List Tree) (c : Tree) → slice_get (before ++ c ∷ more) (length before) ≡ Some c
child-behind [] more c = refl
child-behind (b ∷ before) more c = child-behind before more c

found-below : (t c : Tree) (i : ℕ) → child t i ≡ Some c → (ps : List Place) → AllFound c ps → AllFound t (map (below i) ps)
found-below t c i e [] f = tt
found-below t c i e (p ∷ ps) f = (ap (option_and_then (λ x. subtree x p.path)) e ∙ f.0, found-below t c i e ps f.1)

module _ (test : Label → ℕ → Tree → Bool) where
  found-part : (t c : Tree) (l : Label) (i : ℕ) → child t i ≡ Some c → AllFound t (part_at test l i c)
  found-part t c l i e = by (test l i c)
    where
      by : (b : Bool) → AllFound t (cond b (record { path = i ∷ []; tree = c } ∷ []) [])
      by true = (ap (option_and_then (λ x. Some x)) e, tt)
      by false = tt

  abbrev Finds : Tree → Type 0
  Finds t = AllFound t (parts test t)

  kids-found : (l : Label) (before rest : List Tree) → Each Finds rest
      → AllFound (Branch l (before ++ rest)) (parts_from test l (length before) (map (child_known test) rest))
  kids-found l before [] e = tt
  kids-found l before (c ∷ more) e =
      let at : child (Branch l (before ++ c ∷ more)) (length before) ≡ Some c =
      child-Branch l (before ++ c ∷ more) (length before) ∙ child-behind before more c in
      let whole : (before ++ c ∷ []) ++ more ≡ before ++ c ∷ more = append_assoc before (c ∷ []) more in
      let count : length (before ++ c ∷ []) ≡ suc (length before) = omega (arith, length-append before (c ∷ [])) in
      let later = kids-found l (before ++ c ∷ []) more e.1 in
      let rest : AllFound (Branch l (before ++ c ∷ more)) (parts_from test l (suc (length before)) (map (child_known test) more)) =
      subst (λ n. AllFound (Branch l (before ++ c ∷ more)) (parts_from test l n (map (child_known test) more))) count
      (subst (λ cs. AllFound (Branch l cs) (parts_from test l (length (before ++ c ∷ [])) (map (child_known test) more))) whole later) in
      let own = found-part (Branch l (before ++ c ∷ more)) c l (length before) at in
      let deep = found-below (Branch l (before ++ c ∷ more)) c (length before) at (parts test c) e.0 in
      found-append (Branch l (before ++ c ∷ more)) (part_at test l (length before) c ++ map (below (length before)) (parts test c)) _
      (found-append (Branch l (before ++ c ∷ more)) (part_at test l (length before) c) (map (below (length before)) (parts test c)) own deep) rest

  finds : (t : Tree) → Finds t
  finds = tree_induction Finds
      (λ a. subst (AllFound (Leaf a)) (sym (parts-Leaf test a)) tt)
      (λ l cs e. subst (AllFound (Branch l cs)) (sym (parts-Branch test l cs)) (kids-found l [] cs e))

  pub parts-found : (t : Tree) (k : ℕ) (p : Place) → slice_get (parts test t) k ≡ Some p → subtree t p.path ≡ Some p.tree
  parts-found t k p e = found-at t (parts test t) (finds t) k p e
