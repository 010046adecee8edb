-- The paths of the parts of a tree, with one more child.
use Rattle.std.proofs.Common.{◌≡◌, ℕ, suc, ◌+◌, ◌-◌, ◌^◌, ◌<◌, ◌≤◌, max, Bool, true, false, cond, refl, sym, ap, ◌∙◌, arith}
use Rattle.std.proofs.Common.{List, [], ◌∷◌, ◌++◌, map, length, take, drop, get_or, append_assoc, length-append, drop-cons}
use Rattle.std.proofs.lemmas.List.{map-append}
use Rattle.std.proofs.Math.Seq.{take-append_seam}
use Rattle.c_terms.specs.declared.label.Label.{Label}
use Rattle.c_terms.specs.declared.tree.Tree.{Tree}
use Rattle.c_terms.specs.Places.{Place, below, part_at, parts, parts_from}
use Rattle.c_terms.specs.declared.tree.Tree.TheVariants.{Branch}
use Rattle.c_terms.specs.Trees.{width, greatest, levels, levels_of_all}
use Rattle.c_terms.proofs.TreeLemmas.{width-Branch, levels-Branch, greatest-at}
use Rattle.c_terms.proofs.PlaceLaws.{child_known, parts-Branch}

-- the paths of places that are below a path
abbrev pub paths_at : List ℕ → List Place → List (List ℕ)
paths_at above ps = map (λ p. above ++ p.path) ps

paths-below : (above : List ℕ) (i : ℕ) (ps : List Place) → paths_at above (map (below i) ps) ≡ paths_at (above ++ i ∷ []) ps
paths-below above i [] = refl
paths-below above i (p ∷ ps) =
    let e : above ++ (i ∷ p.path) ≡ (above ++ i ∷ []) ++ p.path = sym (append_assoc above (i ∷ []) p.path) in
    let r = paths-below above i ps in λ k. e k ∷ r k

module _ (test : Label → ℕ → Tree → Bool) where
  paths-part : (above : List ℕ) (l : Label) (i : ℕ) (c : Tree) → paths_at above (part_at test l i c) ≡ cond (test l i c) ((above ++ i ∷ []) ∷ []) []
  paths-part above l i c = by (test l i c)
    where
      by : (b : Bool) → paths_at above (cond b (record { path = i ∷ []; tree = c } ∷ []) []) ≡ cond b ((above ++ i ∷ []) ∷ []) []
      by true = refl
      by false = refl

  -- the paths from child i on: its own, those in it, and those from the next child on
  pub paths-step : (above : List ℕ) (l : Label) (cs : List Tree) (i : ℕ) (c : Tree) → i < length cs → c ≡ get_or cs i c
      → paths_at above (parts_from test l i (map (child_known test) (drop i cs)))
      ≡ (cond (test l i c) ((above ++ i ∷ []) ∷ []) [] ++ paths_at (above ++ i ∷ []) (parts test c))
      ++ paths_at above (parts_from test l (i + 1) (map (child_known test) (drop (i + 1) cs)))
  paths-step above l cs i c lt e =
      let one : i + 1 ≡ suc i = omega arith in
      let d : drop i cs ≡ c ∷ drop (suc i) cs = drop-cons cs i c lt ∙ ap (λ x. x ∷ drop (suc i) cs) (sym e) in
      rw (one, d)
      (map-append (λ (p : Place). above ++ p.path) (part_at test l i c ++ map (below i) (parts test c))
      (parts_from test l (suc i) (map (child_known test) (drop (suc i) cs)))
      ∙ ap (λ ps. ps ++ paths_at above (parts_from test l (suc i) (map (child_known test) (drop (suc i) cs))))
      (map-append (λ (p : Place). above ++ p.path) (part_at test l i c) (map (below i) (parts test c))
      ∙ (λ k. paths-part above l i c k ++ paths-below above i (parts test c) k)))

-- what is left once the last step is removed
pub back-up : (above now after : List ℕ) (i : ℕ) → now ≡ above ++ i ∷ [] → after ≡ take (length now - 1) now → after ≡ above
back-up above now after i e h =
    let n : length now - 1 ≡ length above = omega (arith, length-append above (i ∷ []), ap length e) in
    h ∙ (λ k. take (n k) (e k)) ∙ take-append_seam above (i ∷ [])

-- a branch, before its first child
pub paths-start : (test : Label → ℕ → Tree → Bool) (t : Tree) (l : Label) (cs : List Tree) (above : List ℕ) (found : List (List ℕ)) → t ≡ Branch l cs
    → found ++ paths_at above (parts_from test l 0 (map (child_known test) (drop 0 cs))) ≡ found ++ paths_at above (parts test t)
paths-start test t l cs above found e = ap (λ ps. found ++ paths_at above ps) (sym (parts-Branch test l cs) ∙ ap (parts test) (sym e))

-- one child more
pub paths-more : (test : Label → ℕ → Tree → Bool) (above : List ℕ) (l : Label) (cs : List Tree) (i : ℕ) (c : Tree)
    (all own inside after : List (List ℕ)) (b : Bool) (now : List ℕ)
    → i < length cs → c ≡ get_or cs i c → b ≡ test l i c → now ≡ above ++ i ∷ []
    → own ++ paths_at above (parts_from test l i (map (child_known test) (drop i cs))) ≡ all
    → inside ≡ own ++ cond b (now ∷ []) [] → after ≡ inside ++ paths_at now (parts test c)
    → after ++ paths_at above (parts_from test l (i + 1) (map (child_known test) (drop (i + 1) cs))) ≡ all
paths-more test above l cs i c all own inside after b now lt e f g h p q =
    let rest = paths_at above (parts_from test l (i + 1) (map (child_known test) (drop (i + 1) cs))) in
    let first = cond (test l i c) ((above ++ i ∷ []) ∷ []) [] in
    let deep = paths_at (above ++ i ∷ []) (parts test c) in
    let one : inside ≡ own ++ first = p ∙ (λ k. own ++ cond (f k) (g k ∷ []) []) in
    let two : after ≡ (own ++ first) ++ deep = q ∙ (λ k. one k ++ paths_at (g k) (parts test c)) in
    let step : paths_at above (parts_from test l i (map (child_known test) (drop i cs))) ≡ (first ++ deep) ++ rest = paths-step test above l cs i c lt e in
    let join : ((own ++ first) ++ deep) ++ rest ≡ own ++ ((first ++ deep) ++ rest) =
    append_assoc (own ++ first) deep rest ∙ append_assoc own first (deep ++ rest) ∙ ap (λ xs. own ++ xs) (sym (append_assoc first deep rest)) in
    ap (λ xs. xs ++ rest) two ∙ join ∙ ap (λ xs. own ++ xs) (sym step) ∙ h

-- a branch has at most as many children as its width, and no child is wider than it
pub child-number : (t : Tree) (l : Label) (cs : List Tree) (i : ℕ) → t ≡ Branch l cs → width t < 2 ^ 32 → i < length cs → i < 2 ^ 32
child-number t l cs i e w h = let b : width t ≡ max (length cs) (greatest (map width cs)) = ap width e ∙ width-Branch l cs in omega (arith, b, h, w)

pub child-width : (t : Tree) (l : Label) (cs : List Tree) (i : ℕ) (c : Tree) → t ≡ Branch l cs → width t < 2 ^ 32
    → i < length cs → c ≡ get_or cs i c → width c < 2 ^ 32
child-width t l cs i c e w h f =
    let b : width t ≡ max (length cs) (greatest (map width cs)) = ap width e ∙ width-Branch l cs in
    let g = greatest-at width cs i c h f in omega (arith, b, g, w)

-- a child has fewer levels
pub child-levels : (t : Tree) (l : Label) (cs : List Tree) (i : ℕ) (c : Tree) → t ≡ Branch l cs → i < length cs → c ≡ get_or cs i c → levels c < levels t
child-levels t l cs i c e h f =
    let b : levels t ≡ levels_of_all cs + 1 = ap levels e ∙ levels-Branch l cs in
    let g : levels c ≤ levels_of_all cs = greatest-at levels cs i c h f in omega (arith, b, g)
