-- Sides and trees, child by child.
use Rattle.std.proofs.Common.{◌≡◌, ℕ, ◌+◌, ◌<◌, List, [], ◌∷◌, length, get_or, drop, map, Option, Some, None, refl, sym, ap, ◌∙◌, arith}
use Rattle.c_terms.specs.declared.tree.Tree.{Tree}
use Rattle.iso_expand.specs.declared.iso_forms.matching.Bound.{Bound}
use Rattle.iso_expand.specs.IsoForms.Matching.{Matcher, each}
use Rattle.iso_expand.proofs.IsoForms.ListLemmas.{drop_item}

-- the number of sides differs from that of the trees
pub each-uneven : (f : Tree → Matcher) (ss ts : List Tree) (bound : List Bound) → (length ss ≡ length ts → ⊥) → each (map f ss) ts bound ≡ None
each-uneven f [] [] bound h = absurd (h refl)
each-uneven f [] (t ∷ ts) bound h = refl
each-uneven f (s ∷ ss) [] bound h = refl
each-uneven f (s ∷ ss) (t ∷ ts) bound h = by (λ more. each-uneven f ss ts more (λ e. h (omega (arith, e)))) (f s t bound)
  where
    by : ((more : List Bound) → each (map f ss) ts more ≡ None) → (o : Option (List Bound))
        → elim o as (λ o. Option (List Bound)) [ None ↦ None | Some more ↦ each (map f ss) ts more ] ≡ None
    by rest None = refl
    by rest (Some more) = rest more

each-pair : (f : Tree → Matcher) (ss ts : List Tree) (i : ℕ) (s t : Tree) (bound : List Bound) → i < length ss → i < length ts → s ≡ get_or ss i s
    → t ≡ get_or ts i t
    → each (map f (drop i ss)) (drop i ts) bound ≡ each (f s ∷ map f (drop (i + 1) ss)) (t ∷ drop (i + 1) ts) bound
each-pair f ss ts i s t bound h k e g =
    ap (λ (xs : List Tree). each (map f xs) (drop i ts) bound) (drop_item ss i s h e)
    ∙ ap (λ (ys : List Tree). each (map f (s ∷ drop (i + 1) ss)) ys bound) (drop_item ts i t k g)

pub each_more : (f : Tree → Matcher) (ss ts : List Tree) (i : ℕ) (s t : Tree) (bound more : List Bound) → i < length ss → i < length ts
    → s ≡ get_or ss i s → t ≡ get_or ts i t
    → f s t bound ≡ Some more → each (map f (drop (i + 1) ss)) (drop (i + 1) ts) more ≡ each (map f (drop i ss)) (drop i ts) bound
each_more f ss ts i s t bound more h k e g is =
    sym (each-pair f ss ts i s t bound h k e g ∙ by (f s t bound) is)
  where
    by : (o : Option (List Bound)) → o ≡ Some more
        → elim o as (λ o. Option (List Bound)) [ None ↦ None | Some found ↦ each (map f (drop (i + 1) ss)) (drop (i + 1) ts) found ]
        ≡ each (map f (drop (i + 1) ss)) (drop (i + 1) ts) more
    by None q = absurd cc
    by (Some found) q = let same : found ≡ more = cc in ap (each (map f (drop (i + 1) ss)) (drop (i + 1) ts)) same

pub each_fails : (f : Tree → Matcher) (ss ts : List Tree) (i : ℕ) (s t : Tree) (bound : List Bound) → i < length ss → i < length ts
    → s ≡ get_or ss i s → t ≡ get_or ts i t
    → f s t bound ≡ None → each (map f (drop i ss)) (drop i ts) bound ≡ None
each_fails f ss ts i s t bound h k e g is = each-pair f ss ts i s t bound h k e g ∙ by (f s t bound) is
  where
    by : (o : Option (List Bound)) → o ≡ None
        → elim o as (λ o. Option (List Bound)) [ None ↦ None | Some found ↦ each (map f (drop (i + 1) ss)) (drop (i + 1) ts) found ] ≡ None
    by None q = refl
    by (Some found) q = absurd cc
