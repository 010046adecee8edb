-- The equations of the folds over trees.
use Rattle.std.proofs.Common.{◌≡◌, ℕ, zero, suc, ◌+◌, ◌<◌, ◌≤◌, max, arith, List, [], ◌∷◌, ◌++◌, map, length, get_or, ap, sym, ◌∙◌}
use Rattle.c_terms.specs.declared.token.Token.{Token}
use Rattle.c_terms.specs.declared.label.Label.{Label}
use Rattle.c_terms.specs.declared.tree.Tree.{Tree}
use Rattle.c_terms.specs.declared.tree.Tree.TheVariants.{Leaf, Branch, rolls-Leaf, rolls-Branch}
use Rattle.c_terms.specs.declared.tree.Tree.TheFolds.{fold-roll-Tree}
use Rattle.c_terms.specs.Trees.{join, leaves, leaves_step, levels, levels_step, levels_of_all, greatest, width, width_step}
use Rattle.std.proofs.lemmas.List.{length-map}

pub levels-Leaf : (t : Token) → levels (Leaf t) ≡ 0
levels-Leaf t = ap levels (sym (rolls-Leaf t)) ∙ fold-roll-Tree ℕ levels_step _

pub levels-Branch : (l : Label) (cs : List Tree) → levels (Branch l cs) ≡ levels_of_all cs + 1
levels-Branch l cs = ap levels (sym (rolls-Branch l cs)) ∙ fold-roll-Tree ℕ levels_step _

pub leaves-Branch : (l : Label) (cs : List Tree) → leaves (Branch l cs) ≡ join (map leaves cs)
leaves-Branch l cs = ap leaves (sym (rolls-Branch l cs)) ∙ fold-roll-Tree (List Token) leaves_step _

pub levels-last : (ts : List Tree) (t : Tree) → levels_of_all (ts ++ t ∷ []) ≡ max (levels_of_all ts) (levels t)
levels-last [] t = omega arith
levels-last (u ∷ ts) t = omega (arith, levels-last ts t)

pub leaves-Leaf : (t : Token) → leaves (Leaf t) ≡ t ∷ []
leaves-Leaf t = ap leaves (sym (rolls-Leaf t)) ∙ fold-roll-Tree (List Token) leaves_step _

pub width-Leaf : (t : Token) → width (Leaf t) ≡ 0
width-Leaf t = ap width (sym (rolls-Leaf t)) ∙ fold-roll-Tree ℕ width_step _

pub width-Branch : (l : Label) (cs : List Tree) → width (Branch l cs) ≡ max (length cs) (greatest (map width cs))
width-Branch l cs =
    ap width (sym (rolls-Branch l cs)) ∙ fold-roll-Tree ℕ width_step _ ∙ ap (λ n. max n (greatest (map width cs))) (length-map cs width)

-- no member of a list exceeds the maximum
pub greatest-at : (f : Tree → ℕ) (ts : List Tree) (i : ℕ) (t : Tree) → i < length ts → t ≡ get_or ts i t → f t ≤ greatest (map f ts)
greatest-at f [] i t h e = absurd (omega (arith, h))
greatest-at f (u ∷ ts) zero t h e = rw e (omega arith)
greatest-at f (u ∷ ts) (suc i) t h e = let r = greatest-at f ts i t (omega (arith, h)) e in omega (arith, r)
