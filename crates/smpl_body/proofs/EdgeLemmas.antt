-- Dots and nests at edges, one level of a tree at a time.
use Rattle.std.proofs.Common.{◌≡◌, ℕ, suc, ◌-◌, ◌≤◌, refl, sym, ap, ◌∙◌, arith, List, [], ◌∷◌, ◌++◌, map, length, get_or, append_assoc, Bool}
use Rattle.c_terms.specs.declared.token.Token.{Token}
use Rattle.c_terms.specs.declared.label.Label.{Label}
use Rattle.c_terms.specs.declared.tree.Tree.{Tree}
use Rattle.c_terms.specs.declared.tree.Tree.TheOpen.{Tree-F}
use Rattle.c_terms.specs.declared.tree.Tree.TheVariants.{Leaf, Branch, rolls-Leaf, rolls-Branch}
use Rattle.c_terms.specs.declared.tree.Tree.TheFolds.{fold-roll-Tree}
use Rattle.c_terms.specs.Trees.{join}
use Rattle.c_terms.proofs.Induct.{Each, tree_induction}
use Rattle.smpl_body.specs.DotsOf.{Edged, edged, edged_step, own_ends, dots_in, dots_step, is_list, gap, last_gap}

at_leaf : (a : Token) → edged (Leaf a) ≡ edged_step (Tree-F.Leaf a)
at_leaf a = ap edged (sym (rolls-Leaf a)) ∙ fold-roll-Tree Edged edged_step _

at_branch : (l : Label) (cs : List Tree) → edged (Branch l cs) ≡ edged_step (Tree-F.Branch l (map edged cs))
at_branch l cs = ap edged (sym (rolls-Branch l cs)) ∙ fold-roll-Tree Edged edged_step _

abbrev Keeps : Tree → Type 0
Keeps t = (edged t).tree ≡ t

kids-kept : (cs : List Tree) → Each Keeps cs → map (λ (e : Edged). e.tree) (map edged cs) ≡ cs
kids-kept [] e = refl
kids-kept (c ∷ cs) e = let h = e.0 in let r = kids-kept cs e.1 in cc

edged-tree : (t : Tree) → (edged t).tree ≡ t
edged-tree = tree_induction Keeps
    (λ a. ap (λ e. e.tree) (at_leaf a))
    (λ l cs e. ap (λ e. e.tree) (at_branch l cs) ∙ ap (Branch l) (kids-kept cs e))

all-kept : (cs : List Tree) → map (λ (e : Edged). e.tree) (map edged cs) ≡ cs
all-kept [] = refl
all-kept (c ∷ cs) = let h = edged-tree c in let r = all-kept cs in cc

-- the dots and nests at edges within a tree
abbrev pub edges_in : Tree → List ℕ
edges_in t = (edged t).found

maps : (cs : List Tree) → map (λ (e : Edged). e.found) (map edged cs) ≡ map edges_in cs
maps [] = refl
maps (c ∷ cs) = ap (λ (l : List (List ℕ)). edges_in c ∷ l) (maps cs)

pub edges-Leaf : (a : Token) → edges_in (Leaf a) ≡ []
edges-Leaf a = ap (λ (e : Edged). e.found) (at_leaf a)

pub edges-Branch : (l : Label) (cs : List Tree) → edges_in (Branch l cs) ≡ own_ends l cs ++ join (map edges_in cs)
edges-Branch l cs =
    let k = all-kept cs in let m = maps cs in
    ap (λ (e : Edged). e.found) (at_branch l cs) ∙ (λ i. own_ends l (k i) ++ join (m i))

-- dots of a token, and of a branch
pub dots-Leaf : (listed : Bool) (a : Token) (inside : Bool) → dots_in listed (Leaf a) inside ≡ dots_step listed (Tree-F.Leaf a) inside
dots-Leaf listed a inside = ap (λ t. dots_in listed t inside) (sym (rolls-Leaf a)) ∙ ap (λ f. f inside) (fold-roll-Tree (Bool → List ℕ) (dots_step listed) _)

pub dots-Branch : (listed : Bool) (l : Label) (cs : List Tree) (inside : Bool)
    → dots_in listed (Branch l cs) inside ≡ join (map (λ (d : Bool → List ℕ). d (is_list l)) (map (dots_in listed) cs))
dots-Branch listed l cs inside = ap (λ t. dots_in listed t inside) (sym (rolls-Branch l cs))
    ∙ ap (λ f. f inside) (fold-roll-Tree (Bool → List ℕ) (dots_step listed) _)

-- the last of several
pub last-at : (ts : List Tree) (d : Tree) → 1 ≤ length ts → gap (get_or ts (length ts - 1) d) ≡ last_gap ts
last-at [] d h = absurd (omega (arith, h))
last-at (t ∷ []) d h = refl
last-at (t ∷ u ∷ ts) d h =
    let e : suc (suc (length ts)) - 1 ≡ suc (suc (length ts) - 1) = omega arith in
    ap (λ n. gap (get_or (t ∷ u ∷ ts) n d)) e ∙ last-at (u ∷ ts) d (omega arith)

-- the edges of a branch's own sequences are followed by those within its children
pub own-then-kids : (t : Tree) (l : Label) (cs ks : List Tree) (old now : List ℕ) → t ≡ Branch l cs → ks ≡ cs → now ≡ old ++ own_ends l cs
    → now ++ join (map edges_in ks) ≡ old ++ edges_in t
own-then-kids t l cs ks old now e k n =
    ap (λ x. x ++ join (map edges_in ks)) n
    ∙ (append_assoc old (own_ends l cs) (join (map edges_in ks))
    ∙ ap (λ x. old ++ x) (ap (λ x. own_ends l cs ++ join (map edges_in x)) k ∙ (sym (edges-Branch l cs) ∙ ap edges_in (sym e))))
