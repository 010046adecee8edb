-- Types that specifiers in trees name.
use Rattle.std.proofs.Common.{◌≡◌, ℕ, false, ◌||◌, List, [], ◌∷◌, map, drop, length, ◌+◌, ◌<◌, get_or, refl, sym, ap, ◌∙◌}
use Rattle.std.specs.List.{list_any}
use Rattle.std.proofs.lemmas.List.{drop_more}
use Rattle.c_terms.specs.declared.token.Token.{Token}
use Rattle.c_terms.specs.declared.label.Label.{Label}
use Rattle.c_terms.specs.declared.tree.Tree.{Tree}
use Rattle.c_terms.specs.declared.tree.Tree.TheVariants.{Leaf, Branch, rolls-Leaf, rolls-Branch}
use Rattle.c_terms.specs.declared.tree.Tree.TheFolds.{fold-Tree, fold-roll-Tree}
use Rattle.c_terms.proofs.Induct.{Each, tree_induction}
use Rattle.smpl_meta.specs.declared.item.Item.{Item}
use Rattle.smpl_meta.specs.TypeNames.{Naming, naming_step, names_type, is_named_in, with_name_of, with_type_names}

-- ---- trees

abbrev naming : List (List ℕ) → Tree → Naming
naming types = fold-Tree Naming (naming_step types)

naming_leaf : (types : List (List ℕ)) (a : Token) → naming types (Leaf a) ≡ record { tree = Leaf a; named = false }
naming_leaf types a = ap (naming types) (sym (rolls-Leaf a)) ∙ fold-roll-Tree Naming (naming_step types) _

abbrev of_branch : List (List ℕ) → Label → List Naming → Naming
of_branch types l ks = record {
  tree = Branch l (map (λ k. k.tree) ks);
  named = list_any (λ (k : Naming). names_type types l k.tree || k.named) ks;
}

naming_branch : (types : List (List ℕ)) (l : Label) (cs : List Tree) → naming types (Branch l cs) ≡ of_branch types l (map (naming types) cs)
naming_branch types l cs = ap (naming types) (sym (rolls-Branch l cs)) ∙ fold-roll-Tree Naming (naming_step types) _

all_kept : (types : List (List ℕ)) (cs : List Tree) → Each (λ t. (naming types t).tree ≡ t) cs → map (λ (k : Naming). k.tree) (map (naming types) cs) ≡ cs
all_kept types [] e = refl
all_kept types (c ∷ cs) e = let h = e.0 in let r = all_kept types cs e.1 in λ i. h i ∷ r i

kept : (types : List (List ℕ)) (t : Tree) → (naming types t).tree ≡ t
kept types = tree_induction (λ t. (naming types t).tree ≡ t)
    (λ a. ap (λ (k : Naming). k.tree) (naming_leaf types a))
    (λ l cs e. ap (λ (k : Naming). k.tree) (naming_branch types l cs) ∙ ap (Branch l) (all_kept types cs e))

kids_named : (types : List (List ℕ)) (l : Label) (cs : List Tree)
    → list_any (λ (k : Naming). names_type types l k.tree || k.named) (map (naming types) cs)
    ≡ list_any (λ c. names_type types l c || is_named_in types c) cs
kids_named types l [] = refl
kids_named types l (c ∷ cs) =
    let h = kept types c in let r = kids_named types l cs in λ i. (names_type types l (h i) || is_named_in types c) || r i

pub named_leaf : (types : List (List ℕ)) (a : Token) → is_named_in types (Leaf a) ≡ false
named_leaf types a = ap (λ (k : Naming). k.named) (naming_leaf types a)

pub named_branch : (types : List (List ℕ)) (l : Label) (cs : List Tree)
    → is_named_in types (Branch l cs) ≡ list_any (λ c. names_type types l c || is_named_in types c) cs
named_branch types l cs = ap (λ (k : Naming). k.named) (naming_branch types l cs) ∙ kids_named types l cs

-- ---- items

-- one more item's name is added
pub names_more : (names : List (List ℕ)) (items : List Item) (i : ℕ) (item : Item) → i < length items → item ≡ get_or items i item
    → with_type_names (with_name_of names item) (drop (i + 1) items) ≡ with_type_names names (drop i items)
names_more names items i item lt is =
    ap (λ (x : Item). with_type_names (with_name_of names x) (drop (i + 1) items)) is
    ∙ sym (ap (with_type_names names) (drop_more items i item lt))
