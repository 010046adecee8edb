-- Two trees of one range are equal.
use Rattle.std.proofs.Common.{◌≡◌, List, [], ◌∷◌, ◌++◌, map, refl, ap, sym, ◌∙◌, append_assoc, arith}
use Rattle.std.proofs.lemmas.Bool.Decides.{nat_tests}
use Rattle.std.proofs.lemmas.Grind.{common_steps}
use Rattle.std.specs.Prelude.{Bool, true, false, ◌&&◌, IsTrue}
use Rattle.c_terms.specs.declared.token.Token.{Token}
use Rattle.c_terms.specs.declared.label.Label.{Label}
use Rattle.c_terms.specs.declared.tree.Tree.{Tree}
use Rattle.c_terms.specs.declared.tree.Tree.TheVariants.{Leaf, Branch}
use Rattle.c_terms.specs.Trees.{leaves, join}
use Rattle.c_terms.specs.Numbers.{label_number}
use Rattle.c_terms.specs.Same.{same_tree, same_label, all_pass}
use Rattle.c_terms.proofs.Induct.{Each, tree_induction, tree_cases}
use Rattle.c_terms.proofs.NumberLaws.{label_number-injective}
use Rattle.c_terms.proofs.TreeLemmas.{leaves-Leaf, leaves-Branch}
use Rattle.c_terms.proofs.SameLemmas.{same-Leaf-Branch, same-Branch-Leaf, same-Branch-Branch}
use Rattle.c_terms.proofs.SameLaws.{tree-refl}
use Rattle.c_rows.specs.declared.kind.Kind.{Kind}
use Rattle.c_rows.specs.Look.{Names, look}
use Rattle.c_rows.specs.Seen.{Seen}
use Rattle.c_rows.specs.Range.{leads_member, may_be_type, NoMember, AreSeenAs}
use Rattle.c_rows.specs.Scan.{ends_as_member}
use Rattle.c_rows.specs.Trees.{IsTreeOf, stands_alone}
use Rattle.c_rows.proofs.RangeLemmas.{tree_leaves}
use Rattle.c_rows.proofs.TreeLemmas.{tree_spelled, alone_stops}
use Rattle.c_expr.proofs.OneTree.{one_tree}

-- ---- trees that are the same but for their ids, and whose leaves are equal

abbrev Whole : Tree → Type 0
Whole t = (u : Tree) (xs ys : List Token) → same_tree t u ≡ true → leaves t ++ xs ≡ leaves u ++ ys → (t ≡ u) × (xs ≡ ys)

head_same : (a b : Token) (xs ys : List Token) → a ∷ xs ≡ b ∷ ys → (a ≡ b) × (xs ≡ ys)
head_same a b xs ys e = (cc, cc)

parted : (c : Tree) (cs : List Tree) (xs : List Token) → join (map leaves (c ∷ cs)) ++ xs ≡ leaves c ++ (join (map leaves cs) ++ xs)
parted c cs xs = append_assoc (leaves c) (join (map leaves cs)) xs

kids_whole : (cs us : List Tree) → Each Whole cs → all_pass (map same_tree cs) us ≡ true → (xs ys : List Token)
    → join (map leaves cs) ++ xs ≡ join (map leaves us) ++ ys → (cs ≡ us) × (xs ≡ ys)
kids_whole [] [] e h xs ys eq = (refl, eq)
kids_whole [] (u ∷ us) e h xs ys eq = absurd (cc)
kids_whole (c ∷ cs) [] e h xs ys eq = absurd (cc)
kids_whole (c ∷ cs) (u ∷ us) e h xs ys eq =
    let a : same_tree c u ≡ true = grind (arith, common_steps) in
    let b : all_pass (map same_tree cs) us ≡ true = grind (arith, common_steps) in
    let first = e.0 u (join (map leaves cs) ++ xs) (join (map leaves us) ++ ys) a (sym (parted c cs xs) ∙ eq ∙ parted u us ys) in
    let rest = kids_whole cs us e.1 b xs ys first.1 in
    (ap (λ (x : Tree). x ∷ cs) first.0 ∙ ap (λ (ks : List Tree). u ∷ ks) rest.0, rest.1)

branch_whole : (l : Label) (cs : List Tree) → Each Whole cs → (k : Label) (us : List Tree) (xs ys : List Token)
    → same_tree (Branch l cs) (Branch k us) ≡ true → leaves (Branch l cs) ++ xs ≡ leaves (Branch k us) ++ ys
    → (Branch l cs ≡ Branch k us) × (xs ≡ ys)
branch_whole l cs e k us xs ys h eq =
    let m : (same_label l k && all_pass (map same_tree cs) us) ≡ true = sym (same-Branch-Branch l cs k us) ∙ h in
    let a : label_number l ≡ label_number k = grind (arith, nat_tests, common_steps) in
    let b : all_pass (map same_tree cs) us ≡ true = grind (arith, common_steps) in
    let f : join (map leaves cs) ++ xs ≡ join (map leaves us) ++ ys =
    ap (λ (ts : List Token). ts ++ xs) (sym (leaves-Branch l cs)) ∙ eq ∙ ap (λ (ts : List Token). ts ++ ys) (leaves-Branch k us) in
    let r = kids_whole cs us e b xs ys f in
    (ap (λ (x : Label). Branch x cs) (label_number-injective l k a) ∙ ap (λ (ks : List Tree). Branch k ks) r.0, r.1)

leaf_whole : (a b : Token) (xs ys : List Token) → leaves (Leaf a) ++ xs ≡ leaves (Leaf b) ++ ys → (Leaf a ≡ Leaf b) × (xs ≡ ys)
leaf_whole a b xs ys eq =
    let f : a ∷ xs ≡ b ∷ ys = ap (λ (ts : List Token). ts ++ xs) (sym (leaves-Leaf a)) ∙ eq ∙ ap (λ (ts : List Token). ts ++ ys) (leaves-Leaf b) in
    let r = head_same a b xs ys f in
    (ap Leaf r.0, r.1)

whole : (t : Tree) → Whole t
whole = tree_induction Whole
    (λ a. tree_cases (λ u. (xs ys : List Token) → same_tree (Leaf a) u ≡ true → leaves (Leaf a) ++ xs ≡ leaves u ++ ys → (Leaf a ≡ u) × (xs ≡ ys))
    (λ b xs ys h eq. leaf_whole a b xs ys eq)
    (λ k us xs ys h eq. let f = same-Leaf-Branch a k us in absurd (cc)))
    (λ l cs e. tree_cases (λ u. (xs ys : List Token) → same_tree (Branch l cs) u ≡ true
    → leaves (Branch l cs) ++ xs ≡ leaves u ++ ys → (Branch l cs ≡ u) × (xs ≡ ys))
    (λ b xs ys h eq. let f = same-Branch-Leaf l cs b in absurd (cc))
    (λ k us xs ys h eq. branch_whole l cs e k us xs ys h eq))

-- two trees with equal leaves that are not unequal
stable : (t u : Tree) → ((t ≡ u → ⊥) → ⊥) → leaves t ≡ leaves u → t ≡ u
stable t u n e = (whole t u [] [] (pick (same_tree t u) refl) (ap (λ (ts : List Token). ts ++ []) e)).0
  where
    pick : (b : Bool) → same_tree t u ≡ b → same_tree t u ≡ true
    pick true h = h
    pick false h = absurd (n (λ same. let f = tree-refl t in let g : same_tree t t ≡ same_tree t u = ap (same_tree t) same in cc))

-- ---- how a range is seen

abbrev seen_at : Names → Token → List Token → Bool → Seen
seen_at names t ts b = record { token = t; class = look names (t ∷ ts); typed = b }

no_bool : {A : Type 0} → IsTrue false → A
no_bool h = let never : ⊥ = cc in absurd never

-- Every list of tokens is seen in some way, up to double negation.
seen_some : (names : Names) (leads : Bool) (ts : List Token) → ((ss : List Seen) → AreSeenAs names leads ts ss → ⊥) → ⊥
seen_some names leads [] f = f [] tt
seen_some names leads (t ∷ ts) f = seen_some names (leads_member t) ts (λ ss a.
    let none : NoMember (seen_at names t ts false ∷ ss) → IsTrue leads → IsTrue (may_be_type (seen_at names t ts false ∷ ss))
    → IsTrue (ends_as_member names (t ∷ ts)) → ⊥ = λ n h m w.
    f (seen_at names t ts true ∷ ss) (record { token = refl; class = refl; marked = λ x. (h, m, w, n); unmarked_else = λ x y w z. refl }, a) in
    f (seen_at names t ts false ∷ ss) (record { token = refl; class = refl; marked = no_bool; unmarked_else = λ x y w z. absurd (none z x y w) }, a))

-- ---- the one tree

pub one_of_range : (k : Kind) (names : Names) (ts : List Token) (t u : Tree) → IsTrue (stands_alone k) → IsTreeOf k names ts t → IsTreeOf k names ts u → t ≡ u
one_of_range k names ts t u o h g =
    stable t u (λ n. seen_some names false ts (λ ss a.
    n ((one_tree 1000 k ss t [] (tree_spelled names k ts t ss o a h) (alone_stops k o) h.shallow u []
    (tree_spelled names k ts u ss o a g) (alone_stops k o) g.shallow).0)))
    (tree_leaves k names ts t h ∙ sym (tree_leaves k names ts u g))
