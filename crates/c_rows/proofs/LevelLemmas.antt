-- A derived tree has at most four levels for each of its tokens, and a few more.
use Rattle.std.proofs.Common.{◌≡◌, ◌≤◌, ◌+◌, ◌-◌, ◌*◌, max, length, ℕ, suc, List, [], ◌∷◌, refl, subst, arith}
use Rattle.std.proofs.lemmas.Bool.Decides.{nat_tests}
use Rattle.std.specs.Prelude.{Bool, true, false, ◌&&◌, if◌then◌else◌, nat_le, IsTrue}
use Rattle.std.specs.List.{list_all}
use Rattle.c_terms.specs.declared.token.Token.{Token}
use Rattle.c_terms.specs.declared.tree.Tree.{Tree}
use Rattle.c_terms.specs.declared.tree.Tree.TheVariants as tree
use Rattle.c_terms.specs.Trees.{levels, levels_of_all}
use Rattle.c_terms.proofs.TreeLemmas.{levels-Leaf, levels-Branch}
use Rattle.c_rows.specs.declared.kind.Kind.{Kind}
use Rattle.c_rows.specs.declared.kind.Family.{Family}
use Rattle.c_rows.specs.declared.kind.Family.TheVariants as family
use Rattle.c_rows.specs.declared.rule.Rule.{Rule}
use Rattle.c_rows.specs.declared.rule.Rule.TheVariants as rule
use Rattle.c_rows.specs.declared.symbol.Symbol.TheVariants as symbol
use Rattle.c_rows.specs.declared.symbol.Fork.{Fork}
use Rattle.c_rows.specs.declared.symbol.Fork.TheVariants as forks
use Rattle.c_rows.specs.Kinds.{family_of}
use Rattle.c_rows.specs.Rows.{Row, ways, row, kind_of, label_of, build}
use Rattle.c_rows.specs.Look.{Names}
use Rattle.c_rows.specs.Choice.{full}
use Rattle.c_rows.specs.Derives.{Derives, leaf, branch, DerivesRow, done, word, child, argument, type_argument, fork, Anywhere}
use Rattle.c_rows.specs.Letter.{AllLow}
use Rattle.c_rows.proofs.Checks.{and_left, and_right, row_at}
use Rattle.c_rows.proofs.FirstLemmas.{within_family}

-- ---- tokens: four times the smallest number that a row takes

abbrev least_fork : Fork → ℕ
least_fork forks.FirstString = 4
least_fork forks.NoType = 4
least_fork forks.MacroWords = 4
least_fork forks.FirstDeclarator = 4
least_fork forks.FirstExternal = 4
least_fork forks.MacroNames = 4
least_fork forks.NestStart = 4
least_fork _ = 0

abbrev least_tree : Family → ℕ
least_tree f = if full f then 4 else 0

abbrev least : Row → ℕ
least [] = 0
least (symbol.Word w ∷ ps) = least ps + 4
least (symbol.Child k ∷ ps) = least ps + least_tree (family_of k)
least (symbol.Argument ∷ ps) = least ps + 4
least (symbol.Fork f ∷ ps) = least_fork f

least_rule : (r : Rule) → IsTrue (nat_le (least_tree (family_of (kind_of r))) (least (row r)))
least_rule rule.Paren = refl
least_rule _ = refl

abbrev least_at : Fork → Row → Bool
least_at f ps = nat_le (least_fork f) (least ps)

least_ways : (f : Fork) → IsTrue (list_all (least_at f) (ways f))
least_ways forks.FirstString = refl
least_ways _ = refl

-- ---- levels: what a tree of the family may have beyond four for each token

abbrev height : Family → ℕ
height family.Args = 4
height family.TypeArg = 3
height family.Params = 3
height family.TypeName = 2
height family.Param = 2
height family.Field = 2
height family.Specs = 1
height family.InitItem = 1
height family.StmtList = 1
height _ = 0

abbrev credit : Fork → ℕ
credit forks.FirstArg = 5
credit forks.NextArg = 5
credit forks.FirstParam = 6
credit forks.NextParam = 6
credit forks.Members = 6
credit forks.FirstInit = 7
credit forks.NextInit = 7
credit forks.FirstString = 9
credit forks.MacroWords = 9
credit forks.MacroNames = 9
credit forks.NestStart = 9
credit _ = 8

abbrev room : Row → ℕ → Bool
room [] c = nat_le c 8
room (symbol.Word w ∷ ps) c = room ps (c - 4)
room (symbol.Child k ∷ ps) c = nat_le (c + height (family_of k)) (least ps + 8) && room ps (c - least_tree (family_of k))
room (symbol.Argument ∷ ps) c = nat_le (c + 3) (least ps + 8) && room ps (c - 4)
room (symbol.Fork f ∷ ps) c = nat_le c (credit f)

abbrev rule_credit : Rule → ℕ
rule_credit r = 9 - height (family_of (kind_of r))

room_rule : (r : Rule) → IsTrue (room (row r) (rule_credit r))
room_rule rule.Paren = refl
room_rule _ = refl

abbrev room_at : Fork → Row → Bool
room_at f ps = room ps (credit f)

room_ways : (f : Fork) → IsTrue (list_all (room_at f) (ways f))
room_ways forks.FirstString = refl
room_ways _ = refl

-- ---- arithmetic

le_is : (a b : ℕ) → IsTrue (nat_le a b) → a ≤ b
le_is a b h = grind (arith, nat_tests)

step_least : (a b x y z : ℕ) → 4 * y + b ≤ 4 * x → 4 * z + a ≤ 4 * y → 4 * z + (a + b) ≤ 4 * x
step_least a b x y z h g = omega arith

weaken_least : (a b x y : ℕ) → a ≤ b → 4 * y + b ≤ 4 * x → 4 * y + a ≤ 4 * x
weaken_least a b x y h g = omega arith

step_low : (l m c h a b x y z : ℕ) → l + 4 * y ≤ 4 * x + h → 4 * y + b ≤ 4 * x → m + (c - b) + 4 * z ≤ 4 * y + 8 → 4 * z + a ≤ 4 * y → c + h ≤ a + 8
    → max l m + c + 4 * z ≤ 4 * x + 8
step_low l m c h a b x y z p q r s t = omega arith

member_low : (l h x y : ℕ) → h ≤ 3 → l + 4 * y ≤ 4 * x + h → l + 4 * y ≤ 4 * x + 3
member_low l h x y p q = omega arith

word_low : (l m c x z : ℕ) → l ≡ 0 → m + (c - 4) + 4 * z ≤ 4 * x + 8 → max l m + c + 4 * z ≤ 4 * suc x + 8
word_low l m c x z e h = omega arith

weaken_low : (m c d x y : ℕ) → c ≤ d → m + d + 4 * y ≤ 4 * x + 8 → m + c + 4 * y ≤ 4 * x + 8
weaken_low m c d x y h g = omega arith

branch_low : (l m h x y : ℕ) → l ≡ m + 1 → m + (9 - h) + 4 * y ≤ 4 * x + 8 → l + 4 * y ≤ 4 * x + h
branch_low l m h x y e g = omega arith

end_low : (c x : ℕ) → c ≤ 8 → 0 + c + 4 * x ≤ 4 * x + 8
end_low c x h = omega arith

leaf_low : (l h x : ℕ) → l ≡ 0 → l + 4 * x ≤ 4 * suc x + h
leaf_low l h x e = omega arith

leaf_least : (f : Family) (x : ℕ) → 4 * x + least_tree f ≤ 4 * suc x
leaf_least f x = pick (full f)
  where
    pick : (b : Bool) → 4 * x + (if b then 4 else 0) ≤ 4 * suc x
    pick true = omega arith
    pick false = omega arith

same_x : (x : ℕ) → 4 * x + 0 ≤ 4 * x
same_x x = omega arith

word_least : (a x z : ℕ) → 4 * z + a ≤ 4 * x → 4 * z + (a + 4) ≤ 4 * suc x
word_least a x z h = omega arith

-- ---- trees

module _ (names : Names) (may : List Token → List Token → Type 0) where
  mutual
    tree_least : {k : Kind} {xs ys : List Token} {t : Tree} → Derives names may k xs t ys → 4 * length ys + least_tree (family_of k) ≤ 4 * length xs
    tree_least {k} (leaf {ys = ys} h) = leaf_least (family_of k) (length ys)
    tree_least {k} {xs} {ys} (branch r w b al parts) =
        subst (λ (f : Family). 4 * length ys + least_tree f ≤ 4 * length xs) (within_family (kind_of r) k w)
        (weaken_least (least_tree (family_of (kind_of r))) (least (row r)) (length xs) (length ys) (le_is _ _ (least_rule r)) (row_least parts))

    row_least : {ps : Row} {xs ys : List Token} {cs : List Tree} → DerivesRow names may ps xs cs ys → 4 * length ys + least ps ≤ 4 * length xs
    row_least (done {xs = xs}) = same_x (length xs)
    row_least (word {ps = ps} {xs = xs} {ys = ys} h rest) = word_least (least ps) (length xs) (length ys) (row_least rest)
    row_least (child {k = k} {ps = ps} {xs = xs} {ys = mid} {zs = ys} d rest) =
        step_least (least ps) (least_tree (family_of k)) (length xs) (length mid) (length ys) (tree_least d) (row_least rest)
    row_least (argument {ps = ps} {xs = xs} {ys = mid} {zs = ys} d rest) =
        step_least (least ps) 4 (length xs) (length mid) (length ys) (tree_least d) (row_least rest)
    row_least (type_argument {ps = ps} {xs = xs} {ys = mid} {zs = ys} a d rest) =
        step_least (least ps) 4 (length xs) (length mid) (length ys) (tree_least d) (row_least rest)
    row_least (fork {f = f} {ps = ps} {xs = xs} {ys = ys} i w v way) =
        weaken_least (least_fork f) (least ps) (length xs) (length ys) (le_is _ _ (row_at (least_at f) (ways f) i ps (least_ways f) w)) (row_least way)

  mutual
    pub tree_low : {k : Kind} {xs ys : List Token} {t : Tree} → Derives names may k xs t ys → levels t + 4 * length ys ≤ 4 * length xs + height (family_of k)
    tree_low {k} (leaf {t = t} {ys = ys} h) = leaf_low (levels (tree.Leaf t)) (height (family_of k)) (length ys) (levels-Leaf t)
    tree_low {k} {xs} {ys} (branch {cs = cs} r w b al parts) =
        subst (λ (f : Family). levels (build r cs) + 4 * length ys ≤ 4 * length xs + height f) (within_family (kind_of r) k w)
        (branch_low (levels (build r cs)) (levels_of_all cs) (height (family_of (kind_of r))) (length xs) (length ys)
        (levels-Branch (label_of r cs) cs) (row_low parts (rule_credit r) (room_rule r)))

    row_low : {ps : Row} {xs ys : List Token} {cs : List Tree} → DerivesRow names may ps xs cs ys → (c : ℕ) → IsTrue (room ps c)
        → levels_of_all cs + c + 4 * length ys ≤ 4 * length xs + 8
    row_low (done {xs = xs}) c h = end_low c (length xs) (le_is c 8 h)
    row_low (word {ps = ps} {t = t} {xs = xs} {ys = ys} {cs = cs} g rest) c h =
        word_low (levels (tree.Leaf t)) (levels_of_all cs) c (length xs) (length ys) (levels-Leaf t) (row_low rest (c - 4) h)
    row_low (child {k = k} {ps = ps} {xs = xs} {ys = mid} {zs = ys} {t = t} {cs = cs} d rest) c h =
        step_low (levels t) (levels_of_all cs) c (height (family_of k)) (least ps) (least_tree (family_of k)) (length xs)
        (length mid) (length ys) (tree_low d) (tree_least d)
        (row_low rest (c - least_tree (family_of k))
        (and_right (nat_le (c + height (family_of k)) (least ps + 8)) (room ps (c - least_tree (family_of k))) h)) (row_least rest)
        (le_is _ _ (and_left (nat_le (c + height (family_of k)) (least ps + 8)) (room ps (c - least_tree (family_of k))) h))
    row_low (argument {ps = ps} {xs = xs} {ys = mid} {zs = ys} {t = t} {cs = cs} d rest) c h =
        step_low (levels t) (levels_of_all cs) c 3 (least ps) 4 (length xs) (length mid) (length ys)
        (member_low (levels t) 0 (length xs) (length mid) (omega arith) (tree_low d)) (tree_least d)
        (row_low rest (c - 4) (and_right (nat_le (c + 3) (least ps + 8)) (room ps (c - 4)) h)) (row_least rest)
        (le_is _ _ (and_left (nat_le (c + 3) (least ps + 8)) (room ps (c - 4)) h))
    row_low (type_argument {ps = ps} {xs = xs} {ys = mid} {zs = ys} {t = t} {cs = cs} a d rest) c h =
        step_low (levels t) (levels_of_all cs) c 3 (least ps) 4 (length xs) (length mid) (length ys) (tree_low d) (tree_least d)
        (row_low rest (c - 4) (and_right (nat_le (c + 3) (least ps + 8)) (room ps (c - 4)) h)) (row_least rest)
        (le_is _ _ (and_left (nat_le (c + 3) (least ps + 8)) (room ps (c - 4)) h))
    row_low (fork {f = f} {ps = ps} {xs = xs} {ys = ys} {cs = cs} i w v way) c h =
        weaken_low (levels_of_all cs) c (credit f) (length xs) (length ys) (le_is c (credit f) h)
        (row_low way (credit f) (row_at (room_at f) (ways f) i ps (room_ways f) w))

short_low : (l x y : ℕ) → x ≤ 250 → l + 4 * y ≤ 4 * x + 0 → l ≤ 1000
short_low l x y h g = omega arith

rest_short : (x : ℕ) → suc x ≤ 250 → x ≤ 250
rest_short x h = omega arith

-- In 250 tokens no expression has more than 1,000 levels.
pub short_all_low : (names : Names) (ts : List Token) → length ts ≤ 250 → AllLow names ts
short_all_low names [] h = tt
short_all_low names (t ∷ ts) h =
    (λ u ys d e. short_low (levels u) (length (t ∷ ts)) (length ys) h (tree_low names Anywhere d), short_all_low names ts (rest_short (length ts) h))
