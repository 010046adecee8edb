-- The first operand, as the code's answers cite it.
use Rattle.std.proofs.Common.{◌≡◌, ℕ, ◌+◌, ◌-◌, ◌≤◌, ◌<◌, max, List, [], ◌∷◌, ◌++◌, length, get_or, take, drop, refl, subst, ap, sym, ◌∙◌, arith}
use Rattle.std.specs.Prelude.{Bool, false, IsTrue, Some, None, Result, Ok, Err, IfOk, IfErr}
use Rattle.c_terms.specs.declared.token.Token.{Token}
use Rattle.c_terms.specs.declared.tree.Tree.{Tree}
use Rattle.c_terms.specs.declared.tree.Tree.TheVariants as tree
use Rattle.c_terms.specs.Trees.{levels, levels_of_all}
use Rattle.c_terms.proofs.TreeLemmas.{levels-Leaf, levels-Branch, levels-last}
use Rattle.c_expr.proofs.Built.{levels-build}
use Rattle.c_expr.proofs.OfKind.{kind_inv, kind_held}
use Rattle.c_terms.specs.declared.label.Label.{Label}
use Rattle.c_expr.specs.declared.fault.ParseFault.{ParseFault}
use Rattle.c_expr.specs.declared.fault.ParseFault.TheVariants.{NoTree, TooDeep, NoMemory}
use Rattle.c_rows.specs.declared.class.Class.{Class}
use Rattle.c_rows.specs.declared.kind.Kind.{Kind}
use Rattle.c_rows.specs.declared.rule.Rule.{Rule}
use Rattle.c_rows.specs.declared.kind.Family.{Family}
use Rattle.c_rows.specs.Kinds.{family_of, within, has_leaf}
use Rattle.c_rows.specs.Rows.{Row, row}
use Rattle.c_rows.specs.Branches.{kind_of, build, allows, begins}
use Rattle.c_rows.specs.Choice.{ends, opens, head, left, own}
use Rattle.c_rows.specs.Seen.{Seen, front}
use Rattle.c_rows.specs.Spells.{Runs}
use Rattle.c_rows.specs.Growth.{Root, root_ends, Operand, token, headed}
use Rattle.c_expr.specs.Steps.{rule_of_kind, headed_by, OnlyOperand, NoOperand, OnlyRun, NoRun, RunsTo, NoGrowth, GrowsBy}
use Rattle.c_expr.specs.Steps.{IsBranch, NoBranch, OnFault, HasLevels}
use Rattle.c_rows.proofs.Checks.{head_is, head_no_leaf, head_left, head_begins, own_ok}
use Rattle.c_rows.proofs.FirstLemmas.{within_family, runs_first}
use Rattle.c_expr.proofs.StepLemmas.{row_joins, ends_closes}
use Rattle.c_rows.proofs.GrowthLemmas.{own_head}
use Rattle.c_expr.proofs.CallLemmas.{tail_slice}

-- ---- a leaf

pub leaf_operand : (m : Kind) (xs : List Seen) (s : Seen) (u : Token) → IsTrue (has_leaf (family_of m) (front xs))
    → 1 ≤ length xs → s ≡ get_or xs 0 s → u ≡ s.token
    → Operand m None xs (tree.Leaf u) (take (length xs - 1) (drop 1 xs))
leaf_operand m [] s u h le g e = absurd (omega arith)
leaf_operand m (x ∷ xs) s u h le g e =
    subst (λ (v : Token). Operand m None (x ∷ xs) (tree.Leaf v) (take (length (x ∷ xs) - 1) (drop 1 (x ∷ xs)))) (sym (e ∙ ap (λ (y : Seen). y.token) g))
    (subst (λ (zs : List Seen). Operand m None (x ∷ xs) (tree.Leaf x.token) zs) (sym (tail_slice x xs)) (token h))

pub head_first : {xs zs : List Seen} {cs : List Tree} (r : Rule) → left r ≡ None → IsTrue (begins r (front xs))
    → Runs (own r) xs cs zs → IsTrue (ends (own r) (front zs)) → IsTrue (opens (row r) (front xs))
head_first {xs} {zs} {cs} r e b runs end =
    subst (λ (ps : Row). IsTrue (opens ps (front xs))) (own_head r e) (runs_first runs (row_joins (own r) (own_ok r)) (ends_closes (own r) (front zs) end))

pub head_here : (m : Kind) {xs zs : List Seen} {cs : List Tree} (r : Rule) → IsTrue (within (kind_of r) m) → left r ≡ None
    → IsTrue (begins r (front xs)) → Runs (own r) xs cs zs → IsTrue (ends (own r) (front zs))
    → head (family_of m) (front xs) ≡ Some r
head_here m {xs} r v e b runs end = subst (λ (f : Family). head f (front xs) ≡ Some r) (within_family (kind_of r) m v)
    (head_is r (front xs) e b (head_first r e b runs end))

pub leaf_never : (m : Kind) {xs zs : List Seen} {cs : List Tree} (r : Rule) → IsTrue (within (kind_of r) m) → left r ≡ None
    → IsTrue (begins r (front xs)) → Runs (own r) xs cs zs → IsTrue (ends (own r) (front zs))
    → IsTrue (has_leaf (family_of m) (front xs)) → ⊥
leaf_never m {xs} r v e b runs end h =
    let f : has_leaf (family_of m) (front xs) ≡ false =
    subst (λ (f : Family). has_leaf f (front xs) ≡ false) (within_family (kind_of r) m v) (head_no_leaf r (front xs) e b (head_first r e b runs end)) in
    cc

leaf_same : {m : Kind} {xs zs : List Seen} {p : Root} {w : Tree} → Operand m p xs w zs → IsTrue (root_ends p (front zs))
    → IsTrue (has_leaf (family_of m) (front xs))
    → (s : Seen) (u : Token) → s ≡ get_or xs 0 s → u ≡ s.token → (None ≡ p) × (tree.Leaf u ≡ w) × (take (length xs - 1) (drop 1 xs) ≡ zs)
leaf_same (token {s = x} {ys = ys} k) end h s u g e = (refl, ap tree.Leaf (e ∙ ap (λ (y : Seen). y.token) g), tail_slice x ys)
leaf_same {m} (headed r v e' b al runs) end h s u g e = absurd (leaf_never m r v e' b runs end h)

pub leaf_only : (most : ℕ) (m : Kind) (xs : List Seen) (s : Seen) (u : Token) → IsTrue (has_leaf (family_of m) (front xs)) → s ≡ get_or xs 0 s → u ≡ s.token
    → OnlyOperand most m xs None (tree.Leaf u) (take (length xs - 1) (drop 1 xs))
leaf_only most m xs s u h g e p w zs o end le = leaf_same o end h s u g e

leaf_some : {m : Kind} {zs : List Seen} {p : Root} {w : Tree} → Operand m p [] w zs → IsTrue (root_ends p (front zs))
    → IsTrue (has_leaf (family_of m) (front [])) → ⊥
leaf_some {m} (headed r v e b al runs) end h = leaf_never m r v e b runs end h

pub leaf_refused : (most : ℕ) (m : Kind) (xs : List Seen) → xs ≡ [] → IsTrue (has_leaf (family_of m) (front xs)) → NoOperand most m xs
leaf_refused most m [] e h p w zs o end le = leaf_some o end h
leaf_refused most m (x ∷ xs) e h p w zs o end le = let never : ⊥ = cc in absurd never

pub leaf_empty : (most : ℕ) (m : Kind) (xs : List Seen) → length xs < 1 → IsTrue (has_leaf (family_of m) (front xs)) → NoOperand most m xs
leaf_empty most m [] short h = leaf_refused most m [] refl h
leaf_empty most m (x ∷ xs) short h = absurd (omega arith)

-- ---- a row

pub row_operand : (m : Kind) (xs ys : List Seen) (r : Rule) (cs : List Tree) → headed_by m (front xs) ≡ Some r
    → IsTrue (allows r cs) → Runs (own r) xs cs ys → Operand m (Some r) xs (build r cs) ys
row_operand m xs ys r cs e al runs = let h = kind_inv m (head (family_of m) (front xs)) r e in
    headed r h.1 (head_left (family_of m) (front xs) r h.0) (head_begins (family_of m) (front xs) r h.0) al runs

less : (r : Rule) (ds : List Tree) (most : ℕ) → levels (build r ds) ≤ most → levels_of_all ds ≤ most - 1
less r ds most le = omega (arith, levels-build r ds)

row_same : (most : ℕ) (m : Kind) (xs ys : List Seen) (r : Rule) (cs : List Tree) → headed_by m (front xs) ≡ Some r
    → has_leaf (family_of m) (front xs) ≡ false → OnlyRun (most - 1) (own r) xs cs ys
    → {p : Root} {w : Tree} {zs : List Seen} → Operand m p xs w zs → IsTrue (root_ends p (front zs)) → levels w ≤ most
    → (Some r ≡ p) × (build r cs ≡ w) × (ys ≡ zs)
row_same most m xs ys r cs e f one (token h) end le = let never : ⊥ = cc in absurd never
row_same most m xs ys r cs e f one (headed {ys = zs} {cs = ds} q v l b al runs) end le =
    let h = kind_inv m (head (family_of m) (front xs)) r e in
    let at_q : head (family_of m) (front xs) ≡ Some q = head_here m q v l b runs end in
    let same : q ≡ r = cc in
    let runs' : Runs (own r) xs ds zs = subst (λ (s : Rule). Runs (own s) xs ds zs) same runs in
    let end' : IsTrue (ends (own r) (front zs)) = subst (λ (s : Rule). IsTrue (ends (own s) (front zs))) same end in
    let found = one ds zs runs' end' (less q ds most le) in
    (ap Some (sym same), ap (λ (ks : List Tree). build r ks) found.0 ∙ ap (λ (s : Rule). build s ds) (sym same), found.1)

pub row_only : (most : ℕ) (m : Kind) (xs ys : List Seen) (r : Rule) (cs : List Tree) → headed_by m (front xs) ≡ Some r
    → has_leaf (family_of m) (front xs) ≡ false → OnlyRun (most - 1) (own r) xs cs ys
    → OnlyOperand most m xs (Some r) (build r cs) ys
row_only most m xs ys r cs e f one p w zs o end le = row_same most m xs ys r cs e f one o end le

row_never : (most : ℕ) (m : Kind) (xs : List Seen) (r : Rule) → headed_by m (front xs) ≡ Some r
    → has_leaf (family_of m) (front xs) ≡ false → NoRun (most - 1) (own r) xs
    → {p : Root} {w : Tree} {zs : List Seen} → Operand m p xs w zs → IsTrue (root_ends p (front zs)) → levels w ≤ most → ⊥
row_never most m xs r e f none (token h) end le = cc
row_never most m xs r e f none (headed {ys = zs} {cs = ds} q v l b al runs) end le =
    let h = kind_inv m (head (family_of m) (front xs)) r e in
    let at_q : head (family_of m) (front xs) ≡ Some q = head_here m q v l b runs end in
    let same : q ≡ r = cc in
    none ds zs (subst (λ (s : Rule). Runs (own s) xs ds zs) same runs) (subst (λ (s : Rule). IsTrue (ends (own s) (front zs))) same end) (less q ds most le)

pub row_refused : (most : ℕ) (m : Kind) (xs : List Seen) (r : Rule) → headed_by m (front xs) ≡ Some r
    → has_leaf (family_of m) (front xs) ≡ false → NoRun (most - 1) (own r) xs
    → NoOperand most m xs
row_refused most m xs r e f none p w zs o end le = row_never most m xs r e f none o end le

headless : (m : Kind) (xs : List Seen) → headed_by m (front xs) ≡ None → has_leaf (family_of m) (front xs) ≡ false
    → {p : Root} {w : Tree} {zs : List Seen} → Operand m p xs w zs → IsTrue (root_ends p (front zs)) → ⊥
headless m xs e f (token h) end = cc
headless m xs e f (headed q v l b al runs) end =
    let found : headed_by m (front xs) ≡ Some q = ap (rule_of_kind m) (head_here m q v l b runs end) ∙ kind_held m q v in
    cc

pub nothing_headed : (most : ℕ) (m : Kind) (xs : List Seen) → headed_by m (front xs) ≡ None → has_leaf (family_of m) (front xs) ≡ false → NoOperand most m xs
nothing_headed most m xs e f p w zs o end le = headless m xs e f o end

no_level : (most : ℕ) (m : Kind) (xs : List Seen) → most ≡ 0 → has_leaf (family_of m) (front xs) ≡ false
    → {p : Root} {w : Tree} {zs : List Seen} → Operand m p xs w zs → levels w ≤ most → ⊥
no_level most m xs z f (token h) le = cc
no_level most m xs z f (headed {cs = ds} q v l b al runs) le = omega (arith, levels-build q ds)

pub no_levels : (most : ℕ) (m : Kind) (xs : List Seen) → most ≡ 0 → has_leaf (family_of m) (front xs) ≡ false → NoOperand most m xs
no_levels most m xs z f p w zs o end le = no_level most m xs z f o le

-- ---- growth

pub less_more : (r : Rule) (t : Tree) (ds : List Tree) (most : ℕ) → levels (build r (t ∷ ds)) ≤ most → levels_of_all ds ≤ most - 1
less_more r t ds most le = omega (arith, levels-build r (t ∷ ds))

pub grown_by : (most : ℕ) (r : Rule) (t : Tree) (xs ys : List Seen) (before all : List Tree) → before ≡ t ∷ []
    → IsTrue (allows r all) → RunsTo (most - 1) (own r) xs before all ys
    → GrowsBy most r t xs (Some r) (build r all) ys
grown_by most r t xs ys before all e al to =
    let whole : all ≡ t ∷ to.0 = to.1 ∙ ap (λ (ks : List Tree). ks ++ to.0) e in (
      to.0,
      refl,
      ap (λ (ks : List Tree). build r ks) whole,
      to.2,
      (λ ds zs runs end ok le. to.3 ds zs runs end (less_more r t ds most le)),
      subst (λ (ks : List Tree). IsTrue (allows r ks)) whole al,
    )

pub not_grown : (most : ℕ) (r : Rule) (t : Tree) (xs : List Seen) → NoRun (most - 1) (own r) xs → NoGrowth most r t xs
not_grown most r t xs none ds zs runs end ok le = none ds zs runs end (less_more r t ds most le)

pub no_growth : (most n : ℕ) (r : Rule) (t : Tree) (xs : List Seen) → n ≡ levels t → most ≤ n → NoGrowth most r t xs
no_growth most n r t xs e high ds zs runs end ok le = omega (arith, levels-build r (t ∷ ds))

-- ---- with the code's values in place of what they equal

pub at_none : (most : ℕ) (m : Kind) (xs : List Seen) (class : Class) (b : Bool) → class ≡ front xs
    → b ≡ has_leaf (family_of m) class → b ≡ false → None ≡ headed_by m class → NoOperand most m xs
at_none most m xs class b e l f n = nothing_headed most m xs (ap (headed_by m) (sym e) ∙ sym n) (ap (has_leaf (family_of m)) (sym e) ∙ sym l ∙ f)

pub at_zero : (most : ℕ) (m : Kind) (xs : List Seen) (class : Class) (b : Bool) → most ≡ 0 → class ≡ front xs
    → b ≡ has_leaf (family_of m) class → b ≡ false → NoOperand most m xs
at_zero most m xs class b z e l f = no_levels most m xs z (ap (has_leaf (family_of m)) (sym e) ∙ sym l ∙ f)

pub at_refused : (most : ℕ) (m : Kind) (xs : List Seen) (class : Class) (b : Bool) (r : Rule) (ps : Row) → class ≡ front xs
    → b ≡ has_leaf (family_of m) class → b ≡ false → Some r ≡ headed_by m class → ps ≡ own r
    → NoRun (most - 1) ps xs → NoOperand most m xs
at_refused most m xs class b r ps e l f n o none =
    row_refused most m xs r (ap (headed_by m) (sym e) ∙ sym n) (ap (has_leaf (family_of m)) (sym e) ∙ sym l ∙ f)
    (subst (λ (qs : Row). NoRun (most - 1) qs xs) o none)

own_run : (most : ℕ) (r : Rule) (ps : Row) (xs ys : List Seen) (before all : List Tree) → ps ≡ own r → before ≡ []
    → RunsTo most ps xs before all ys → Runs (own r) xs all ys × OnlyRun most (own r) xs all ys
own_run most r ps xs ys before all o b to =
    let e : all ≡ to.0 = to.1 ∙ ap (λ (ks : List Tree). ks ++ to.0) b in
    let run : Runs ps xs all ys = subst (λ (ks : List Tree). Runs ps xs ks ys) (sym e) to.2 in
    let one : OnlyRun most ps xs all ys = subst (λ (ks : List Tree). OnlyRun most ps xs ks ys) (sym e) to.3 in
    (subst (λ (qs : Row). Runs qs xs all ys) o run, subst (λ (qs : Row). OnlyRun most qs xs all ys) o one)

branch_at : (m : Kind) (xs ys zs : List Seen) (r : Rule) (all : List Tree) (q : Root) (t : Tree) → IsBranch r all ys q t zs
    → Operand m (Some r) xs (build r all) ys → Operand m q xs t zs
branch_at m xs ys zs r all q t b o =
    subst (λ (p : Root). Operand m p xs t zs) (sym b.root) (subst (λ (u : Tree). Operand m (Some r) xs u zs) (sym b.tree)
    (subst (λ (vs : List Seen). Operand m (Some r) xs (build r all) vs) (sym b.rest) o))

pub branch_found : (most : ℕ) (m : Kind) (xs ys zs : List Seen) (class : Class) (r : Rule) (ps : Row) (before all : List Tree)
    (q : Root) (t : Tree) → class ≡ front xs → Some r ≡ headed_by m class → ps ≡ own r
    → before ≡ [] → RunsTo (most - 1) ps xs before all ys → IsBranch r all ys q t zs → Operand m q xs t zs
branch_found most m xs ys zs class r ps before all q t e n o z to b =
    branch_at m xs ys zs r all q t b (row_operand m xs ys r all (ap (headed_by m) (sym e) ∙ sym n) b.allowed
    (own_run (most - 1) r ps xs ys before all o z to).0)

only_branch : (most : ℕ) (m : Kind) (xs ys zs : List Seen) (r : Rule) (all : List Tree) (q : Root) (t : Tree)
    → IsBranch r all ys q t zs → OnlyOperand most m xs (Some r) (build r all) ys → OnlyOperand most m xs q t zs
only_branch most m xs ys zs r all q t b one p u vs o end le =
    let same = one p u vs o end le in
    (b.root ∙ same.0, b.tree ∙ same.1, b.rest ∙ same.2)

pub branch_only : (most : ℕ) (m : Kind) (xs ys zs : List Seen) (class : Class) (b : Bool) (r : Rule) (ps : Row)
    (before all : List Tree) (q : Root) (t : Tree) → class ≡ front xs → b ≡ has_leaf (family_of m) class → b ≡ false
    → Some r ≡ headed_by m class → ps ≡ own r → before ≡ [] → RunsTo (most - 1) ps xs before all ys → IsBranch r all ys q t zs → OnlyOperand most m xs q t zs
branch_only most m xs ys zs class b r ps before all q t e l f n o z to is =
    only_branch most m xs ys zs r all q t is
    (row_only most m xs ys r all (ap (headed_by m) (sym e) ∙ sym n) (ap (has_leaf (family_of m)) (sym e) ∙ sym l ∙ f)
    (own_run (most - 1) r ps xs ys before all o z to).1)

pub branch_grown : (most : ℕ) (r : Rule) (t : Tree) (xs ys zs : List Seen) (ps : Row) (before all : List Tree) (q : Root)
    (u : Tree) → ps ≡ own r → before ≡ t ∷ [] → RunsTo (most - 1) ps xs before all ys
    → IsBranch r all ys q u zs → GrowsBy most r t xs q u zs
branch_grown most r t xs ys zs ps before all q u o e to b =
    subst (λ (p : Root). GrowsBy most r t xs p u zs) (sym b.root) (subst (λ (v : Tree). GrowsBy most r t xs (Some r) v zs) (sym b.tree)
    (subst (λ (vs : List Seen). GrowsBy most r t xs (Some r) (build r all) vs) (sym b.rest)
    (grown_by most r t xs ys before all e b.allowed (subst (λ (qs : Row). RunsTo (most - 1) qs xs before all ys) o to))))

pub by_refused : (most : ℕ) (r : Rule) (t : Tree) (xs : List Seen) (ps : Row) → ps ≡ own r → NoRun (most - 1) ps xs → NoGrowth most r t xs
by_refused most r t xs ps o none = not_grown most r t xs (subst (λ (qs : Row). NoRun (most - 1) qs xs) o none)

pub fault_weaker : (e : ParseFault) (P Q : Type 0) → (P → Q) → OnFault e P → OnFault e Q
fault_weaker NoTree P Q f h = f h
fault_weaker TooDeep P Q f h = h
fault_weaker NoMemory P Q f h = tt

-- ---- levels

pub deep_word : (before now : List Tree) (t : Token) (n : ℕ) → now ≡ before ++ tree.Leaf t ∷ [] → n ≡ levels_of_all before → n ≡ levels_of_all now
deep_word before now t n e d = omega (arith, ap levels_of_all e, levels-last before (tree.Leaf t), levels-Leaf t)

pub deep_child : (before now : List Tree) (t : Tree) (n k : ℕ) → now ≡ before ++ t ∷ [] → n ≡ levels_of_all before → k ≡ levels t → max n k ≡ levels_of_all now
deep_child before now t n k e d f = omega (arith, ap levels_of_all e, levels-last before t)

grown_same : (most : ℕ) (r : Rule) (t : Tree) (xs ys : List Seen) (ps : Row) (before all : List Tree) → ps ≡ own r
    → before ≡ t ∷ [] → RunsTo (most - 1) ps xs before all ys
    → (ds : List Tree) (zs : List Seen) → Runs (own r) xs ds zs → IsTrue (ends (own r) (front zs)) → levels (build r (t ∷ ds)) ≤ most → all ≡ t ∷ ds
grown_same most r t xs ys ps before all o b to ds zs runs end le =
    let same = to.3 ds zs (subst (λ (qs : Row). Runs qs xs ds zs) (sym o) runs)
    (subst (λ (qs : Row). IsTrue (ends qs (front zs))) (sym o) end) (less_more r t ds most le) in
    to.1 ∙ ap (λ (ks : List Tree). ks ++ to.0) b ∙ ap (λ (ks : List Tree). t ∷ ks) same.0

pub no_branch_grown : (most : ℕ) (r : Rule) (t : Tree) (xs ys : List Seen) (ps : Row) (before all : List Tree) → ps ≡ own r
    → before ≡ t ∷ [] → RunsTo (most - 1) ps xs before all ys
    → NoBranch most r all → NoGrowth most r t xs
no_branch_grown most r t xs ys ps before all o b to none ds zs runs end ok le =
    let same : t ∷ ds ≡ all = sym (grown_same most r t xs ys ps before all o b to ds zs runs end le) in
    none (subst (λ (ks : List Tree). IsTrue (allows r ks)) same ok) (subst (λ (ks : List Tree). levels (build r ks) ≤ most) same le)

no_row : (most : ℕ) (m : Kind) (xs ys : List Seen) (r : Rule) (cs : List Tree) → headed_by m (front xs) ≡ Some r
    → has_leaf (family_of m) (front xs) ≡ false → OnlyRun (most - 1) (own r) xs cs ys
    → NoBranch most r cs → {p : Root} {w : Tree} {zs : List Seen} → Operand m p xs w zs → IsTrue (root_ends p (front zs)) → levels w ≤ most → ⊥
no_row most m xs ys r cs e f one none (token h) end le = cc
no_row most m xs ys r cs e f one none (headed {ys = zs} {cs = ds} q v l b al runs) end le =
    let h = kind_inv m (head (family_of m) (front xs)) r e in
    let at_q : head (family_of m) (front xs) ≡ Some q = head_here m q v l b runs end in
    let same : q ≡ r = cc in
    let runs' : Runs (own r) xs ds zs = subst (λ (s : Rule). Runs (own s) xs ds zs) same runs in
    let end' : IsTrue (ends (own r) (front zs)) = subst (λ (s : Rule). IsTrue (ends (own s) (front zs))) same end in
    let found = one ds zs runs' end' (less q ds most le) in
    none (subst (λ (ks : List Tree). IsTrue (allows r ks)) (sym found.0) (subst (λ (s : Rule). IsTrue (allows s ds)) same al))
    (subst (λ (ks : List Tree). levels (build r ks) ≤ most) (sym found.0) (subst (λ (s : Rule). levels (build s ds) ≤ most) same le))

pub no_branch_found : (most : ℕ) (m : Kind) (xs ys : List Seen) (class : Class) (b : Bool) (r : Rule) (ps : Row)
    (before all : List Tree) → class ≡ front xs → b ≡ has_leaf (family_of m) class → b ≡ false
    → Some r ≡ headed_by m class → ps ≡ own r → before ≡ [] → RunsTo (most - 1) ps xs before all ys → NoBranch most r all → NoOperand most m xs
no_branch_found most m xs ys class b r ps before all e l f n o z to none p w zs op end le =
    no_row most m xs ys r all (ap (headed_by m) (sym e) ∙ sym n) (ap (has_leaf (family_of m)) (sym e) ∙ sym l ∙ f)
    (own_run (most - 1) r ps xs ys before all o z to).1 none op end le

-- ---- a branch by its rule

pub too_deep : (most n : ℕ) (r : Rule) (cs : List Tree) → n ≡ levels_of_all cs → most ≤ n → NoBranch most r cs
too_deep most n r cs d over ok le = omega (arith, levels-build r cs)

pub not_allowed : (most : ℕ) (r : Rule) (cs : List Tree) → allows r cs ≡ false → NoBranch most r cs
not_allowed most r cs bad ok le = cc

pub ok_both : {A E : Type 0} {P Q R : A → Type 0} (x : Result A E) → ((a : A) → P a → Q a → R a) → IfOk x P → IfOk x Q → IfOk x R
ok_both (Ok a) f p q = f a p q
ok_both (Err e) f p q = tt

pub ok_each : {A E : Type 0} {P Q : A → Type 0} (x : Result A E) → ((a : A) → P a → Q a) → IfOk x P → IfOk x Q
ok_each (Ok a) f p = f a p
ok_each (Err e) f p = tt

pub err_none : {A : Type 0} {P Q : Type 0} (x : Result A ParseFault) → (P → Q) → IfErr x (λ e. (e ≡ NoTree) × P) → IfErr x (λ e. OnFault e Q)
err_none (Ok a) f h = tt
err_none {Q = Q} (Err e) f h = subst (λ (g : ParseFault). OnFault g Q) (sym h.0) (f h.1)

pub branch_levels : (label : Label) (all : List Tree) (n most : ℕ) → n ≡ levels_of_all all → n < most → HasLevels (tree.Branch label all) (n + 1) most
branch_levels label all n most d under = (omega (arith, levels-Branch label all), omega arith)
