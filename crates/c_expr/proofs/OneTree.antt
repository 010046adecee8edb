-- Over tokens as they are seen, two trees of one kind that begin at one token, and that nothing makes longer, are equal.
use Rattle.std.proofs.Common.{◌≡◌, ℕ, zero, suc, ◌+◌, ◌-◌, ◌≤◌, List, [], ◌∷◌, ◌++◌, refl, subst, ap, sym, ◌∙◌, append-nil, arith}
use Rattle.std.specs.Prelude.{Bool, true, false, not, IsTrue, Option, Some, None, if◌then◌else◌}
use Rattle.c_terms.specs.declared.tree.Tree.{Tree}
use Rattle.c_terms.specs.declared.tree.Tree.TheVariants as tree
use Rattle.c_terms.specs.Trees.{levels, levels_of_all}
use Rattle.c_rows.specs.declared.kind.Kind.{Kind}
use Rattle.c_rows.specs.declared.kind.Family.{Family}
use Rattle.c_rows.specs.declared.rule.Rule.{Rule}
use Rattle.c_rows.specs.declared.symbol.Symbol.TheVariants as symbol
use Rattle.c_rows.specs.Kinds.{family_of, within, has_leaf}
use Rattle.c_rows.specs.Rows.{Row}
use Rattle.c_rows.specs.Branches.{kind_of, build}
use Rattle.c_rows.specs.Choice.{after, quiet, stops, ends, tail, left, own, row_fine}
use Rattle.c_rows.specs.Seen.{Seen, front, front_typed}
use Rattle.c_rows.specs.Spells.{member_kind, Spells, Runs, done, word, child, argument, fork}
use Rattle.c_rows.specs.Growth.{Root, root_ends, Operand, token, headed, Grows, here, more}
use Rattle.c_expr.specs.Steps.{place, Leads, rule_of_kind, takes, taking, next_rule, goes_on, OnlyTree, OnlyOperand, OnlyRun, OnlyGrowth}
use Rattle.c_rows.proofs.Checks.{and_right, own_fine, way_fine, way_ends, head_no_leaf, member_stops, tail_is, tail_word}
use Rattle.c_rows.proofs.FirstLemmas.{within_family, way_here}
use Rattle.c_rows.proofs.LengthLemmas.{fine_ok, fine_rest}
use Rattle.c_rows.proofs.GrowthLemmas.{unwind}
use Rattle.c_expr.proofs.Built.{levels-build}
use Rattle.c_expr.proofs.OfKind.{kind_held}
use Rattle.c_expr.proofs.StepLemmas.{stay, levels-first, levels-rest, leads_refl, leads_trans, leads_word, leads_child}
use Rattle.c_expr.proofs.StepLemmas.{leads_member, leads_fork, stops_before, ends_rest, member_before, member_rest, run_only}
use Rattle.c_expr.proofs.Growing.{Growing, growing_start, growing_more, growing_end, grows_ends, grows_levels, operand_within, next_of, word_opens}
use Rattle.c_expr.proofs.OperandLemmas.{leaf_never, head_here, head_first, row_only, less_more}

-- ---- rows

-- every tree of at most n levels is the only one at its place
abbrev AllOne : ℕ → Type 0
AllOne n = (k : Kind) (xs : List Seen) (t : Tree) (ys : List Seen) → Spells k xs t ys → IsTrue (stops k (front ys)) → levels t ≤ n → OnlyTree n k xs t ys

module _ (n : ℕ) (one : AllOne n) where
  row_leads : {ps : Row} {xs ys : List Seen} {cs : List Tree} (before all : List Tree) → Runs ps xs cs ys → IsTrue (row_fine ps)
      → IsTrue (ends ps (front ys)) → levels_of_all cs ≤ n → all ≡ before ++ cs
      → Leads n (place ps xs before) (place [] ys all)
  row_leads before all (done {xs = xs}) f e l eq =
      subst (λ (ks : List Tree). Leads n (place [] xs before) (place [] xs ks)) (sym (eq ∙ append-nil before)) (leads_refl n (place [] xs before))
  row_leads before all (word {w = w} {ps = ps} {s = s} {xs = xs} {ys = ys} {cs = cs} h rest) f e l eq =
      leads_trans n (place (symbol.Word w ∷ ps) (s ∷ xs) before) (place ps xs (before ++ tree.Leaf s.token ∷ []))
      (place [] ys all) (leads_word n w ps s xs before h)
      (row_leads (before ++ tree.Leaf s.token ∷ []) all rest (fine_rest (symbol.Word w) ps f) e
      (levels-rest (tree.Leaf s.token) cs n l) (eq ∙ sym (stay before (tree.Leaf s.token) cs)))
  row_leads before all (child {k = k} {ps = ps} {xs = xs} {ys = mid} {zs = ys} {t = t} {cs = cs} d rest) f e l eq =
      let ok = fine_ok (symbol.Child k ∷ ps) f in
      leads_trans n (place (symbol.Child k ∷ ps) xs before) (place ps mid (before ++ t ∷ [])) (place [] ys all)
      (leads_child n k ps t xs mid before ok d (one k xs t mid d (stops_before n k ps rest ok e) (levels-first t cs n l)))
      (row_leads (before ++ t ∷ []) all rest (fine_rest (symbol.Child k) ps f) (ends_rest n k ps (front ys) e)
      (levels-rest t cs n l) (eq ∙ sym (stay before t cs)))
  row_leads before all (argument {ps = ps} {xs = xs} {ys = mid} {zs = ys} {t = t} {cs = cs} d rest) f e l eq =
      let ok = fine_ok (symbol.Argument ∷ ps) f in
      leads_trans n (place (symbol.Argument ∷ ps) xs before) (place ps mid (before ++ t ∷ [])) (place [] ys all)
      (leads_member n ps t xs mid before ok d (one (member_kind (front_typed xs)) xs t mid d
      (member_stops (front_typed xs) (front mid) (member_before n ps rest ok e)) (levels-first t cs n l)))
      (row_leads (before ++ t ∷ []) all rest (fine_rest symbol.Argument ps f) (member_rest n ps (front ys) e)
      (levels-rest t cs n l) (eq ∙ sym (stay before t cs)))
  row_leads before all (fork {f = g} {ps = ps} {xs = xs} {ys = ys} i w v way) f e l eq =
      leads_trans n (place (symbol.Fork g ∷ []) xs before) (place ps xs before) (place [] ys all)
      (leads_fork n g [] ps xs before (fine_ok (symbol.Fork g ∷ []) f) (way_here g i ps w v way e))
      (row_leads before all way (way_fine g i ps w) (way_ends g i ps (front ys) w e) l eq)

  row_one : (ps : Row) (xs : List Seen) (cs : List Tree) (ys : List Seen) → Runs ps xs cs ys → IsTrue (row_fine ps)
      → IsTrue (ends ps (front ys)) → levels_of_all cs ≤ n → OnlyRun n ps xs cs ys
  row_one ps xs cs ys runs f e l = run_only n ps xs ys [] cs cs (row_leads [] cs runs f e l refl) refl

-- ---- trees

-- the rows of a branch of at most n levels
abbrev RowsOne : ℕ → Type 0
RowsOne n = (ps : Row) (xs : List Seen) (cs : List Tree) (ys : List Seen) → Runs ps xs cs ys → IsTrue (row_fine ps)
    → IsTrue (ends ps (front ys)) → levels_of_all cs + 1 ≤ n → OnlyRun (n - 1) ps xs cs ys

no_rows : RowsOne 0
no_rows ps xs cs ys runs f e l = let never : ⊥ = omega arith in absurd never

rows_from : (n : ℕ) → AllOne n → RowsOne (suc n)
rows_from n one ps xs cs ys runs f e l =
    let same : n ≡ suc n - 1 = omega arith in
    subst (λ (m : ℕ). OnlyRun m ps xs cs ys) same (row_one n one ps xs cs ys runs f e (omega arith))

leaf_once : {m : Kind} {s : Seen} {ys zs : List Seen} {p : Root} {w : Tree} → Operand m p (s ∷ ys) w zs
    → IsTrue (root_ends p (front zs)) → IsTrue (has_leaf (family_of m) s.class)
    → (None ≡ p) × (tree.Leaf s.token ≡ w) × (ys ≡ zs)
leaf_once (token k) end h = (refl, refl, refl)
leaf_once {m} (headed r v e b al runs) end h = absurd (leaf_never m r v e b runs end h)

operand_once : (n : ℕ) (m : Kind) → RowsOne n → {q : Root} {xs ys : List Seen} {t : Tree} → Operand m q xs t ys
    → IsTrue (root_ends q (front ys)) → levels t ≤ n → OnlyOperand n m xs q t ys
operand_once n m rows (token h) end l = λ p w zs o e le. leaf_once o e h
operand_once n m rows (headed {xs = xs} {ys = ys} {cs = cs} r v e b al runs) end l =
    row_only n m xs ys r cs (ap (rule_of_kind m) (head_here m r v e b runs end) ∙ kind_held m r v)
    (subst (λ (f : Family). has_leaf f (front xs) ≡ false) (within_family (kind_of r) m v) (head_no_leaf r (front xs) e b (head_first r e b runs end)))
    (rows (own r) xs cs ys runs (own_fine r) end (omega (arith, levels-build r cs)))

no_bool : {A : Type 0} → IsTrue false → A
no_bool h = let never : ⊥ = cc in absurd never

-- if nothing makes a tree longer, no rule continues it
quiet_none : (m : Kind) (q : Root) (o : Option Rule) → IsTrue (quiet m o) → next_rule m q o ≡ None
quiet_none m q None h = refl
quiet_none m q (Some r) h = pick (within (kind_of r) m) refl h
  where
    pick : (b : Bool) → within (kind_of r) m ≡ b → IsTrue (not b) → next_rule m q (Some r) ≡ None
    pick true e h = no_bool h
    pick false e h = ap (λ (b : Bool). taking (family_of m) q (if b then Some r else None)) e

grown_once : (n : ℕ) (m : Kind) → RowsOne n → {p q : Root} {start xs ys : List Seen} {a t : Tree} → Growing n m start p a xs
    → Grows m p a xs q t ys → IsTrue (stops m (front ys)) → levels t ≤ n
    → OnlyTree n m start t ys
grown_once n m rows {p} {q} {start} {xs} {ys} {a} g here s l =
    growing_end n m start p a xs g (quiet_none m p (tail (family_of m) (front xs)) (and_right (after m (front xs)) (quiet m (tail (family_of m) (front xs))) s))
grown_once n m rows {p} {q} {start} {xs} {ys} {a} {t} g (more {ys = mid} {cs = cs} r k v e w al runs rest) s l =
    let here_tail : tail (family_of m) (front xs) ≡ Some r =
    subst (λ (f : Family). tail f (front xs) ≡ Some r) (within_family (kind_of r) m v) (tail_is r k (front xs) e (word_opens runs (tail_word r k e))) in
    let takes_it : IsTrue (takes (family_of m) (left r) p) = subst (λ (o : Option Kind). IsTrue (takes (family_of m) o p)) (sym e) w in
    let goes : goes_on m p (front xs) ≡ Some r = ap (next_rule m p) here_tail ∙ next_of m p r v takes_it in
    let low : levels (build r (a ∷ cs)) ≤ n = omega (arith, grows_levels rest) in
    let end : IsTrue (ends (own r) (front mid)) = grows_ends rest v s in
    let run : OnlyRun (n - 1) (own r) xs cs mid = rows (own r) xs cs mid runs (own_fine r) end (omega (arith, levels-build r (a ∷ cs))) in
    let once : OnlyGrowth n r a xs cs mid = λ ds zs runs' end' ok le. run ds zs runs' end' (less_more r a ds n le) in
    grown_once n m rows (growing_more n m start p a xs r cs mid g goes runs once al) rest s l

tree_once : (n : ℕ) → RowsOne n → AllOne n
tree_once n rows k xs t ys d s l =
    let w = unwind d in
    let e : IsTrue (root_ends w.first_root (front w.middle)) = grows_ends w.grown (operand_within w.operand) s in
    let low : levels w.first ≤ n = omega (arith, grows_levels w.grown) in
    grown_once n k rows (growing_start n k xs w.first_root w.first w.middle w.operand (operand_once n k rows w.operand e low)) w.grown s l

pub one_tree : (n : ℕ) → AllOne n
one_tree zero = tree_once zero no_rows
one_tree (suc n) = tree_once (suc n) (rows_from n (one_tree n))
