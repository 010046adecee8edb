-- One step of the parser, over places of a row.
use Rattle.std.proofs.Common.{◌≡◌, ℕ, ◌≤◌, ◌<◌, List, [], ◌∷◌, ◌++◌, length, refl, subst, ap, sym, ◌∙◌, append_assoc, append-nil, arith}
use Rattle.std.specs.Prelude.{Bool, false, IsTrue, Some, None}
use Rattle.c_terms.specs.declared.tree.Tree.{Tree}
use Rattle.c_terms.specs.declared.tree.Tree.TheVariants as tree
use Rattle.c_terms.specs.Trees.{levels, levels_of_all}
use Rattle.c_rows.specs.declared.kind.Kind.{Kind}
use Rattle.c_rows.specs.declared.word.Word.{Word}
use Rattle.c_rows.specs.declared.class.Class.{Class}
use Rattle.c_rows.specs.declared.symbol.Fork.{Fork}
use Rattle.c_rows.specs.declared.symbol.Symbol.TheVariants as symbol
use Rattle.c_rows.specs.Words.{fits}
use Rattle.c_rows.specs.Kinds.{family_of}
use Rattle.c_rows.specs.Rows.{Row}
use Rattle.c_rows.specs.Choice.{after, quiet, tail, stops, stops_fork, ends, opens, choose, implies, every, row_ok}
use Rattle.c_rows.specs.Seen.{Seen, front, front_typed}
use Rattle.c_rows.specs.Spells.{Spells, Runs, done, word, child, argument, fork, member_kind}
use Rattle.c_rows.specs.Words.{ends_member}
use Rattle.c_expr.specs.Steps.{Place, place, Leads, Refuses, OnlyTree, NoTreeAt, RunsTo, OnlyRun}
use Rattle.c_rows.proofs.Checks.{and_left, and_right, modus, every_at, closes, joins, joins_at, member_at, member_stops}
use Rattle.c_rows.proofs.Checks.{way_ends, chosen_way, chosen_may, both, implies_both, every_from}
use Rattle.c_rows.proofs.FirstLemmas.{runs_first, way_here}

pub stay : (xs : List Tree) (t : Tree) (cs : List Tree) → (xs ++ t ∷ []) ++ cs ≡ xs ++ t ∷ cs
stay xs t cs = append_assoc xs (t ∷ []) cs

abbrev meets : Kind → Row → Class → Bool
meets k ps c = implies (opens ps c) (stops k c)

stops_after : (k : Kind) (c : Class) → IsTrue (stops k c) → IsTrue (after k c)
stops_after k c s = and_left (after k c) (quiet k (tail (family_of k) c)) s

join_from : (k : Kind) (ps : Row) (c : Class) → IsTrue (meets k ps c) → IsTrue (joins_at k ps c)
join_from k ps c m = implies_both (opens ps c) (stops k c) (after k c) m (stops_after k c)

pub row_joins : (ps : Row) → IsTrue (row_ok ps) → IsTrue (joins ps)
row_joins [] ok = refl
row_joins (symbol.Word w ∷ ps) ok = row_joins ps ok
row_joins (symbol.Child k ∷ []) ok = refl
row_joins (symbol.Child k ∷ p ∷ ps) ok =
    both (every (joins_at k (p ∷ ps))) (joins (p ∷ ps))
    (every_from (meets k (p ∷ ps)) (joins_at k (p ∷ ps)) (join_from k (p ∷ ps)) (and_left (every (meets k (p ∷ ps))) (row_ok (p ∷ ps)) ok))
    (row_joins (p ∷ ps) (and_right (every (meets k (p ∷ ps))) (row_ok (p ∷ ps)) ok))
row_joins (symbol.Argument ∷ []) ok = refl
row_joins (symbol.Argument ∷ p ∷ ps) ok =
    both (every (member_at (p ∷ ps))) (joins (p ∷ ps)) (and_left (every (member_at (p ∷ ps))) (row_ok (p ∷ ps)) ok)
    (row_joins (p ∷ ps) (and_right (every (member_at (p ∷ ps))) (row_ok (p ∷ ps)) ok))
row_joins (symbol.Fork f ∷ []) ok = refl
row_joins (symbol.Fork f ∷ p ∷ ps) ok = ok

pub ends_closes : (ps : Row) (c : Class) → IsTrue (ends ps c) → IsTrue (closes ps c)
ends_closes [] c e = refl
ends_closes (symbol.Word w ∷ ps) c e = ends_closes ps c e
ends_closes (symbol.Child k ∷ []) c e = stops_after k c e
ends_closes (symbol.Child k ∷ p ∷ ps) c e = ends_closes (p ∷ ps) c e
ends_closes (symbol.Argument ∷ []) c e = e
ends_closes (symbol.Argument ∷ p ∷ ps) c e = ends_closes (p ∷ ps) c e
ends_closes (symbol.Fork f ∷ ps) c e = e

pub levels-first : (t : Tree) (cs : List Tree) (n : ℕ) → levels_of_all (t ∷ cs) ≤ n → levels t ≤ n
levels-first t cs n h = omega arith

pub levels-rest : (t : Tree) (cs : List Tree) (n : ℕ) → levels_of_all (t ∷ cs) ≤ n → levels_of_all cs ≤ n
levels-rest t cs n h = omega arith

module _ (most : ℕ) where
  pub leads_refl : (p : Place) → Leads most p p
  leads_refl p = record { sound = λ cs ys r. (cs, refl, r); only = λ ds ys r e l. (ds, refl, r, e, l) }

  pub leads_trans : (p q s : Place) → Leads most p q → Leads most q s → Leads most p s
  leads_trans p q s a b = record {
    sound = λ cs ys r. let d = b.sound cs ys r in let d' = a.sound d.0 ys d.2 in (d'.0, d.1 ∙ d'.1, d'.2);
    only = λ ds ys r e l. let d = a.only ds ys r e l in let d' = b.only d.0 ys d.2 d.3 d.4 in (d'.0, d'.1 ∙ d.1, d'.2, d'.3, d'.4);
  }

  pub refuses_from : (p q : Place) → Leads most p q → Refuses most q → Refuses most p
  refuses_from p q a never ds ys r e l = let d = a.only ds ys r e l in never d.0 ys d.2 d.3 d.4

  -- ---- a word

  word_only : (w : Word) (ps : Row) (s : Seen) (xs : List Seen) (before : List Tree) {ds : List Tree} {ys : List Seen}
      → Runs (symbol.Word w ∷ ps) (s ∷ xs) ds ys
      → IsTrue (ends ps (front ys)) → levels_of_all ds ≤ most
      → (cs : List Tree) × ((before ++ tree.Leaf s.token ∷ []) ++ cs ≡ before ++ ds) × Runs ps xs cs ys
      × IsTrue (ends ps (front ys)) × (levels_of_all cs ≤ most)
  word_only w ps s xs before (word {cs = cs} h rest) e l = (cs, stay before (tree.Leaf s.token) cs, rest, e, levels-rest (tree.Leaf s.token) cs most l)

  pub leads_word : (w : Word) (ps : Row) (s : Seen) (xs : List Seen) (before : List Tree) → IsTrue (fits w s.class)
      → Leads most (place (symbol.Word w ∷ ps) (s ∷ xs) before) (place ps xs (before ++ tree.Leaf s.token ∷ []))
  leads_word w ps s xs before h = record {
    sound = λ cs ys r. (tree.Leaf s.token ∷ cs, stay before (tree.Leaf s.token) cs, word h r);
    only = λ ds ys r e l. word_only w ps s xs before r e l;
  }

  word_never : (w : Word) (ps : Row) {xs ys : List Seen} {ds : List Tree} → Runs (symbol.Word w ∷ ps) xs ds ys → fits w (front xs) ≡ false → ⊥
  word_never w ps (word h rest) f = cc

  pub refuses_word : (w : Word) (ps : Row) (xs : List Seen) (before : List Tree) → fits w (front xs) ≡ false
      → Refuses most (place (symbol.Word w ∷ ps) xs before)
  refuses_word w ps xs before f ds ys r e l = word_never w ps r f

  word_some : (w : Word) (ps : Row) {ys : List Seen} {ds : List Tree} → Runs (symbol.Word w ∷ ps) [] ds ys → ⊥
  word_some w ps r = elim r [ ]

  pub refuses_end : (w : Word) (ps : Row) (before : List Tree) → Refuses most (place (symbol.Word w ∷ ps) [] before)
  refuses_end w ps before ds ys r e l = word_some w ps r

  -- ---- a tree

  pub stops_before : (k : Kind) (ps : Row) {xs ys : List Seen} {cs : List Tree} → Runs ps xs cs ys
      → IsTrue (row_ok (symbol.Child k ∷ ps)) → IsTrue (ends (symbol.Child k ∷ ps) (front ys))
      → IsTrue (stops k (front xs))
  stops_before k [] done ok e = e
  stops_before k (p ∷ ps) {xs} {ys} r ok e =
      let o : IsTrue (opens (p ∷ ps) (front xs)) =
      runs_first r (row_joins (p ∷ ps) (and_right (every (meets k (p ∷ ps))) (row_ok (p ∷ ps)) ok)) (ends_closes (p ∷ ps) (front ys) e) in
      modus _ _ (every_at (meets k (p ∷ ps)) (and_left (every (meets k (p ∷ ps))) (row_ok (p ∷ ps)) ok) (front xs)) o

  pub ends_rest : (k : Kind) (ps : Row) (c : Class) → IsTrue (ends (symbol.Child k ∷ ps) c) → IsTrue (ends ps c)
  ends_rest k [] c e = refl
  ends_rest k (p ∷ ps) c e = e

  child_only : (k : Kind) (ps : Row) (t : Tree) (xs zs : List Seen) (before : List Tree) {ds : List Tree} {ys : List Seen}
      → IsTrue (row_ok (symbol.Child k ∷ ps)) → OnlyTree most k xs t zs
      → Runs (symbol.Child k ∷ ps) xs ds ys → IsTrue (ends (symbol.Child k ∷ ps) (front ys)) → levels_of_all ds ≤ most
      → (cs : List Tree) × ((before ++ t ∷ []) ++ cs ≡ before ++ ds) × Runs ps zs cs ys × IsTrue (ends ps (front ys)) × (levels_of_all cs ≤ most)
  child_only k ps t xs zs before {ys = ys} ok one (child {ys = mid} {t = u} {cs = cs} d rest) e l =
      let same : (t ≡ u) × (zs ≡ mid) = one u mid d (stops_before k ps rest ok e) (levels-first u cs most l) in (
        cs,
        stay before t cs ∙ ap (λ (v : Tree). before ++ v ∷ cs) same.0,
        subst (λ (m : List Seen). Runs ps m cs ys) (sym same.1) rest,
        ends_rest k ps (front ys) e,
        levels-rest u cs most l,
      )

  pub leads_child : (k : Kind) (ps : Row) (t : Tree) (xs zs : List Seen) (before : List Tree)
      → IsTrue (row_ok (symbol.Child k ∷ ps)) → Spells k xs t zs → OnlyTree most k xs t zs
      → Leads most (place (symbol.Child k ∷ ps) xs before) (place ps zs (before ++ t ∷ []))
  leads_child k ps t xs zs before ok d one = record {
    sound = λ cs ys r. (t ∷ cs, stay before t cs, child d r);
    only = λ ds ys r e l. child_only k ps t xs zs before ok one r e l;
  }

  child_never : (k : Kind) (ps : Row) {xs ys : List Seen} {ds : List Tree} → IsTrue (row_ok (symbol.Child k ∷ ps)) → NoTreeAt most k xs
      → Runs (symbol.Child k ∷ ps) xs ds ys → IsTrue (ends (symbol.Child k ∷ ps) (front ys)) → levels_of_all ds ≤ most → ⊥
  child_never k ps ok never (child {ys = mid} {t = u} {cs = cs} d rest) e l = never u mid d (stops_before k ps rest ok e) (levels-first u cs most l)

  pub refuses_child : (k : Kind) (ps : Row) (xs : List Seen) (before : List Tree) → IsTrue (row_ok (symbol.Child k ∷ ps))
      → NoTreeAt most k xs → Refuses most (place (symbol.Child k ∷ ps) xs before)
  refuses_child k ps xs before ok never ds ys r e l = child_never k ps ok never r e l

  -- ---- a member of a call's list

  pub member_before : (ps : Row) {xs ys : List Seen} {cs : List Tree} → Runs ps xs cs ys
      → IsTrue (row_ok (symbol.Argument ∷ ps)) → IsTrue (ends (symbol.Argument ∷ ps) (front ys))
      → IsTrue (ends_member (front xs))
  member_before [] done ok e = e
  member_before (p ∷ ps) {xs} {ys} r ok e =
      let o : IsTrue (opens (p ∷ ps) (front xs)) =
      runs_first r (row_joins (p ∷ ps) (and_right (every (member_at (p ∷ ps))) (row_ok (p ∷ ps)) ok)) (ends_closes (p ∷ ps) (front ys) e) in
      modus _ _ (every_at (member_at (p ∷ ps)) (and_left (every (member_at (p ∷ ps))) (row_ok (p ∷ ps)) ok) (front xs)) o

  pub member_rest : (ps : Row) (c : Class) → IsTrue (ends (symbol.Argument ∷ ps) c) → IsTrue (ends ps c)
  member_rest [] c e = refl
  member_rest (p ∷ ps) c e = e

  member_only : (ps : Row) (t : Tree) (xs zs : List Seen) (before : List Tree) {ds : List Tree} {ys : List Seen}
      → IsTrue (row_ok (symbol.Argument ∷ ps)) → OnlyTree most (member_kind (front_typed xs)) xs t zs
      → Runs (symbol.Argument ∷ ps) xs ds ys → IsTrue (ends (symbol.Argument ∷ ps) (front ys)) → levels_of_all ds ≤ most
      → (cs : List Tree) × ((before ++ t ∷ []) ++ cs ≡ before ++ ds) × Runs ps zs cs ys × IsTrue (ends ps (front ys)) × (levels_of_all cs ≤ most)
  member_only ps t xs zs before {ys = ys} ok one (argument {ys = mid} {t = u} {cs = cs} d rest) e l =
      let same : (t ≡ u) × (zs ≡ mid) = one u mid d (member_stops (front_typed xs) (front mid) (member_before ps rest ok e)) (levels-first u cs most l) in (
        cs,
        stay before t cs ∙ ap (λ (v : Tree). before ++ v ∷ cs) same.0,
        subst (λ (m : List Seen). Runs ps m cs ys) (sym same.1) rest,
        member_rest ps (front ys) e,
        levels-rest u cs most l,
      )

  pub leads_member : (ps : Row) (t : Tree) (xs zs : List Seen) (before : List Tree) → IsTrue (row_ok (symbol.Argument ∷ ps))
      → Spells (member_kind (front_typed xs)) xs t zs → OnlyTree most (member_kind (front_typed xs)) xs t zs
      → Leads most (place (symbol.Argument ∷ ps) xs before) (place ps zs (before ++ t ∷ []))
  leads_member ps t xs zs before ok d one = record {
    sound = λ cs ys r. (t ∷ cs, stay before t cs, argument d r);
    only = λ ds ys r e l. member_only ps t xs zs before ok one r e l;
  }

  member_never : (ps : Row) {xs ys : List Seen} {ds : List Tree} → IsTrue (row_ok (symbol.Argument ∷ ps)) → NoTreeAt most (member_kind (front_typed xs)) xs
      → Runs (symbol.Argument ∷ ps) xs ds ys → IsTrue (ends (symbol.Argument ∷ ps) (front ys)) → levels_of_all ds ≤ most → ⊥
  member_never ps {xs} ok never (argument {ys = mid} {t = u} {cs = cs} d rest) e l =
      never u mid d (member_stops (front_typed xs) (front mid) (member_before ps rest ok e)) (levels-first u cs most l)

  pub refuses_member : (ps : Row) (xs : List Seen) (before : List Tree) → IsTrue (row_ok (symbol.Argument ∷ ps))
      → NoTreeAt most (member_kind (front_typed xs)) xs → Refuses most (place (symbol.Argument ∷ ps) xs before)
  refuses_member ps xs before ok never ds ys r e l = member_never ps ok never r e l

  -- ---- a fork

  way_chosen : (f : Fork) {xs ys : List Seen} {ds : List Tree} → Runs (symbol.Fork f ∷ []) xs ds ys → IsTrue (stops_fork f (front ys))
      → (ps : Row) × (choose f (front xs) ≡ Some ps) × Runs ps xs ds ys × IsTrue (ends ps (front ys))
  way_chosen f (fork {ps = ps} {ys = ys} i w v way) s = (ps, way_here f i ps w v way s, way, way_ends f i ps (front ys) w s)

  fork_only : (f : Fork) (qs : Row) (xs : List Seen) (before : List Tree) {ds : List Tree} {ys : List Seen}
      → choose f (front xs) ≡ Some qs → Runs (symbol.Fork f ∷ []) xs ds ys
      → IsTrue (stops_fork f (front ys)) → levels_of_all ds ≤ most
      → (cs : List Tree) × (before ++ cs ≡ before ++ ds) × Runs qs xs cs ys × IsTrue (ends qs (front ys)) × (levels_of_all cs ≤ most)
  fork_only f qs xs before {ds} {ys} chosen r s l =
      let w = way_chosen f r s in
      let same : w.0 ≡ qs = cc in
      (ds, refl, subst (λ (ps : Row). Runs ps xs ds ys) same w.2, subst (λ (ps : Row). IsTrue (ends ps (front ys))) same w.3, l)

  pub leads_fork : (f : Fork) (ps qs : Row) (xs : List Seen) (before : List Tree) → IsTrue (row_ok (symbol.Fork f ∷ ps)) → choose f (front xs) ≡ Some qs
      → Leads most (place (symbol.Fork f ∷ ps) xs before) (place qs xs before)
  leads_fork f [] qs xs before ok chosen =
      let w = chosen_way f (front xs) qs chosen in
      record {
        sound = λ cs ys r. (cs, refl, fork w.0 w.1 (chosen_may f (front xs) qs chosen) r);
        only = λ ds ys r e l. fork_only f qs xs before chosen r e l;
      }
  leads_fork f (p ∷ ps) qs xs before ok chosen = let no : ⊥ = cc in absurd no

  pub refuses_fork : (f : Fork) (ps : Row) (xs : List Seen) (before : List Tree) → IsTrue (row_ok (symbol.Fork f ∷ ps))
      → choose f (front xs) ≡ None → Refuses most (place (symbol.Fork f ∷ ps) xs before)
  refuses_fork f [] xs before ok none ds ys r e l = let w = way_chosen f r e in cc
  refuses_fork f (p ∷ ps) xs before ok none ds ys r e l = let no : ⊥ = cc in absurd no

  -- ---- the end of a row

  append_same : (before cs ds : List Tree) → before ++ cs ≡ before ++ ds → cs ≡ ds
  append_same [] cs ds e = e
  append_same (x ∷ before) cs ds e = append_same before cs ds (let f : before ++ cs ≡ before ++ ds = cc in f)

  nothing_left : {xs ys : List Seen} {cs : List Tree} → Runs [] xs cs ys → (cs ≡ []) × (xs ≡ ys)
  nothing_left done = (refl, refl)

  pub run_only : (r : Row) (xs ys : List Seen) (before all cs : List Tree) → Leads most (place r xs before) (place [] ys all)
      → all ≡ before ++ cs → OnlyRun most r xs cs ys
  run_only r xs ys before all cs a e ds zs run end le =
      let d = a.only ds zs run end le in
      let n = nothing_left d.2 in
      let f : before ++ cs ≡ before ++ ds = sym e ∙ sym (append-nil all) ∙ ap (λ (ks : List Tree). all ++ ks) (sym n.0) ∙ d.1 in
      (append_same before cs ds f, n.1)

  pub run_ends : (r : Row) (xs ys : List Seen) (before all : List Tree) → Leads most (place r xs before) (place [] ys all) → RunsTo most r xs before all ys
  run_ends r xs ys before all a =
      let d = a.sound [] ys done in
      let e : all ≡ before ++ d.0 = sym (append-nil all) ∙ d.1 in
      (d.0, e, d.2, run_only r xs ys before all d.0 a e)

  pub run_done : (r r' : Row) (xs ys : List Seen) (before all : List Tree) → length r' < 1
      → Leads most (place r xs before) (place r' ys all) → RunsTo most r xs before all ys
  run_done r [] xs ys before all short a = run_ends r xs ys before all a
  run_done r (p ∷ ps) xs ys before all short a = absurd (omega arith)
