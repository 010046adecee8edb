-- The steps of the reader that builds no trees, as the code's answers cite them.
use Rattle.std.proofs.Common.{◌≡◌, ℕ, ◌+◌, ◌-◌, ◌*◌, ◌≤◌, ◌<◌, max, List, [], ◌∷◌, ◌++◌, length, take, drop, get_or, map, refl}
use Rattle.std.proofs.Common.{subst, ap, sym, ◌∙◌, arith, add-zero}
use Rattle.std.proofs.lemmas.List.{drop_more, get_or-drop, length-drop, map-append}
use Rattle.std.specs.Prelude.{Bool, false, IsTrue, IfErr, Some, None, Result, Ok, Err}
use Rattle.c_terms.specs.declared.tree.Tree.{Tree}
use Rattle.c_terms.specs.declared.tree.Tree.TheVariants as tree
use Rattle.c_terms.specs.Trees.{levels}
use Rattle.c_terms.proofs.TreeLemmas.{levels-Leaf, levels-last}
use Rattle.c_rows.specs.declared.class.Class.{Class}
use Rattle.c_rows.specs.declared.facts.Facts.{Facts}
use Rattle.c_rows.specs.declared.kind.Kind.{Kind}
use Rattle.c_rows.specs.declared.kind.Family.{Family}
use Rattle.c_rows.specs.declared.rule.Rule.{Rule}
use Rattle.c_rows.specs.declared.word.Word.{Word}
use Rattle.c_rows.specs.declared.symbol.Fork.{Fork}
use Rattle.c_rows.specs.declared.symbol.Symbol.{Symbol}
use Rattle.c_rows.specs.declared.symbol.Symbol.TheVariants as symbol
use Rattle.c_rows.specs.Words.{fits}
use Rattle.c_rows.specs.Kinds.{family_of, has_leaf}
use Rattle.c_rows.specs.Rows.{Row}
use Rattle.c_rows.specs.Branches.{build, allows}
use Rattle.c_rows.specs.Choice.{choose, own, row_fine, weight}
use Rattle.c_rows.specs.Facts.{facts_of, leaf_facts, branch_facts, allows_facts}
use Rattle.c_rows.specs.Seen.{Seen, front, front_typed}
use Rattle.c_rows.specs.Spells.{member_kind}
use Rattle.c_rows.specs.Growth.{Root, Operand, token}
use Rattle.c_rows.proofs.FactLemmas.{leaf_same, branch_same, allows_same}
use Rattle.c_rows.proofs.LengthLemmas.{weight-small}
use Rattle.c_expr.specs.declared.fault.ParseFault.{ParseFault}
use Rattle.c_expr.specs.declared.memo.Recognizer.{Recognizer}
use Rattle.c_expr.specs.declared.recognizer.Spot.{Spot}
use Rattle.c_expr.specs.declared.recognizer.Sketch.{Sketch}
use Rattle.c_expr.specs.Steps.{place, Leads, Refuses, OnFault, NoTreeAt, OnlyOperand, NoRun, RunsTo, IsBranch, NoBranch}
use Rattle.c_expr.specs.Steps.{NoGrowth, NoOperand, headed_by, goes_on}
use Rattle.c_expr.specs.Recognizers.{IsOf, AreOf, Recognized, Moves, Steps, RunsOn, Ends, NoEnd, Opened, GrowsOn, NotGrown}
use Rattle.c_expr.proofs.Built.{levels-build}
use Rattle.c_expr.proofs.StepLemmas.{leads_refl, leads_trans, leads_word, refuses_from, run_done}
use Rattle.c_expr.proofs.CallLemmas.{tail_slice, way_taken, way_refused, child_taken, child_refused, child_smaller}
use Rattle.c_expr.proofs.CallLemmas.{member_taken, member_refused, member_smaller}
use Rattle.c_expr.proofs.Growing.{Growing, growing_start, turn, shorter, stuck, found, finished}
use Rattle.c_expr.proofs.OperandLemmas.{leaf_only, at_refused, branch_found, branch_only, no_branch_found, branch_grown}
use Rattle.c_expr.proofs.OperandLemmas.{no_branch_grown, no_growth, by_refused, fault_weaker, too_deep}

pub err_each : {A E : Type 0} {P Q : E → Type 0} (x : Result A E) → ((e : E) → P e → Q e) → IfErr x P → IfErr x Q
err_each (Ok a) f h = tt
err_each (Err e) f h = f e h

-- ---- the front

pub row_whole : (ps : Row) (s : Symbol) → 1 ≤ length ps → ps ≡ get_or ps 0 s ∷ take (length ps - 1) (drop 1 ps)
row_whole [] s h = absurd (omega arith)
row_whole (p ∷ ps) s h = ap (λ (qs : Row). p ∷ qs) (sym (tail_slice p ps))

pub leaf_here : (m : Kind) (xs ys : List Seen) (class : Class) (f : Family) (b : Bool) → ys ≡ xs → class ≡ front ys
    → f ≡ family_of m → b ≡ has_leaf f class → IsTrue b → IsTrue (has_leaf (family_of m) (front xs))
leaf_here m xs ys class f b e c k l h = cc

-- ---- the trees that are passed

pub more_of : (fs : List Facts) (n k : ℕ) (before : List Tree) (f : Facts) (t : Tree) → AreOf fs n before → f ≡ facts_of t
    → k ≡ levels t → AreOf (fs ++ f ∷ []) (max n k) (before ++ t ∷ [])
more_of fs n k before f t a e l = record {
  facts = ap (λ (gs : List Facts). gs ++ f ∷ []) a.facts ∙ ap (λ (g : Facts). map facts_of before ++ g ∷ []) e ∙ sym (map-append facts_of before (t ∷ []));
  deep = omega (arith, a.deep, l, levels-last before t);
}

first_drop : (xs ys : List Seen) (i : ℕ) (s : Seen) → ys ≡ drop i xs → 1 ≤ length ys → s ≡ get_or ys 0 s → drop i xs ≡ s ∷ drop (i + 1) xs
first_drop xs ys i s e h g =
    let long : length (drop i xs) ≡ length xs - i = length-drop i xs in
    let here : s ≡ get_or xs i s = g ∙ ap (λ (zs : List Seen). get_or zs 0 s) e ∙ get_or-drop i xs 0 s ∙ ap (λ (j : ℕ). get_or xs j s) (add-zero i) in
    drop_more xs i s (omega (arith, long, ap (λ (zs : List Seen). length zs) e)) ∙ ap (λ (x : Seen). x ∷ drop (i + 1) xs) (sym here)

module _ (most : ℕ) (seen : List Seen) where
  -- ---- parts of a row

  pub word_steps : (w : Word) (ps : Row) (i n : ℕ) (fs gs : List Facts) (ys : List Seen) (s : Seen) (f : Facts)
      → IsTrue (row_fine (symbol.Word w ∷ ps)) → ys ≡ drop i seen → 1 ≤ length ys → s ≡ get_or ys 0 s
      → IsTrue (fits w s.class) → f ≡ leaf_facts s.token → gs ≡ fs ++ f ∷ []
      → (before : List Tree) → AreOf fs n before
      → (now : List Tree) × AreOf gs n now × Leads most (place (symbol.Word w ∷ ps) (drop i seen) before) (place ps (drop (i + 1) seen) now)
  word_steps w ps i n fs gs ys s f ok e h g fit t p before a =
      let xs : drop i seen ≡ s ∷ drop (i + 1) seen = first_drop seen ys i s e h g in
      let b : AreOf (fs ++ f ∷ []) (max n 0) (before ++ tree.Leaf s.token ∷ []) =
      more_of fs n 0 before f (tree.Leaf s.token) a (t ∙ leaf_same s.token) (sym (levels-Leaf s.token)) in (
        before ++ tree.Leaf s.token ∷ [],
        record { facts = p ∙ b.facts; deep = omega (arith, b.deep) },
        subst (λ (zs : List Seen). Leads most (place (symbol.Word w ∷ ps) zs before)
            (place ps (drop (i + 1) seen) (before ++ tree.Leaf s.token ∷ []))) (sym xs) (leads_word most w ps s (drop (i + 1) seen) before fit),
      )

  pub word_shorter : (w : Word) (ps : Row) (i : ℕ) (ys : List Seen) → ys ≡ drop i seen → 1 ≤ length ys
      → 3 * length (drop (i + 1) seen) + weight ps < 3 * length (drop i seen) + weight (symbol.Word w ∷ ps)
  word_shorter w ps i ys e h =
      omega (arith, weight-small ps, length-drop i seen, length-drop (i + 1) seen, ap (λ (zs : List Seen). length zs) e)

  pub way_steps : (f : Fork) (ps r : Row) (i n : ℕ) (fs : List Facts) (ys : List Seen) (class : Class)
      → IsTrue (row_fine (symbol.Fork f ∷ ps)) → ys ≡ drop i seen → class ≡ front ys → choose f class ≡ Some r
      → (before : List Tree) → AreOf fs n before
      → (now : List Tree) × AreOf fs n now × Leads most (place (symbol.Fork f ∷ ps) (drop i seen) before) (place r (drop i seen) now)
  way_steps f ps r i n fs ys class ok e c w before a =
      (before, a, way_taken most f ps r (drop i seen) before ok (ap (choose f) (ap front (sym e) ∙ sym c) ∙ w))

  pub way_stuck : (f : Fork) (ps : Row) (i : ℕ) (ys : List Seen) (class : Class) → IsTrue (row_fine (symbol.Fork f ∷ ps))
      → ys ≡ drop i seen → class ≡ front ys → choose f class ≡ None
      → Refuses most (place (symbol.Fork f ∷ ps) (drop i seen) [])
  way_stuck f ps i ys class ok e c w = way_refused most f ps (drop i seen) [] ok (ap (choose f) (ap front (sym e) ∙ sym c) ∙ w)

  pub child_steps : (k : Kind) (ps : Row) (i n d : ℕ) (fs gs : List Facts) (o : Recognizer)
      → IsTrue (row_fine (symbol.Child k ∷ ps)) → Recognized most k seen i o → gs ≡ fs ++ o.facts ∷ [] → d ≡ max n o.levels
      → (before : List Tree) → AreOf fs n before
      → (now : List Tree) × AreOf gs d now × Leads most (place (symbol.Child k ∷ ps) (drop i seen) before) (place ps (drop o.end seen) now)
  child_steps k ps i n d fs gs o ok h p w before a =
      let b : AreOf (fs ++ o.facts ∷ []) (max n o.levels) (before ++ h.tree ∷ []) = more_of fs n o.levels before o.facts h.tree a h.is.facts h.is.deep.0 in (
        before ++ h.tree ∷ [],
        record { facts = p ∙ b.facts; deep = w ∙ b.deep },
        child_taken most k ps (drop i seen) (drop o.end seen) before (before ++ h.tree ∷ []) h.tree ok refl h.spelled h.only,
      )

  pub child_shorter : (k : Kind) (ps : Row) (i : ℕ) (o : Recognizer) → IsTrue (row_fine (symbol.Child k ∷ ps)) → Recognized most k seen i o
      → 3 * length (drop o.end seen) + weight ps < 3 * length (drop i seen) + weight (symbol.Child k ∷ ps)
  child_shorter k ps i o ok h = child_smaller k ps (drop i seen) (drop o.end seen) h.tree ok h.spelled

  same_member : (k : Kind) (i : ℕ) (ys : List Seen) (typed : Bool) → ys ≡ drop i seen → typed ≡ front_typed ys
      → k ≡ member_kind typed → k ≡ member_kind (front_typed (drop i seen))
  same_member k i ys typed e t m = m ∙ ap member_kind (t ∙ ap front_typed e)

  pub member_steps : (k : Kind) (ps : Row) (i n d : ℕ) (fs gs : List Facts) (o : Recognizer) (ys : List Seen) (typed : Bool)
      → ys ≡ drop i seen → typed ≡ front_typed ys → k ≡ member_kind typed
      → IsTrue (row_fine (symbol.Argument ∷ ps)) → Recognized most k seen i o → gs ≡ fs ++ o.facts ∷ [] → d ≡ max n o.levels
      → (before : List Tree) → AreOf fs n before
      → (now : List Tree) × AreOf gs d now × Leads most (place (symbol.Argument ∷ ps) (drop i seen) before) (place ps (drop o.end seen) now)
  member_steps k ps i n d fs gs o ys typed e t m ok h p w before a =
      let b : AreOf (fs ++ o.facts ∷ []) (max n o.levels) (before ++ h.tree ∷ []) = more_of fs n o.levels before o.facts h.tree a h.is.facts h.is.deep.0 in (
        before ++ h.tree ∷ [],
        record { facts = p ∙ b.facts; deep = w ∙ b.deep },
        member_taken most k ps (drop i seen) (drop o.end seen) before (before ++ h.tree ∷ []) h.tree (same_member k i ys typed e t m) ok refl h.spelled h.only,
      )

  pub member_shorter : (k : Kind) (ps : Row) (i : ℕ) (o : Recognizer) (ys : List Seen) (typed : Bool) → ys ≡ drop i seen
      → typed ≡ front_typed ys → k ≡ member_kind typed → Recognized most k seen i o
      → 3 * length (drop o.end seen) + weight ps < 3 * length (drop i seen) + weight (symbol.Argument ∷ ps)
  member_shorter k ps i o ys typed e t m h = member_smaller k ps (drop i seen) (drop o.end seen) h.tree (same_member k i ys typed e t m) h.spelled

  pub member_stuck : (k : Kind) (ps : Row) (i : ℕ) (ys : List Seen) (typed : Bool) → ys ≡ drop i seen → typed ≡ front_typed ys
      → k ≡ member_kind typed → IsTrue (row_fine (symbol.Argument ∷ ps))
      → NoTreeAt most k (drop i seen) → Refuses most (place (symbol.Argument ∷ ps) (drop i seen) [])
  member_stuck k ps i ys typed e t m ok none = member_refused most k ps (drop i seen) [] (same_member k i ys typed e t m) ok none

  pub child_stuck : (k : Kind) (ps : Row) (i : ℕ) → IsTrue (row_fine (symbol.Child k ∷ ps)) → NoTreeAt most k (drop i seen)
      → Refuses most (place (symbol.Child k ∷ ps) (drop i seen) [])
  child_stuck k ps i ok none = child_refused most k ps (drop i seen) [] ok none

  -- ---- rows

  pub moves_none : (row : Row) (p : Spot) → row ≡ p.row.now → Moves most seen row p p
  moves_none row p e = record {
    leads = λ before a. (
      before,
      a,
      subst (λ (r : Row). Leads most (place r (drop p.at seen) before)
          (place p.row.now (drop p.at seen) before)) (sym e) (leads_refl most (place p.row.now (drop p.at seen) before)),
    );
    ahead = omega arith;
  }

  pub moves_more : (row : Row) (p q q' r : Spot) (s : Symbol) → Moves most seen row p q → Steps most seen s q' r
      → q.row.now ≡ s ∷ q'.row.now → q'.at ≡ q.at → q'.parts.items ≡ q.parts.items → q'.deepest ≡ q.deepest
      → Moves most seen row p r
  moves_more row p q q' r s m st e a i d = record {
    leads = λ before h.
        let w = m.leads before h in
        let h' : AreOf q'.parts.items q'.deepest w.0 = record { facts = i ∙ w.1.facts; deep = d ∙ w.1.deep } in
        let v = st.moves.leads w.0 h' in
        let here : Leads most (place row (drop p.at seen) before) (place (s ∷ q'.row.now) (drop q'.at seen) w.0) =
        subst (λ (rs : Row). Leads most (place row (drop p.at seen) before) (place rs (drop q'.at seen) w.0)) e
        (subst (λ (j : ℕ). Leads most (place row (drop p.at seen) before) (place q.row.now (drop j seen) w.0)) (sym a) w.2) in (
          v.0,
          v.1,
          leads_trans most (place row (drop p.at seen) before) (place (s ∷ q'.row.now) (drop q'.at seen) w.0)
              (place r.row.now (drop r.at seen) v.0) here v.2,
        );
    ahead = omega (arith, m.ahead, st.moves.ahead, a);
  }

  pub moves_on : (p q : Spot) → Moves most seen p.row.now p q → length q.row.now < 1 → RunsOn most seen p q
  moves_on p q m short = record {
    runs = λ before h. let w = m.leads before h in (w.0, w.1, run_done most p.row.now q.row.now (drop p.at seen) (drop q.at seen) before w.0 short w.2);
    ahead = m.ahead;
  }

  pub moves_stuck : (p q : Spot) (s : Symbol) (ps : Row) (j : ℕ) (e : ParseFault) → Moves most seen p.row.now p q
      → q.row.now ≡ s ∷ ps → j ≡ q.at → OnFault e (Refuses most (place (s ∷ ps) (drop j seen) []))
      → (before : List Tree) → AreOf p.parts.items p.deepest before → OnFault e (NoRun most p.row.now (drop p.at seen))
  moves_stuck p q s ps j e m same a none before h =
      let w = m.leads before h in
      let here : Leads most (place p.row.now (drop p.at seen) before) (place (s ∷ ps) (drop j seen) w.0) =
      subst (λ (rs : Row). Leads most (place p.row.now (drop p.at seen) before) (place rs (drop j seen) w.0)) same
      (subst (λ (i : ℕ). Leads most (place p.row.now (drop p.at seen) before) (place q.row.now (drop i seen) w.0)) (sym a) w.2) in
      fault_weaker e _ _ (λ never. refuses_from most (place p.row.now (drop p.at seen) before) (place (s ∷ ps) (drop j seen) w.0) here never) none

  -- ---- branches

  allowed_of : (r : Rule) (fs : List Facts) (n : ℕ) (cs : List Tree) (b : Bool) → AreOf fs n cs → b ≡ allows_facts r fs → b ≡ allows r cs
  allowed_of r fs n cs b a e = e ∙ ap (allows_facts r) a.facts ∙ allows_same r cs

  pub finish_done : (r : Rule) (p : Spot) (b : Bool) (f : Facts) (g : Sketch) → g.root ≡ Some r → g.recognizer.end ≡ p.at
      → g.recognizer.levels ≡ p.deepest + 1 → g.recognizer.facts ≡ f → f ≡ branch_facts r p.parts.items
      → b ≡ allows_facts r p.parts.items → IsTrue b → p.deepest < most → Ends most r p g
  finish_done r p b f g root end deep eq facts e ok under = record {
    root = root;
    here = end;
    is = λ cs a. (
      sym (allowed_of r p.parts.items p.deepest cs b a e) ∙ ok,
      record {
        facts = eq ∙ facts ∙ ap (branch_facts r) a.facts ∙ branch_same r cs;
        deep = (omega (arith, deep, a.deep, levels-build r cs), omega (arith, deep, under));
      },
    );
  }

  pub finish_over : (r : Rule) (p : Spot) → most ≤ p.deepest → (cs : List Tree) → AreOf p.parts.items p.deepest cs → NoBranch most r cs
  finish_over r p over cs a = too_deep most p.deepest r cs a.deep over

  branch_of : (r : Rule) (p : Spot) (g : Sketch) (cs : List Tree) → Ends most r p g → AreOf p.parts.items p.deepest cs
      → IsBranch r cs (drop p.at seen) g.root (build r cs) (drop g.recognizer.end seen)
  branch_of r p g cs h a = record { root = h.root; tree = refl; rest = ap (λ (j : ℕ). drop j seen) h.here; allowed = (h.is cs a).0 }

  -- ---- the first tree

  pub leaf_opened : (m : Kind) (i : ℕ) (ys : List Seen) (s : Seen) (f : Facts) (g : Sketch)
      → IsTrue (has_leaf (family_of m) (front (drop i seen))) → ys ≡ drop i seen → 1 ≤ length ys → s ≡ get_or ys 0 s → f ≡ leaf_facts s.token
      → g.root ≡ None → g.recognizer.facts ≡ f → g.recognizer.levels ≡ 0 → g.recognizer.end ≡ i + 1 → Opened most m seen i g
  leaf_opened m i ys s f g leaf e h at t root facts deep end =
      let xs : drop i seen ≡ s ∷ drop (i + 1) seen = first_drop seen ys i s e h at in
      let leaf' : IsTrue (has_leaf (family_of m) s.class) = subst (λ (zs : List Seen). IsTrue (has_leaf (family_of m) (front zs))) xs leaf in
      let there : drop (i + 1) seen ≡ drop g.recognizer.end seen = ap (λ (j : ℕ). drop j seen) (sym end) in
      record {
        tree = tree.Leaf s.token;
        operand =
            subst (λ (q : Root). Operand m q (drop i seen) (tree.Leaf s.token) (drop g.recognizer.end seen)) (sym root)
            (subst (λ (zs : List Seen). Operand m None (drop i seen) (tree.Leaf s.token) zs) there
            (subst (λ (zs : List Seen). Operand m None zs (tree.Leaf s.token) (drop (i + 1) seen)) (sym xs) (token leaf')));
        only =
            subst (λ (q : Root). OnlyOperand most m (drop i seen) q (tree.Leaf s.token) (drop g.recognizer.end seen)) (sym root)
            (subst (λ (zs : List Seen). OnlyOperand most m (drop i seen) None (tree.Leaf s.token) zs) there
            (subst (λ (zs : List Seen). OnlyOperand most m zs None (tree.Leaf s.token) (drop (i + 1) seen)) (sym xs)
            (subst (λ (zs : List Seen). OnlyOperand most m (s ∷ drop (i + 1) seen) None (tree.Leaf s.token) zs)
            (tail_slice s (drop (i + 1) seen)) (leaf_only most m (s ∷ drop (i + 1) seen) s s.token leaf' refl refl))));
        is = record { facts = facts ∙ t ∙ leaf_same s.token; deep = (deep ∙ sym (levels-Leaf s.token), omega (arith, deep)) };
        ahead = omega (arith, end);
      }

  pub opened : (m : Kind) (i : ℕ) (ys : List Seen) (class : Class) (b : Bool) (r : Rule) (start p : Spot) (g : Sketch)
      → ys ≡ drop i seen → class ≡ front ys → b ≡ has_leaf (family_of m) class → b ≡ false → Some r ≡ headed_by m class
      → start.row.now ≡ own r → start.at ≡ i → start.parts.items ≡ [] → start.deepest ≡ 0 → RunsOn (most - 1) seen start p
      → Ends most r p g → Opened most m seen i g
  opened m i ys class b r start p g e c l f n o a z d runs ends =
      let c' : class ≡ front (drop i seen) = c ∙ ap front e in
      let run = runs.runs [] (record { facts = z; deep = d }) in
      let to : RunsTo (most - 1) start.row.now (drop i seen) [] run.0 (drop p.at seen) =
      subst (λ (j : ℕ). RunsTo (most - 1) start.row.now (drop j seen) [] run.0 (drop p.at seen)) a run.2 in
      let is : IsBranch r run.0 (drop p.at seen) g.root (build r run.0) (drop g.recognizer.end seen) = branch_of r p g run.0 ends run.1 in
      record {
        tree = build r run.0;
        operand = branch_found most m (drop i seen) (drop p.at seen)
            (drop g.recognizer.end seen) class r start.row.now [] run.0 g.root (build r run.0) c' n o refl to is;
        only = branch_only most m (drop i seen) (drop p.at seen)
            (drop g.recognizer.end seen) class b r start.row.now [] run.0 g.root (build r run.0) c' l f n o refl to is;
        is = (ends.is run.0 run.1).1;
        ahead = omega (arith, a, runs.ahead, ends.here);
      }

  pub not_opened : (m : Kind) (i : ℕ) (ys : List Seen) (class : Class) (b : Bool) (r : Rule) (start p : Spot)
      (fault : ParseFault) → ys ≡ drop i seen → class ≡ front ys → b ≡ has_leaf (family_of m) class → b ≡ false → Some r ≡ headed_by m class
      → start.row.now ≡ own r → start.at ≡ i → start.parts.items ≡ [] → start.deepest ≡ 0 → RunsOn (most - 1) seen start p
      → NoEnd most r p fault → OnFault fault (NoOperand most m (drop i seen))
  not_opened m i ys class b r start p fault e c l f n o a z d runs none =
      let run = runs.runs [] (record { facts = z; deep = d }) in
      let to : RunsTo (most - 1) start.row.now (drop i seen) [] run.0 (drop p.at seen) =
      subst (λ (j : ℕ). RunsTo (most - 1) start.row.now (drop j seen) [] run.0 (drop p.at seen)) a run.2 in
      subst (λ (x : ParseFault). OnFault x (NoOperand most m (drop i seen))) (sym none.fault)
      (no_branch_found most m (drop i seen) (drop p.at seen) class b r start.row.now [] run.0 (c ∙ ap front e) l f n o refl to (none.none run.0 run.1))

  pub never_opened : (m : Kind) (i : ℕ) (ys : List Seen) (class : Class) (b : Bool) (r : Rule) (start : Spot)
      (fault : ParseFault) → ys ≡ drop i seen → class ≡ front ys → b ≡ has_leaf (family_of m) class → b ≡ false → Some r ≡ headed_by m class
      → start.row.now ≡ own r → start.at ≡ i → start.parts.items ≡ [] → start.deepest ≡ 0
      → ((before : List Tree) → AreOf start.parts.items start.deepest before
      → OnFault fault (NoRun (most - 1) start.row.now (drop start.at seen))) → OnFault fault (NoOperand most m (drop i seen))
  never_opened m i ys class b r start fault e c l f n o a z d none =
      fault_weaker fault _ _ (λ never. at_refused most m (drop i seen) class b r start.row.now (c ∙ ap front e) l f n o
      (subst (λ (j : ℕ). NoRun (most - 1) start.row.now (drop j seen)) a never)) (none [] (record { facts = z; deep = d }))

  -- ---- a tree that grows

  one_of : (o : Recognizer) (t : Tree) (fs : List Facts) (n : ℕ) → IsOf most o t → fs ≡ o.facts ∷ [] → n ≡ o.levels → AreOf fs n (t ∷ [])
  one_of o t fs n h z d = record { facts = z ∙ ap (λ (f : Facts). f ∷ []) h.facts; deep = omega (arith, d, h.deep.0) }

  pub grown : (r : Rule) (o : Recognizer) (start p : Spot) (g : Sketch) → start.row.now ≡ own r → start.at ≡ o.end
      → start.parts.items ≡ o.facts ∷ [] → start.deepest ≡ o.levels
      → RunsOn (most - 1) seen start p → Ends most r p g → GrowsOn most r seen o g
  grown r o start p g own_row a z d runs ends = record {
    grown = λ t h.
        let run = runs.runs (t ∷ []) (one_of o t start.parts.items start.deepest h z d) in
        let to : RunsTo (most - 1) start.row.now (drop o.end seen) (t ∷ []) run.0 (drop p.at seen) =
        subst (λ (j : ℕ). RunsTo (most - 1) start.row.now (drop j seen) (t ∷ []) run.0 (drop p.at seen)) a run.2 in (
          build r run.0,
          branch_grown most r t (drop o.end seen) (drop p.at seen) (drop g.recognizer.end seen) start.row.now
              (t ∷ []) run.0 g.root (build r run.0) own_row refl to (branch_of r p g run.0 ends run.1),
          (ends.is run.0 run.1).1,
        );
    ahead = omega (arith, a, runs.ahead, ends.here);
  }

  pub not_grown : (r : Rule) (o : Recognizer) (start p : Spot) (fault : ParseFault) → start.row.now ≡ own r → start.at ≡ o.end
      → start.parts.items ≡ o.facts ∷ [] → start.deepest ≡ o.levels
      → RunsOn (most - 1) seen start p → NoEnd most r p fault → NotGrown most r seen o fault
  not_grown r o start p fault own_row a z d runs none t h =
      let run = runs.runs (t ∷ []) (one_of o t start.parts.items start.deepest h z d) in
      let to : RunsTo (most - 1) start.row.now (drop o.end seen) (t ∷ []) run.0 (drop p.at seen) =
      subst (λ (j : ℕ). RunsTo (most - 1) start.row.now (drop j seen) (t ∷ []) run.0 (drop p.at seen)) a run.2 in
      subst (λ (x : ParseFault). OnFault x (NoGrowth most r t (drop o.end seen))) (sym none.fault)
      (no_branch_grown most r t (drop o.end seen) (drop p.at seen) start.row.now (t ∷ []) run.0 own_row refl to (none.none run.0 run.1))

  pub never_grown : (r : Rule) (o : Recognizer) (start : Spot) (fault : ParseFault) → start.row.now ≡ own r → start.at ≡ o.end
      → start.parts.items ≡ o.facts ∷ [] → start.deepest ≡ o.levels
      → ((before : List Tree) → AreOf start.parts.items start.deepest before
      → OnFault fault (NoRun (most - 1) start.row.now (drop start.at seen))) → NotGrown most r seen o fault
  never_grown r o start fault own_row a z d none t h =
      fault_weaker fault _ _ (λ never. by_refused most r t (drop o.end seen) start.row.now own_row
      (subst (λ (j : ℕ). NoRun (most - 1) start.row.now (drop j seen)) a never)) (none (t ∷ []) (one_of o t start.parts.items start.deepest h z d))

  pub too_high : (r : Rule) (o : Recognizer) → most ≤ o.levels → (t : Tree) → IsOf most o t → NoGrowth most r t (drop o.end seen)
  too_high r o high t h = no_growth most o.levels r t (drop o.end seen) h.deep.0 high

  -- the sketch is that of a tree from which every tree of the kind at the place grows
  pub record Grew (m : Kind) (i : ℕ) (g : Sketch) : Type 0 where
    pub tree : Tree
    pub growing : Growing most m (drop i seen) g.root tree (drop g.recognizer.end seen)
    pub is : IsOf most g.recognizer tree
    pub ahead : i ≤ g.recognizer.end

  pub grew_first : (m : Kind) (i : ℕ) (g : Sketch) → Opened most m seen i g → Grew m i g
  grew_first m i g h = record {
    tree = h.tree;
    growing =
        growing_start most m (drop i seen) g.root h.tree (drop g.recognizer.end seen) h.operand h.only;
    is = h.is;
    ahead = h.ahead;
  }

  pub grew_more : (m : Kind) (i : ℕ) (g h : Sketch) (ys : List Seen) (class : Class) (r : Rule) → Grew m i g
      → ys ≡ drop g.recognizer.end seen → class ≡ front ys → Some r ≡ goes_on m g.root class → GrowsOn most r seen g.recognizer h → Grew m i h
  grew_more m i g h ys class r w e c n on =
      let by = on.grown w.tree w.is in
      record {
        tree = by.0;
        growing = turn most m (drop i seen) g.root h.root w.tree by.0 (drop g.recognizer.end seen)
            (drop h.recognizer.end seen) class r w.growing (c ∙ ap front e) n by.1;
        is = by.2;
        ahead = omega (arith, w.ahead, on.ahead);
      }

  pub grew_shorter : (m : Kind) (i : ℕ) (g h : Sketch) (ys : List Seen) (class : Class) (r : Rule) → Grew m i g
      → ys ≡ drop g.recognizer.end seen → class ≡ front ys → Some r ≡ goes_on m g.root class → GrowsOn most r seen g.recognizer h
      → length (drop h.recognizer.end seen) < length (drop g.recognizer.end seen)
  grew_shorter m i g h ys class r w e c n on =
      let by = on.grown w.tree w.is in
      shorter most m g.root h.root w.tree by.0 (drop g.recognizer.end seen) (drop h.recognizer.end seen) class r (c ∙ ap front e) n by.1

  pub grew_stuck : (m : Kind) (i : ℕ) (g : Sketch) (ys : List Seen) (class : Class) (r : Rule) (fault : ParseFault) → Grew m i g
      → ys ≡ drop g.recognizer.end seen → class ≡ front ys → Some r ≡ goes_on m g.root class
      → NotGrown most r seen g.recognizer fault → OnFault fault (NoTreeAt most m (drop i seen))
  grew_stuck m i g ys class r fault w e c n none =
      fault_weaker fault _ _ (λ never. stuck most m (drop i seen) g.root w.tree (drop g.recognizer.end seen) class r w.growing
      (c ∙ ap front e) n never) (none w.tree w.is)

  pub grew_all : (m : Kind) (i : ℕ) (g : Sketch) (ys : List Seen) (class : Class) → Grew m i g → ys ≡ drop g.recognizer.end seen
      → class ≡ front ys → None ≡ goes_on m g.root class → Recognized most m seen i g.recognizer
  grew_all m i g ys class w e c n = record {
    tree = w.tree;
    spelled = found most m (drop i seen) g.root w.tree (drop g.recognizer.end seen) w.growing;
    only = finished most m (drop i seen) g.root w.tree (drop g.recognizer.end seen) class w.growing (c ∙ ap front e) n;
    is = w.is;
    ahead = w.ahead;
  }
