-- The trees that are read from a body and from the code of its clauses.
use Rattle.std.proofs.Common.{◌≡◌, ℕ, zero, suc, ◌*◌, ◌<◌, ◌≤◌, refl, sym, ap, ◌∙◌, subst, arith, List, [], ◌∷◌, ◌++◌, map}
use Rattle.std.proofs.Common.{length, Option, Some, None, slice_get, inl, inr}
use Rattle.std.proofs.lemmas.List.{length-append}
use Rattle.std.proofs.lemmas.Bool.{false≢true}
use Rattle.std.specs.Prelude.{Bool, true, false}
use Rattle.std.specs.List.{list_all}
use Rattle.c_terms.specs.declared.token.Token.{Token}
use Rattle.c_terms.specs.declared.tree.Tree.{Tree}
use Rattle.c_terms.specs.Trees.{leaves, join}
use Rattle.c_terms.specs.Names.{listed_names}
use Rattle.c_rows.specs.declared.kind.Kind.TheVariants as kind
use Rattle.c_rows.specs.Trees.{NoRival}
use Rattle.c_rows.proofs.RangeLemmas.{tree_leaves}
use Rattle.smpl_patch.specs.declared.elem.Dots.{Dots, roll-Dots}
use Rattle.smpl_patch.specs.declared.elem.Elem.{Elem}
use Rattle.smpl_patch.specs.declared.elem.Elem.TheFolds.{fold-roll-Dots}
use Rattle.smpl_patch.specs.declared.fault.PatchFault.{PatchFault}
use Rattle.smpl_patch.specs.declared.fault.PatchFault.TheVariants.{DotsAtEdge}
use Rattle.smpl_patch.specs.Faults.{earlier, first_from, first_of}
use Rattle.smpl_patch.specs.Bodies.{Element, DotsOf, element_step, dots_step, body}
use Rattle.smpl_patch.specs.Shapes.{count, are_formed, is_formed_body, patterns_body, patterns_bodies, lengths_body, lengths_bodies}
use Rattle.smpl_patch.proofs.BodyLemmas.{bodies, dots_of}
use Rattle.smpl_meta.specs.declared.patterns.Placed.{Placed}
use Rattle.smpl_body.specs.declared.smpl_when.clauses.WhenFlags.{WhenFlags}
use Rattle.smpl_body.specs.declared.smpl_when.cutting.Code.{Code}
use Rattle.smpl_body.specs.SmplWhen.Cutting.{cut}
use Rattle.smpl_body.specs.SmplWhen.Grammar.{IsCut}
use Rattle.smpl_body.specs.SmplElem.Forms.{is_list}
use Rattle.smpl_body.specs.SmplElem.Elements.{atoms, elements}
use Rattle.smpl_body.specs.declared.reading.Form.{Form}
use Rattle.smpl_body.specs.declared.reading.Form.TheVariants as form
use Rattle.smpl_body.specs.Spelled.{kind_of, IsTree, IsFirst, IsRead, AreRead, body_forms, code_forms}
use Rattle.smpl_body.specs.DotsOf.{ends, statements, edges}
use Rattle.smpl_body.specs.Bodies.{at_of, nested_hosts, all_edges, edge_faults, minus_faults, first_some, is_any, is_strict}
use Rattle.smpl_body.specs.Bodies.{codes_of, code_dots, code_at, whens_of, body_dots, starts_from, IsBody}
use Rattle.smpl_body.proofs.EdgeLemmas.{edges_in}
use Rattle.sound_laws.specs.SmplFormed.Shapes.{is_dots_tree, Formed}
use Rattle.sound_laws.proofs.SmplFormed.RowShapes.{tree_formed, alone_undotted, list_listed}
use Rattle.sound_laws.proofs.SmplFormed.SequenceLemmas.{and_both, small, is_small, count_is, AllGood, Whole, AllWhole}
use Rattle.sound_laws.proofs.SmplFormed.SequenceLemmas.{whole_formed, bodies_formed, bodies_few, bodies_good, all_few, all_good}
use Rattle.sound_laws.proofs.SmplFormed.SequenceLemmas.{GoodDots}
use Rattle.sound_laws.proofs.SmplFormed.KidLemmas.{front_empty, back_empty}
use Rattle.sound_laws.proofs.SmplFormed.TreeLemmas.{tree_fine, tree_whole}
use Rattle.sound_laws.specs.SmplFormed.Bodies.{tokens_of}
use Rattle.sound_laws.proofs.SmplFormed.CutLemmas.{AllPass, parts_pass, AllShort, parts_short, codes_short}

-- ---- trees that are read

pub record IsTop (n : ℕ) (tokens : List Token) (t : Tree) : Type 0 where
  pub formed : Formed (2 * n) t
  pub undotted : is_list t ≡ false → is_dots_tree t ≡ false
  pub are : leaves t ≡ tokens

top_tree : (f : Form) (n : ℕ) (tokens : List Token) (t : Tree) → length tokens ≤ n → IsTree f tokens t → IsTop n tokens t
top_tree f n tokens t le is = record {
  formed = tree_formed listed_names (NoRival listed_names (length tokens)) (2 * n) (omega (arith, le)) is.spells.derived;
  undotted = by f is;
  are = tree_leaves (kind_of f) listed_names tokens t is.spells;
}
  where
    by : (g : Form) → IsTree g tokens t → is_list t ≡ false → is_dots_tree t ≡ false
    by form.Expression h off = alone_undotted listed_names (NoRival listed_names (length tokens)) {k = kind.Expr} refl h.spells.derived
    by form.Function h off = alone_undotted listed_names (NoRival listed_names (length tokens)) {k = kind.External} refl h.spells.derived
    by form.Statements h off = absurd (false≢true (sym off ∙ list_listed listed_names (NoRival listed_names (length tokens)) h.spells.derived))

top_first : (forms : List Form) (n : ℕ) (tokens : List Token) (t : Tree) → length tokens ≤ n → IsFirst forms tokens t → IsTop n tokens t
top_first [] n tokens t le h = absurd h
top_first (f ∷ fs) n tokens t le (inl h) = top_tree f n tokens t le h
top_first (f ∷ fs) n tokens t le (inr h) = top_first fs n tokens t le h.1

pub top_read : (forms : List Form) (n : ℕ) (tokens : List Token) (t : Tree) → length tokens ≤ n → IsRead forms tokens t → IsTop n tokens t
top_read forms n [] t le h = absurd h
top_read forms n (a ∷ tokens) t le h = top_first forms n (a ∷ tokens) t le h

abbrev pub AllTop : ℕ → List Code → List Tree → Type 0
AllTop n [] [] = Unit {0}
AllTop n [] (t ∷ ts) = ⊥
AllTop n (c ∷ cs) [] = ⊥
AllTop n (c ∷ cs) (t ∷ ts) = IsTop n c.tokens t × AllTop n cs ts

pub all_top : (n : ℕ) (cs : List Code) (ts : List Tree) → AllShort n cs → AreRead cs ts → AllTop n cs ts
all_top n [] [] s r = tt
all_top n [] (t ∷ ts) s r = absurd r
all_top n (c ∷ cs) [] s r = absurd r
all_top n (c ∷ cs) (t ∷ ts) s r = (top_read code_forms n c.tokens t s.0 r.0, all_top n cs ts s.1 r.1)

-- ---- no dots and no nest at an edge

some_stays : (f : PatchFault) (fs : List PatchFault) → first_from (Some f) fs ≡ None → ⊥
some_stays f [] h = let no : ⊥ = cc in no
some_stays f (g ∷ fs) h = some_stays (earlier (Some f) g) fs h

no_edges : (ps : List Placed) (ids : List ℕ) → first_of (edge_faults ps ids) ≡ None → ids ≡ []
no_edges ps [] h = refl
no_edges ps (id ∷ ids) h = absurd (some_stays (DotsAtEdge (at_of (slice_get ps id))) (edge_faults ps ids) h)

first_none : (o p : Option PatchFault) → first_some o p ≡ None → o ≡ None
first_none None p h = refl
first_none (Some f) p h = h

-- ---- the code of clauses

pub dots_rolled : (ws : List (List Elem)) (a s : Bool) → (dots_of (roll-Dots (record { whens = ws; any = a; strict = s }))).whens ≡ bodies ws
dots_rolled ws a s = ap (λ (d : DotsOf). d.whens) (fold-roll-Dots Element DotsOf element_step dots_step _)

module _ (ok : Token → Bool) (most : ℕ) where
  good_dots : (ws : List (List Elem)) (a s : Bool) → AllWhole ok most ws → length ws < 4294967296
      → GoodDots ok most (roll-Dots (record { whens = ws; any = a; strict = s }))
  good_dots ws a s w le =
      let is = dots_rolled ws a s in
      record {
        formed = ap are_formed is ∙ bodies_formed ok most ws w;
        few = ap (λ b. list_all is_small (count b ∷ lengths_bodies b)) is
            ∙ and_both (is_small (count (bodies ws))) (list_all is_small (lengths_bodies (bodies ws)))
            (ap is_small (count_is ws) ∙ small (length ws) le) (bodies_few ok most ws w);
        patterns = subst (λ b. AllGood ok most (patterns_bodies b)) (sym is) (bodies_good ok most ws w);
      }

  module _ (said : List WhenFlags) where
    pub code_good : (id : ℕ) → GoodDots ok most (code_dots said id)
    code_good id = good_dots [] (is_any (slice_get said id)) (is_strict (slice_get said id)) tt (omega arith)

    abbrev AllCodeWhole : List Tree → Type 0
    AllCodeWhole [] = Unit {0}
    AllCodeWhole (t ∷ ts) = ((k : ℕ) → Whole ok most (elements (code_dots said) k t)) × AllCodeWhole ts

    at_whole : (ts : List Tree) (starts : List ℕ) (k : ℕ) → AllCodeWhole ts → AllWhole ok most (code_at said (slice_get ts k) (slice_get starts k))
    at_whole [] starts k w = tt
    at_whole (t ∷ ts) [] zero w = tt
    at_whole (t ∷ ts) (n ∷ starts) zero w = (w.0 n, tt)
    at_whole (t ∷ ts) [] (suc k) w = at_whole ts [] k w.1
    at_whole (t ∷ ts) (n ∷ starts) (suc k) w = at_whole ts starts k w.1

    whole_append : (xs ys : List (List Elem)) → AllWhole ok most xs → AllWhole ok most ys → AllWhole ok most (xs ++ ys)
    whole_append [] ys w v = v
    whole_append (x ∷ xs) ys w v = (w.0, whole_append xs ys w.1 v)

    whens_whole : (ts : List Tree) (starts ks : List ℕ) → AllCodeWhole ts → AllWhole ok most (whens_of said ts starts ks)
    whens_whole ts starts [] w = tt
    whens_whole ts starts (k ∷ ks) w = whole_append (code_at said (slice_get ts k) (slice_get starts k))
        (whens_of said ts starts ks) (at_whole ts starts k w) (whens_whole ts starts ks w)

    at_short : (o : Option Tree) (n : Option ℕ) → length (code_at said o n) ≤ 1
    at_short None n = omega arith
    at_short (Some t) None = omega arith
    at_short (Some t) (Some n) = omega arith

    whens_short : (ts : List Tree) (starts ks : List ℕ) → length (whens_of said ts starts ks) ≤ length ks
    whens_short ts starts [] = omega arith
    whens_short ts starts (k ∷ ks) =
        omega (
          arith,
          length-append (code_at said (slice_get ts k) (slice_get starts k)) (whens_of said ts starts ks),
          at_short (slice_get ts k) (slice_get starts k),
          whens_short ts starts ks,
        )

    -- ---- a whole tree

    top_whole : (n : ℕ) (dots : ℕ → Dots) (tokens : List Token) (t : Tree) → most ≡ 2 * n → most < 4294967296
        → ((id : ℕ) → GoodDots ok most (dots id)) → IsTop n tokens t → list_all ok tokens ≡ true → edges t ≡ []
        → (k : ℕ) → Whole ok most (elements dots k t)
    top_whole n dots tokens t e s good top v edge =
        let formed : Formed most t = subst (λ (m : ℕ). Formed m t) (sym e) top.formed in
        tree_whole ok most dots s formed
        (tree_fine ok most dots s good formed (ap (list_all ok) top.are ∙ v) (back_empty (ends (statements t)) (edges_in t) edge))
        (front_empty (ends (statements t)) (edges_in t) edge) top.undotted

    codes_whole : (n : ℕ) (cs : List Code) (ts : List Tree) → most ≡ 2 * n → most < 4294967296 → AllTop n cs ts → AllPass ok cs
        → join (map edges ts) ≡ [] → AllCodeWhole ts
    codes_whole n [] [] e s t v edge = tt
    codes_whole n [] (u ∷ ts) e s t v edge = absurd t
    codes_whole n (c ∷ cs) [] e s t v edge = absurd t
    codes_whole n (c ∷ cs) (u ∷ ts) e s t v edge = (
      top_whole n (code_dots said) c.tokens u e s code_good t.0 v.0 (front_empty (edges u) (join (map edges ts)) edge),
      codes_whole n cs ts e s t.1 v.1 (back_empty (edges u) (join (map edges ts)) edge),
    )

    body_good : (ts : List Tree) (starts : List ℕ) (id : ℕ) → AllCodeWhole ts
        → length (codes_of (slice_get said id)) < 4294967296 → GoodDots ok most (body_dots said ts starts id)
    body_good ts starts id w le =
        let ks = codes_of (slice_get said id) in
        good_dots (whens_of said ts starts ks) (is_any (slice_get said id)) (is_strict (slice_get said id))
        (whens_whole ts starts ks w) (omega (arith, whens_short ts starts ks, le))

-- ---- bodies

module _ (ok : Token → Bool) (ps : List Placed) (es : List Elem) where
  pub body_whole : IsCut ps (cut ps) → length ps < 2147483648 → list_all ok (tokens_of ps) ≡ true → IsBody ps es → Whole ok (2 * length ps) es
  body_whole c s v is =
      let n = length ps in let most = 2 * n in let ts = is.codes in
      let fits : most < 4294967296 = omega (arith, s) in
      let short = parts_short c.are in
      let pass = parts_pass ok c.are v in
      let own : list_all ok (cut ps).main ≡ true = ap (list_all ok) c.main ∙ pass.0 in
      let codes_pass : AllPass ok (cut ps).codes = subst (λ (cs : List Code). AllPass ok cs) (sym c.codes) pass.1 in
      let each_short : AllShort n (cut ps).codes = subst (λ (cs : List Code). AllShort n cs) (sym c.codes) short.each in
      let main_short : length (cut ps).main ≤ n = omega (arith, ap length c.main, short.own) in
      let none : all_edges (cut ps) (is.tree ∷ ts) ≡ [] =
      no_edges ps (all_edges (cut ps) (is.tree ∷ ts))
      (first_none (first_of (edge_faults ps (all_edges (cut ps) (is.tree ∷ ts)))) (first_of (minus_faults ps (is.tree ∷ ts))) is.faultless) in
      let edge : edges is.tree ++ join (map edges ts) ≡ [] = back_empty (nested_hosts (cut ps).codes) (join (map edges (is.tree ∷ ts))) none in
      let codes_are = codes_whole ok most (cut ps).said n (cut ps).codes ts refl fits
      (all_top n (cut ps).codes ts each_short is.spells.code) codes_pass (back_empty (edges is.tree) (join (map edges ts)) edge) in
      let starts = starts_from (atoms is.tree) ts in
      let few : (id : ℕ) → length (codes_of (slice_get (cut ps).said id)) < 4294967296 =
      λ id. let e = ap (λ (l : List WhenFlags). length (codes_of (slice_get l id))) c.said in omega (arith, e, codes_short ps c.parts id, short.count, s) in
      subst (λ (xs : List Elem). Whole ok most xs) (sym is.are)
      (top_whole ok most (cut ps).said n (body_dots (cut ps).said ts starts) (cut ps).main is.tree refl fits
      (λ id. body_good ok most (cut ps).said ts starts id codes_are (few id))
      (top_read body_forms n (cut ps).main is.tree main_short is.spells.body) own (front_empty (edges is.tree) (join (map edges ts)) edge) 0)

  pub body_formed : IsCut ps (cut ps) → length ps < 2147483648 → list_all ok (tokens_of ps) ≡ true → IsBody ps es → is_formed_body (body es) ≡ true
  body_formed c s v is = whole_formed ok (2 * length ps) es (body_whole c s v is)

  pub body_few : IsCut ps (cut ps) → length ps < 2147483648 → list_all ok (tokens_of ps) ≡ true → IsBody ps es
      → list_all is_small (length es ∷ lengths_body (body es)) ≡ true
  body_few c s v is =
      let w = body_whole c s v is in
      and_both (is_small (length es)) (list_all is_small (lengths_body (body es))) (small (length es) w.short) (all_few ok (2 * length ps) es w.fine)

  pub body_patterns : IsCut ps (cut ps) → length ps < 2147483648 → list_all ok (tokens_of ps) ≡ true → IsBody ps es
      → AllGood ok (2 * length ps) (patterns_body (body es))
  body_patterns c s v is = all_good ok (2 * length ps) es (body_whole c s v is).fine
