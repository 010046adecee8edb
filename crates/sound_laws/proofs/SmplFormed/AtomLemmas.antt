-- How often a number is that of a pattern of a tree's elements: at most as often as the tree's own patterns have it, and those
-- of the code of its dots.
-- Proof: by induction on the tree. Its own patterns are numbered one after another; each of its tokens has clauses once.
use Rattle.std.proofs.Common.{◌≡◌, ℕ, zero, suc, ◌+◌, ◌<◌, ◌≤◌, refl, sym, ap, ◌∙◌, subst, arith, List, [], ◌∷◌, ◌++◌, map}
use Rattle.std.proofs.Common.{length, Option, Some, None, slice_get}
use Rattle.std.proofs.lemmas.List.{append-nil}
use Rattle.std.proofs.lemmas.Bool.{false≢true}
use Rattle.std.proofs.lemmas.Bool.Decides.{nat_tests}
use Rattle.std.specs.Prelude.{Bool, true, false, not, ◌&&◌, ◌||◌, nat_eq, if◌then◌else◌}
use Rattle.std.specs.List.{list_any}
use Rattle.c_terms.specs.declared.token.Token.{Token}
use Rattle.c_terms.specs.declared.token.TokenKind.{TokenKind}
use Rattle.c_terms.specs.declared.token.TokenKind.TheVariants as token_kind
use Rattle.c_terms.specs.declared.token.MetaKind.TheVariants as meta
use Rattle.c_terms.specs.declared.label.Label.{Label}
use Rattle.c_terms.specs.declared.label.Label.TheVariants as label
use Rattle.c_terms.specs.declared.tree.Tree.{Tree}
use Rattle.c_terms.specs.declared.tree.Tree.TheVariants.{Leaf, Branch}
use Rattle.c_terms.specs.Trees.{leaves, join}
use Rattle.c_terms.proofs.Induct.{tree_cases}
use Rattle.c_terms.proofs.SameLemmas.{out-Leaf, out-Branch}
use Rattle.c_terms.proofs.TreeLemmas.{leaves-Leaf, leaves-Branch}
use Rattle.smpl_patch.specs.declared.pattern.Spot.TheVariants as spot
use Rattle.smpl_patch.specs.declared.pattern.Pattern.{Pattern}
use Rattle.smpl_patch.specs.declared.elem.Dots.{Dots}
use Rattle.smpl_patch.specs.declared.elem.Elem.{Elem}
use Rattle.smpl_patch.specs.declared.elem.Elem.TheVariants as elem
use Rattle.smpl_patch.specs.Bodies.{Element, element, body}
use Rattle.smpl_patch.specs.Shapes.{option_patterns, patterns_element, patterns_body, patterns_bodies}
use Rattle.smpl_patch.specs.Sound.{none_alike}
use Rattle.smpl_patch.proofs.BodyLemmas.{bodies, dots_of, element-Atom, element-Compound, element-Block, element-Gap}
use Rattle.smpl_patch.proofs.BodyLemmas.{element-Nest, element-AnyOf, element-AllOf}
use Rattle.smpl_body.specs.declared.smpl_elem.form.Form.{Form}
use Rattle.smpl_body.specs.declared.smpl_elem.form.Form.TheVariants as form
use Rattle.smpl_body.specs.SmplElem.Forms.{form_of_token, form_of, form_in, form_at, kids, label_at, is_list_at, is_part}
use Rattle.smpl_body.specs.SmplElem.Forms.{before, after, first_kid, last_kid, id_in, id_at, is_more, masked}
use Rattle.smpl_body.specs.SmplElem.Elements.{Part, part, picked, total, seqs, pattern, made, atoms, elements}
use Rattle.smpl_body.proofs.SmplElem.PartLemmas.{kids-Leaf, kids-Branch}
use Rattle.smpl_body.proofs.SmplElem.CountLemmas.{atoms-row}
use Rattle.sound_laws.specs.SmplFormed.Shapes.{is_leaf_in, is_leaf, apart, unlisted, has_form, Formed, token, branch, AllFormed, none, more}
use Rattle.sound_laws.proofs.SmplFormed.SequenceLemmas.{right_true}
use Rattle.sound_laws.proofs.SmplFormed.KidLemmas.{tree_made, joined, all_picked, middle, butlast, inner_picked}

-- ---- how often a number occurs

abbrev pub one : Bool → ℕ
one true = 1
one false = 0

module _ (x : ℕ) where
  abbrev pub occurs : List Pattern → ℕ
  occurs [] = 0
  occurs (p ∷ ps) = one (nat_eq x p.atom) + occurs ps

  pub occurs_append : (ps qs : List Pattern) → occurs (ps ++ qs) ≡ occurs ps + occurs qs
  occurs_append [] qs = omega arith
  occurs_append (p ∷ ps) qs = omega (arith, occurs_append ps qs)

  -- of so many numbers from one on
  abbrev pub hits : (n k : ℕ) → ℕ
  hits n zero = 0
  hits n (suc k) = one (nat_eq x n) + hits (n + 1) k

  pub hits_split : (n a b : ℕ) → hits n (a + b) ≡ hits n a + hits (n + a) b
  hits_split n zero b =
      let e : zero + b ≡ b = omega arith in let m : n + zero ≡ n = omega arith in
      ap (hits n) e ∙ (ap (λ k. hits k b) (sym m) ∙ omega arith)
  hits_split n (suc a) b =
      let e : suc a + b ≡ suc (a + b) = omega arith in let m : n + 1 + a ≡ n + suc a = omega arith in
      let rest : hits (n + 1) (a + b) ≡ hits (n + 1) a + hits (n + suc a) b = hits_split (n + 1) a b ∙ ap (λ k. hits (n + 1) a + hits k b) m in
      ap (hits n) e ∙ omega (arith, rest)

  hits_past : (n k : ℕ) → x < n → hits n k ≡ 0
  hits_past n zero h = refl
  hits_past n (suc k) h =
      let off : nat_eq x n ≡ false = grind (arith, nat_tests) in
      let here : one (nat_eq x n) ≡ 0 = ap one off in
      omega (arith, here, hits_past (n + 1) k (omega (arith, h)))

  pub hits_once : (n k : ℕ) → hits n k ≤ 1
  hits_once n zero = omega arith
  hits_once n (suc k) = by (nat_eq x n) refl (hits_once (n + 1) k)
    where
      by : (b : Bool) → nat_eq x n ≡ b → hits (n + 1) k ≤ 1 → one b + hits (n + 1) k ≤ 1
      by true e h = let same : x ≡ n = grind (arith, nat_tests) in omega (arith, hits_past (n + 1) k (omega (arith, same)))
      by false e h = omega (arith, h)

  -- ---- patterns of code

  module _ (dots : ℕ → Dots) where
    abbrev pub behind : ℕ → ℕ
    behind id = occurs (patterns_bodies (dots_of (dots id)).whens)

    abbrev pub load : List Token → ℕ
    load [] = 0
    load (a ∷ ts) = behind a.id + load ts

    load_append : (us ts : List Token) → load (us ++ ts) ≡ load us + load ts
    load_append [] ts = omega arith
    load_append (a ∷ us) ts = omega (arith, load_append us ts)

    abbrev loads : List Tree → ℕ
    loads cs = load (join (map leaves cs))

    loads_more : (c : Tree) (cs : List Tree) → loads (c ∷ cs) ≡ load (leaves c) + loads cs
    loads_more c cs = load_append (leaves c) (join (map leaves cs))

    abbrev pub Light : Tree → Type 0
    Light t = (k : ℕ) → occurs (patterns_body (body (elements dots k t))) ≤ hits k (atoms t) + load (leaves t)

    abbrev AllLight : List Tree → Type 0
    AllLight [] = Unit {0}
    AllLight (c ∷ cs) = Light c × AllLight cs

    body_append : (xs ys : List Elem) → occurs (patterns_body (body (xs ++ ys))) ≡ occurs (patterns_body (body xs)) + occurs (patterns_body (body ys))
    body_append [] ys = omega arith
    body_append (e ∷ xs) ys =
        omega (
          arith,
          occurs_append (patterns_element (element e)) (patterns_body (body (xs ++ ys))),
          occurs_append (patterns_element (element e)) (patterns_body (body xs)),
          body_append xs ys,
        )

    joined_light : (f : Form) (l : Label) (n i k : ℕ) (cs : List Tree) → AllLight cs
        → occurs (patterns_body (body (joined dots k (picked f l n i (map part cs))))) ≤ hits k (total (picked f l n i (map part cs))) + loads cs
    joined_light f l n i k [] g = omega arith
    joined_light f l n i k (c ∷ cs) g = by (is_part f l n i (part c).tree) (λ j. joined_light f l n (i + 1) j cs g.1)
      where
        by : (b : Bool) → ((j : ℕ) → occurs (patterns_body (body (joined dots j (picked f l n (i + 1) (map part cs)))))
            ≤ hits j (total (picked f l n (i + 1) (map part cs))) + loads cs)
            → let ps = if b then part c ∷ picked f l n (i + 1) (map part cs) else picked f l n (i + 1) (map part cs) in
            occurs (patterns_body (body (joined dots k ps))) ≤ hits k (total ps) + loads (c ∷ cs)
        by true more' =
            let ps = picked f l n (i + 1) (map part cs) in
            omega (
              arith,
              body_append (elements dots k c) (joined dots (k + atoms c) ps),
              g.0 k,
              more' (k + atoms c),
              hits_split k (atoms c) (total ps),
              loads_more c cs,
            )
        by false more' = omega (arith, more' k, loads_more c cs)

    each_light : (f : Form) (l : Label) (n i k : ℕ) (cs : List Tree) → AllLight cs
        → occurs (patterns_bodies (bodies (seqs dots k (picked f l n i (map part cs))))) ≤ hits k (total (picked f l n i (map part cs))) + loads cs
    each_light f l n i k [] g = omega arith
    each_light f l n i k (c ∷ cs) g = by (is_part f l n i (part c).tree) (λ j. each_light f l n (i + 1) j cs g.1)
      where
        by : (b : Bool) → ((j : ℕ) → occurs (patterns_bodies (bodies (seqs dots j (picked f l n (i + 1) (map part cs)))))
            ≤ hits j (total (picked f l n (i + 1) (map part cs))) + loads cs)
            → let ps = if b then part c ∷ picked f l n (i + 1) (map part cs) else picked f l n (i + 1) (map part cs) in
            occurs (patterns_bodies (bodies (seqs dots k ps))) ≤ hits k (total ps) + loads (c ∷ cs)
        by true more' =
            let ps = picked f l n (i + 1) (map part cs) in
            omega (
              arith,
              occurs_append (patterns_body (body (elements dots k c))) (patterns_bodies (bodies (seqs dots (k + atoms c) ps))),
              g.0 k,
              more' (k + atoms c),
              hits_split k (atoms c) (total ps),
              loads_more c cs,
            )
        by false more' = omega (arith, more' k, loads_more c cs)

    -- ---- each form

    abbrev Needs : Form → Tree → List Tree → Type 0
    Needs form.Gap t cs = behind (id_at t) ≤ load (leaves t)
    Needs form.Nest t cs = behind (id_at (last_kid (kids t))) + loads (middle cs) ≤ load (leaves t)
    Needs _ t cs = loads cs ≤ load (leaves t)

    -- one element
    alone : (e : Elem) (d : Element) → element e ≡ d → occurs (patterns_body (body (e ∷ []))) ≡ occurs (patterns_element d)
    alone e d is = ap occurs (append-nil (patterns_element (element e))) ∙ ap (λ (y : Element). occurs (patterns_element y)) is

    first_hit : (k m : ℕ) → one (nat_eq x k) + hits (k + 1) m ≡ hits k (1 + m)
    first_hit k m = let e : 1 + m ≡ suc m = omega arith in sym (ap (hits k) e)

    made_light : (f : Form) (t : Tree) (l : Label) (cs : List Tree) → AllLight cs → Needs f t cs → (k : ℕ)
        → let ps = picked f l (length cs) 0 (map part cs) in
        occurs (patterns_body (body (made f dots t k (seqs dots (k + before f) ps) (k + before f + total ps))))
        ≤ hits k (before f + total ps + after f) + load (leaves t)
    made_light form.Gap t l cs g n k =
        omega (arith, alone (elem.Gap (dots (id_at t))) _ (element-Gap (dots (id_at t))), n)
    made_light form.Expression t l cs g n k =
        let ps = picked form.Expression l (length cs) 0 (map part cs) in
        let e : 1 + total ps + 0 ≡ 1 + total ps = omega arith in
        omega (arith, alone (elem.Atom (pattern k spot.Inside t)) _ (element-Atom (pattern k spot.Inside t)), first_hit k (total ps), ap (hits k) e)
    made_light form.Plain t l cs g n k =
        let ps = picked form.Plain l (length cs) 0 (map part cs) in
        let e : 1 + total ps + 0 ≡ 1 + total ps = omega arith in
        omega (arith, alone (elem.Atom (pattern k spot.Whole t)) _ (element-Atom (pattern k spot.Whole t)), first_hit k (total ps), ap (hits k) e)
    made_light form.List t l cs g n k =
        let ps = picked form.List l (length cs) 0 (map part cs) in
        let e : 0 + total ps + 0 ≡ total ps = omega arith in let m : k + 0 ≡ k = omega arith in
        omega (arith, joined_light form.List l (length cs) 0 (k + 0) cs g, ap (hits k) e, ap (λ j. hits j (total ps)) m, n)
    made_light form.Block t l cs g n k =
        let ps = picked form.Block l (length cs) 0 (map part cs) in
        let m = k + 1 + total ps in
        let o = pattern k spot.Whole (first_kid (kids t)) in let c = pattern m spot.Whole (last_kid (kids t)) in
        let b = joined dots (k + 1) ps in
        let e : 1 + total ps + 1 ≡ 1 + (total ps + 1) = omega arith in
        omega (
          arith,
          alone (elem.Block o b c) _ (element-Block o b c),
          occurs_append (patterns_body (body b)) (c ∷ []),
          joined_light form.Block l (length cs) 0 (k + 1) cs g,
          first_hit k (total ps + 1),
          hits_split (k + 1) (total ps) 1,
          ap (hits k) e,
          n,
        )
    made_light form.Nest t l cs g n k =
        let ps = picked form.Nest l (length cs) 0 (map part cs) in
        let d = dots (id_at (last_kid (kids t))) in
        let b = joined dots (k + 0) ps in
        let e : 0 + total ps + 0 ≡ total ps = omega arith in let m : k + 0 ≡ k = omega arith in
        omega (
          arith,
          alone (elem.Nest (is_more (first_kid (kids t))) b d) _ (element-Nest (is_more (first_kid (kids t))) b d),
          occurs_append (patterns_body (body b)) (patterns_bodies (dots_of d).whens),
          nest_light l cs (k + 0) g,
          ap (hits k) e,
          ap (λ j. hits j (total ps)) m,
          n,
        )
      where
        light_butlast : (ds : List Tree) → AllLight ds → AllLight (butlast ds)
        light_butlast [] h = tt
        light_butlast (d ∷ []) h = tt
        light_butlast (d ∷ e ∷ ds) h = (h.0, light_butlast (e ∷ ds) h.1)

        light_middle : (ds : List Tree) → AllLight ds → AllLight (middle ds)
        light_middle [] h = tt
        light_middle (d ∷ ds) h = light_butlast ds h.1

        nest_light : (m : Label) (ds : List Tree) (j : ℕ) → AllLight ds → let ps = picked form.Nest m (length ds) 0 (map part ds) in
            occurs (patterns_body (body (joined dots j ps))) ≤ hits j (total ps) + loads (middle ds)
        nest_light m ds j h =
            let mid = middle ds in
            let same : picked form.Nest m (length ds) 0 (map part ds) ≡ picked form.List m (length mid) 0 (map part mid) =
            inner_picked form.Nest (λ a b c d. refl) m ds ∙ sym (all_picked m (length mid) 0 (map part mid)) in
            subst (λ (ps : List Part). occurs (patterns_body (body (joined dots j ps))) ≤ hits j (total ps) + loads mid)
            (sym same) (joined_light form.List m (length mid) 0 j mid (light_middle ds h))
    made_light form.AnyOf t l cs g n k =
        let ps = picked form.AnyOf l (length cs) 0 (map part cs) in
        let bs = seqs dots (k + 0) ps in
        let e : 0 + total ps + 0 ≡ total ps = omega arith in let m : k + 0 ≡ k = omega arith in
        omega (
          arith,
          alone (elem.AnyOf bs) _ (element-AnyOf bs),
          each_light form.AnyOf l (length cs) 0 (k + 0) cs g,
          ap (hits k) e,
          ap (λ j. hits j (total ps)) m,
          n,
        )
    made_light form.AllOf t l cs g n k =
        let ps = picked form.AllOf l (length cs) 0 (map part cs) in
        let bs = seqs dots (k + 0) ps in
        let e : 0 + total ps + 0 ≡ total ps = omega arith in let m : k + 0 ≡ k = omega arith in
        omega (
          arith,
          alone (elem.AllOf bs) _ (element-AllOf bs),
          each_light form.AllOf l (length cs) 0 (k + 0) cs g,
          ap (hits k) e,
          ap (λ j. hits j (total ps)) m,
          n,
        )
    made_light form.Head t l cs g n k =
        let ps = picked form.Head l (length cs) 0 (map part cs) in
        let bs = seqs dots (k + 1) ps in
        let h = pattern k spot.Whole (masked spot.Whole t) in
        let none' : Option Pattern = None in
        let e : 1 + total ps + 0 ≡ 1 + total ps = omega arith in
        omega (
          arith,
          alone (elem.Compound h bs none') _ (element-Compound h bs none'),
          occurs_append (patterns_bodies (bodies bs)) (option_patterns none'),
          each_light form.Head l (length cs) 0 (k + 1) cs g,
          first_hit k (total ps),
          ap (hits k) e,
          n,
        )
    made_light form.Do t l cs g n k =
        let ps = picked form.Do l (length cs) 0 (map part cs) in
        let m = k + 1 + total ps in
        let bs = seqs dots (k + 1) ps in
        let h = pattern k spot.Whole (masked spot.Whole t) in
        let tail = pattern m spot.Tail (masked spot.Tail t) in
        let e : 1 + total ps + 1 ≡ 1 + (total ps + 1) = omega arith in
        omega (
          arith,
          alone (elem.Compound h bs (Some tail)) _ (element-Compound h bs (Some tail)),
          occurs_append (patterns_bodies (bodies bs)) (option_patterns (Some tail)),
          each_light form.Do l (length cs) 0 (k + 1) cs g,
          first_hit k (total ps + 1),
          hits_split (k + 1) (total ps) 1,
          ap (hits k) e,
          n,
        )

    -- ---- trees

    leaf_load : (t : Tree) → is_leaf t ≡ true → load (leaves t) ≡ behind (id_at t)
    leaf_load = tree_cases (λ t. is_leaf t ≡ true → load (leaves t) ≡ behind (id_at t))
        (λ a h. let zero' : behind a.id + 0 ≡ behind a.id = omega arith in ap load (leaves-Leaf a) ∙ (zero' ∙ ap behind (sym (ap id_in (out-Leaf a)))))
        (λ l cs h. absurd (false≢true (sym (ap is_leaf_in (out-Branch l cs)) ∙ h)))

    last_load : (c : Tree) (cs : List Tree) → loads (butlast (c ∷ cs)) + load (leaves (last_kid (c ∷ cs))) ≤ loads (c ∷ cs)
    last_load c [] = omega (arith, loads_more c [])
    last_load c (d ∷ cs) = omega (arith, loads_more c (butlast (d ∷ cs)), loads_more c (d ∷ cs), last_load d cs)

    nest_load : (cs : List Tree) → is_leaf (last_kid cs) ≡ true → behind (id_at (last_kid cs)) + loads (middle cs) ≤ loads cs
    nest_load [] h = absurd (false≢true (sym (ap is_leaf_in (out-Branch label.StmtList [])) ∙ h))
    nest_load (c ∷ []) h = omega (arith, leaf_load c h, loads_more c [])
    nest_load (c ∷ d ∷ cs) h = omega (arith, leaf_load (last_kid (d ∷ cs)) h, loads_more c (d ∷ cs), last_load d cs)

    choice_needs : (b : Bool) (t : Tree) (cs : List Tree) → loads cs ≤ load (leaves t)
        → Needs (if b then form.AnyOf else form.Expression) t cs × Needs (if b then form.AllOf else form.Expression) t cs
    choice_needs true t cs h = (h, h)
    choice_needs false t cs h = (h, h)

    label_needs : (l : Label) (t : Tree) (cs : List Tree) → has_form l cs ≡ true → kids t ≡ cs → loads cs ≤ load (leaves t) → Needs (form_of l cs) t cs
    label_needs label.PatOr t cs f e h = (choice_needs (is_list_at (slice_get cs 1)) t cs h).0
    label_needs label.PatAnd t cs f e h = (choice_needs (is_list_at (slice_get cs 1)) t cs h).1
    label_needs label.PatNest t cs f e h =
        let last : is_leaf (last_kid cs) ≡ true =
        right_true (is_leaf (first_kid cs)) (is_leaf (last_kid cs)) (right_true (apart cs) _ (right_true (unlisted cs) _ f)) in
        let same : behind (id_at (last_kid (kids t))) ≡ behind (id_at (last_kid cs)) = ap (λ (ks : List Tree). behind (id_at (last_kid ks))) e in
        omega (arith, nest_load cs last, same, h)
    label_needs _ t cs f e h = h

    abbrev is_token_form : Form → Bool
    is_token_form form.Gap = true
    is_token_form form.Expression = true
    is_token_form form.Plain = true
    is_token_form _ = false

    token_form : (q : TokenKind) → is_token_form (form_of_token q) ≡ true
    token_form (token_kind.Meta meta.Stmt) = refl
    token_form token_kind.Dots = refl
    token_form _ = refl

    token_needs : (f : Form) (t : Tree) → is_token_form f ≡ true → behind (id_at t) ≤ load (leaves t) → Needs f t []
    token_needs form.Gap t e h = h
    token_needs form.Expression t e h = omega arith
    token_needs form.Plain t e h = omega arith
    token_needs _ t e h = absurd (false≢true e)

    needs_as : (f g : Form) (t : Tree) (ks cs : List Tree) → f ≡ g → ks ≡ cs → Needs g t cs → Needs f t ks
    needs_as f g t ks cs ef ek n = subst (λ (h : Form). Needs h t ks) (sym ef) (subst (λ (ds : List Tree). Needs g t ds) (sym ek) n)

    light_row : (t : Tree) → AllLight (kids t) → Needs (form_at t) t (kids t) → Light t
    light_row t g n k =
        omega (
          arith,
          ap (λ (es : List Elem). occurs (patterns_body (body es))) (tree_made dots t (form_at t) (label_at t) (kids t) k refl refl refl),
          ap (hits k) (atoms-row t),
          made_light (form_at t) t (label_at t) (kids t) g n k,
        )

    mutual
      pub tree_light : {most : ℕ} {t : Tree} → Formed most t → Light t
      tree_light (token a) =
          let t = Leaf a in
          let here : behind (id_at t) ≤ load (leaves t) = omega (arith, leaf_load t (ap is_leaf_in (out-Leaf a))) in
          light_row t (subst (λ (ks : List Tree). AllLight ks) (sym (kids-Leaf a)) tt)
          (needs_as (form_at t) (form_of_token a.kind) t (kids t) [] (ap form_in (out-Leaf a)) (kids-Leaf a)
          (token_needs (form_of_token a.kind) t (token_form a.kind) here))
      tree_light (branch l cs f le all) =
          let t = Branch l cs in
          let whole : loads cs ≤ load (leaves t) = omega (arith, ap load (leaves-Branch l cs)) in
          light_row t (subst (λ (ks : List Tree). AllLight ks) (sym (kids-Branch l cs)) (all_light all))
          (needs_as (form_at t) (form_of l cs) t (kids t) cs (ap form_in (out-Branch l cs)) (kids-Branch l cs) (label_needs l t cs f (kids-Branch l cs) whole))

      all_light : {most : ℕ} {cs : List Tree} → AllFormed most cs → AllLight cs
      all_light none = tt
      all_light (more c cs one' rest) = (tree_light one', all_light rest)

-- ---- numbers that occur once

abbrev Once : List Pattern → Type 0
Once ps = (x : ℕ) → occurs x ps ≤ 1

none_like : (n : ℕ) (ps : List Pattern) → occurs n ps ≡ 0 → list_any (λ (q : Pattern). nat_eq n q.atom) ps ≡ false
none_like n [] e = refl
none_like n (p ∷ ps) e = by (nat_eq n p.atom) refl (none_like n ps)
  where
    by : (b : Bool) → nat_eq n p.atom ≡ b → (occurs n ps ≡ 0 → list_any (λ (q : Pattern). nat_eq n q.atom) ps ≡ false)
        → (b || list_any (λ (q : Pattern). nat_eq n q.atom) ps) ≡ false
    by true is rest = let here : one (nat_eq n p.atom) ≡ 1 = ap one is in absurd (omega (arith, here, e))
    by false is rest = let here : one (nat_eq n p.atom) ≡ 0 = ap one is in rest (omega (arith, here, e))

pub all_differ : (ps : List Pattern) → Once ps → none_alike (λ (p q : Pattern). nat_eq p.atom q.atom) ps ≡ true
all_differ [] h = refl
all_differ (p ∷ ps) h =
    let same : nat_eq p.atom p.atom ≡ true = grind (arith, nat_tests) in
    let here : one (nat_eq p.atom p.atom) ≡ 1 = ap one same in
    let gone : occurs p.atom ps ≡ 0 = omega (arith, here, h p.atom) in
    let off = none_like p.atom ps gone in
    (λ i. not (off i) && all_differ ps (λ x. omega (arith, h x)) i)
