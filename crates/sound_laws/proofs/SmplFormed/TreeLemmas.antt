-- The elements of a tree that has its form, with no dots and no nest at either end, are fine.
-- Proof: by induction on the tree.
use Rattle.std.proofs.Common.{◌≡◌, ℕ, suc, ◌+◌, ◌<◌, ◌≤◌, refl, sym, ap, ◌∙◌, subst, arith, List, [], ◌∷◌, ◌++◌, map, length, Some, None, slice_get}
use Rattle.std.proofs.lemmas.Bool.{false≢true}
use Rattle.std.proofs.lemmas.Bool.Decides.{nat_tests}
use Rattle.std.specs.Prelude.{Bool, true, false, not, ◌&&◌, nat_le, if◌then◌else◌}
use Rattle.std.specs.List.{list_all}
use Rattle.std.proofs.lemmas.List.{length-map}
use Rattle.c_terms.specs.declared.token.Token.{Token}
use Rattle.c_terms.specs.declared.token.TokenKind.{TokenKind}
use Rattle.c_terms.specs.declared.token.TokenKind.TheVariants as token_kind
use Rattle.c_terms.specs.declared.token.MetaKind.TheVariants as meta
use Rattle.c_terms.specs.declared.label.Label.{Label}
use Rattle.c_terms.specs.declared.label.Label.TheVariants as label
use Rattle.c_terms.specs.declared.tree.Tree.{Tree}
use Rattle.c_terms.specs.declared.tree.Tree.TheOpen.{Tree-F}
use Rattle.c_terms.specs.declared.tree.Tree.TheVariants.{Leaf, Branch}
use Rattle.c_terms.specs.Trees.{leaves, join}
use Rattle.c_terms.proofs.SameLemmas.{out-Leaf, out-Branch}
use Rattle.c_terms.proofs.TreeLemmas.{leaves-Leaf, leaves-Branch}
use Rattle.smpl_patch.specs.declared.pattern.Spot.{Spot}
use Rattle.smpl_patch.specs.declared.pattern.Spot.TheVariants as spot
use Rattle.smpl_patch.specs.Held.{is_held}
use Rattle.smpl_patch.specs.declared.elem.Dots.{Dots}
use Rattle.smpl_patch.specs.declared.elem.Elem.{Elem}
use Rattle.smpl_patch.specs.Bodies.{body}
use Rattle.smpl_patch.specs.Shapes.{begins_with_dots, ends_with_dots}
use Rattle.smpl_body.specs.declared.smpl_elem.form.Form.{Form}
use Rattle.smpl_body.specs.declared.smpl_elem.form.Form.TheVariants as form
use Rattle.smpl_body.specs.SmplElem.Forms.{is_list_label, is_list, is_list_in, is_list_at, form_of_token, form_of, form_in}
use Rattle.smpl_body.specs.SmplElem.Forms.{form_at, kids, label_in, label_at, is_part, before, nothing, first_kid, last_kid}
use Rattle.smpl_body.specs.SmplElem.Forms.{id_at, is_more, child_or, masked_from, masked_in, masked}
use Rattle.smpl_body.specs.SmplElem.Elements.{Part, part, picked, total, seqs, pattern, made, atoms, elements}
use Rattle.smpl_body.proofs.SmplElem.PartLemmas.{kids-Leaf, kids-Branch}
use Rattle.smpl_body.specs.DotsOf.{gap, ends, statements_in, statements, branch_ends, body_ends, inner, own_ends}
use Rattle.smpl_body.proofs.EdgeLemmas.{edges_in, edges-Branch}
use Rattle.sound_laws.specs.SmplFormed.Shapes.{is_dots_tree, begins, finishes, apart, unlisted, undotted, lists, has_branch}
use Rattle.sound_laws.specs.SmplFormed.Shapes.{is_choice, is_firm, has_form, Formed, token, branch, AllFormed, none, more}
use Rattle.sound_laws.specs.SmplFormed.Shapes.{Sound, sound_token, sound_branch, AllSound, no_more, one_more}
use Rattle.sound_laws.proofs.SmplFormed.SequenceLemmas.{and_both, left_true, right_true, not_true, not_false, all_front}
use Rattle.sound_laws.proofs.SmplFormed.SequenceLemmas.{all_back, Good, AllFine, fine_append, Whole, AllWhole, GoodDots}
use Rattle.sound_laws.proofs.SmplFormed.SequenceLemmas.{fine_atom, fine_gap, fine_block, fine_nest, fine_any, fine_all}
use Rattle.sound_laws.proofs.SmplFormed.SequenceLemmas.{fine_head}
use Rattle.sound_laws.proofs.SmplFormed.KidLemmas.{Single, Follow, tree_single, tree_made, joined, all_follow, all_picked}
use Rattle.sound_laws.proofs.SmplFormed.KidLemmas.{IsInner, middle, inner_picked, inner_middle, unlisted_middle, apart_middle}
use Rattle.sound_laws.proofs.SmplFormed.KidLemmas.{middle_short, picked_short, lists_picked, seqs_long, gap_undotted}
use Rattle.sound_laws.proofs.SmplFormed.KidLemmas.{front_empty, back_empty, ends_undotted, formed_middle, no_statements}

-- ---- sound trees

has_firm : (l : Label) (cs : List Tree) → has_form l cs ≡ true → is_firm l cs ≡ true
has_firm label.PatOr cs h = left_true (has_branch cs) (if is_list_at (slice_get cs 1) then nat_le 2 (lists cs) && undotted cs else true) h
has_firm _ cs h = refl

module _ (ok : Token → Bool) (most : ℕ) where
  mutual
    pub sound_of : {t : Tree} → Formed most t → list_all ok (leaves t) ≡ true → Sound ok most t
    sound_of (token a) h = sound_token a (left_true (ok a) true (sym (ap (list_all ok) (leaves-Leaf a)) ∙ h))
    sound_of (branch l cs f le all) h = sound_branch l cs (has_firm l cs f) le (all_sound all (sym (ap (list_all ok) (leaves-Branch l cs)) ∙ h))

    all_sound : {cs : List Tree} → AllFormed most cs → list_all ok (join (map leaves cs)) ≡ true → AllSound ok most cs
    all_sound none h = no_more
    all_sound (more c cs one rest) h = one_more c cs (sound_of one (all_front ok (leaves c) (join (map leaves cs)) h))
        (all_sound rest (all_back ok (leaves c) (join (map leaves cs)) h))

  pub sound_nothing : Sound ok most nothing
  sound_nothing = sound_branch label.StmtList [] refl (omega arith) no_more

  sound_first : {cs : List Tree} → AllSound ok most cs → Sound ok most (first_kid cs)
  sound_first no_more = sound_nothing
  sound_first (one_more c cs one rest) = one

  sound_last : {cs : List Tree} → AllSound ok most cs → Sound ok most (last_kid cs)
  sound_last no_more = sound_nothing
  sound_last (one_more c _ one no_more) = one
  sound_last (one_more c _ one (one_more d cs two rest)) = sound_last (one_more d cs two rest)

  sound_or : (b : Bool) (t : Tree) → Sound ok most t → Sound ok most (child_or b t)
  sound_or true t s = s
  sound_or false t s = sound_nothing

  masked_sound : (own : ℕ → Bool) (i : ℕ) {cs : List Tree} → AllSound ok most cs → AllSound ok most (masked_from own i cs)
  masked_sound own i no_more = no_more
  masked_sound own i (one_more c cs one rest) =
      one_more (child_or (own i) c) (masked_from own (i + 1) cs) (sound_or (own i) c one) (masked_sound own (i + 1) rest)

  masked_long : (own : ℕ → Bool) (i : ℕ) (cs : List Tree) → length (masked_from own i cs) ≡ length cs
  masked_long own i [] = refl
  masked_long own i (c ∷ cs) = ap suc (masked_long own (i + 1) cs)

  -- ---- a form and what it needs of the children of its label

  abbrev Needs : Form → List Tree → Type 0
  Needs form.Gap cs = Unit {0}
  Needs form.Expression cs = Unit {0}
  Needs form.Plain cs = Unit {0}
  Needs form.List cs = Unit {0}
  Needs form.Block cs = (unlisted cs ≡ true) × (apart cs ≡ true)
  Needs form.Nest cs = (unlisted cs ≡ true) × ((apart cs ≡ true) × (ends (inner cs) ≡ []))
  Needs form.AnyOf cs = (2 ≤ lists cs) × ((undotted cs ≡ true) × (branch_ends cs ≡ []))
  Needs form.AllOf cs = (2 ≤ lists cs) × ((undotted cs ≡ true) × (branch_ends cs ≡ []))
  Needs form.Head cs = (unlisted cs ≡ true) × (body_ends cs ≡ [])
  Needs form.Do cs = (unlisted cs ≡ true) × (body_ends cs ≡ [])

  at_least : (n : ℕ) → nat_le 2 n ≡ true → 2 ≤ n
  at_least n h = grind (arith, nat_tests)

  choice_needs : (b : Bool) (cs : List Tree) → (if b then nat_le 2 (lists cs) && undotted cs else true) ≡ true → branch_ends cs ≡ []
      → Needs (if b then form.AnyOf else form.Expression) cs × Needs (if b then form.AllOf else form.Expression) cs
  choice_needs true cs h e =
      let n = at_least (lists cs) (left_true (nat_le 2 (lists cs)) (undotted cs) h) in
      let u = right_true (nat_le 2 (lists cs)) (undotted cs) h in
      ((n, (u, e)), (n, (u, e)))
  choice_needs false cs h e = (tt, tt)

  choice_rest : (cs : List Tree) → is_choice cs ≡ true → (if is_list_at (slice_get cs 1) then nat_le 2 (lists cs) && undotted cs else true) ≡ true
  choice_rest cs h = right_true (has_branch cs) (if is_list_at (slice_get cs 1) then nat_le 2 (lists cs) && undotted cs else true) h

  label_needs : (l : Label) (cs : List Tree) → has_form l cs ≡ true → own_ends l cs ≡ [] → Needs (form_of l cs) cs
  label_needs label.PatOr cs h e = (choice_needs (is_list_at (slice_get cs 1)) cs (choice_rest cs h) e).0
  label_needs label.PatAnd cs h e = (choice_needs (is_list_at (slice_get cs 1)) cs (choice_rest cs h) e).1
  label_needs label.PatNest cs h e = (left_true (unlisted cs) _ h, (left_true (apart cs) _ (right_true (unlisted cs) _ h), e))
  label_needs label.Block cs h e = (left_true (unlisted cs) (apart cs) h, right_true (unlisted cs) (apart cs) h)
  label_needs label.If cs h e = (h, e)
  label_needs label.IfElse cs h e = (h, e)
  label_needs label.While cs h e = (h, e)
  label_needs label.Do cs h e = (h, e)
  label_needs label.For cs h e = (h, e)
  label_needs label.ForDecl cs h e = (h, e)
  label_needs label.Switch cs h e = (h, e)
  label_needs label.Iterator cs h e = (h, e)
  label_needs label.FunDef cs h e = (h, e)
  label_needs label.MacroFun cs h e = (h, e)
  label_needs _ cs h e = tt

  token_needs : (k : TokenKind) (cs : List Tree) → Needs (form_of_token k) cs
  token_needs (token_kind.Meta meta.Stmt) cs = tt
  token_needs token_kind.Dots cs = tt
  token_needs _ cs = tt

  abbrev is_compound : Form → Bool
  is_compound form.Head = true
  is_compound form.Do = true
  is_compound _ = false

  choice_no : (b : Bool) → is_compound (if b then form.AnyOf else form.Expression) ≡ true → ⊥
  choice_no true h = false≢true h
  choice_no false h = false≢true h

  compound_firm : (l : Label) (cs ds : List Tree) → is_compound (form_of l cs) ≡ true → is_firm l ds ≡ true
  compound_firm label.PatOr cs ds h = absurd (choice_no (is_list_at (slice_get cs 1)) h)
  compound_firm _ cs ds h = refl

  -- ---- children

  module _ (dots : ℕ → Dots) where
    abbrev pub FineTree : Tree → Type 0
    FineTree t = (k : ℕ) → AllFine ok most (elements dots k t)

    abbrev AllFineTree : List Tree → Type 0
    AllFineTree [] = Unit {0}
    AllFineTree (c ∷ cs) = FineTree c × AllFineTree cs

    abbrev WholeTree : Tree → Type 0
    WholeTree t = (k : ℕ) → Whole ok most (elements dots k t)

    abbrev AllWholeTree : List Tree → Type 0
    AllWholeTree [] = Unit {0}
    AllWholeTree (c ∷ cs) = WholeTree c × AllWholeTree cs

    joined_fine : (f : Form) (l : Label) (n i k : ℕ) (cs : List Tree) → AllFineTree cs → AllFine ok most (joined dots k (picked f l n i (map part cs)))
    joined_fine f l n i k [] g = tt
    joined_fine f l n i k (c ∷ cs) g = by (is_part f l n i (part c).tree) (λ j. joined_fine f l n (i + 1) j cs g.1)
      where
        by : (b : Bool) → ((j : ℕ) → AllFine ok most (joined dots j (picked f l n (i + 1) (map part cs))))
            → AllFine ok most (joined dots k (if b then part c ∷ picked f l n (i + 1) (map part cs) else picked f l n (i + 1) (map part cs)))
        by true r = fine_append ok most (elements dots k c) (joined dots (k + atoms c) (picked f l n (i + 1) (map part cs))) (g.0 k) (r (k + atoms c))
        by false r = r k

    each_whole : (f : Form) (l : Label) (n i k : ℕ) (cs : List Tree) → AllWholeTree cs → AllWhole ok most (seqs dots k (picked f l n i (map part cs)))
    each_whole f l n i k [] g = tt
    each_whole f l n i k (c ∷ cs) g = by (is_part f l n i (part c).tree) (λ j. each_whole f l n (i + 1) j cs g.1)
      where
        by : (b : Bool) → ((j : ℕ) → AllWhole ok most (seqs dots j (picked f l n (i + 1) (map part cs))))
            → AllWhole ok most (seqs dots k (if b then part c ∷ picked f l n (i + 1) (map part cs) else picked f l n (i + 1) (map part cs)))
        by true r = (g.0 k, r (k + atoms c))
        by false r = r k

    -- ---- sequences

    no_edge : (a b : Bool) → a ≡ false → b ≡ false → (not a && not b) ≡ true
    no_edge a b h g = and_both (not a) (not b) (not_false a h) (not_false b g)

    -- statements, none of which is dots or a nest at an edge
    follow_whole : (es : List Elem) (cs : List Tree) → most < 4294967296 → length cs ≤ most → AllFine ok most es
        → Follow dots es cs → begins cs ≡ false → finishes cs ≡ false → apart cs ≡ true → Whole ok most es
    follow_whole es cs s le f w b e a = record {
      fine = f;
      edges = no_edge (begins_with_dots (body es)) (ends_with_dots (body es)) (w.first ∙ b) (w.last ∙ e);
      parted = w.parted ∙ a;
      short = omega (arith, w.long, le, s);
    }

    one_parted : (a : Bool) → a ≡ false → (not (a && false) && true) ≡ true
    one_parted true h = absurd (false≢true (sym h))
    one_parted false h = refl

    single_whole : (es : List Elem) (b : Bool) → AllFine ok most es → Single es b → b ≡ false → Whole ok most es
    single_whole es b f s e =
        let off = s.is ∙ e in
        subst (λ (xs : List Elem). Whole ok most xs) (sym s.are) (record {
          fine = subst (λ (xs : List Elem). AllFine ok most xs) s.are f;
          edges = no_edge _ _ off off;
          parted = one_parted _ off;
          short = omega arith;
        })

    list_only : (l : Label) → is_list_label l ≡ true → l ≡ label.StmtList
    list_only label.StmtList h = refl
    list_only _ h = absurd (false≢true h)

    -- the sequence of a list of statements
    list_whole : (cs : List Tree) → most < 4294967296 → (unlisted cs && apart cs) ≡ true → length cs ≤ most → AllFormed most cs
        → FineTree (Branch label.StmtList cs) → ends cs ≡ [] → WholeTree (Branch label.StmtList cs)
    list_whole cs s h le all f e k =
        let t = Branch label.StmtList cs in
        let seq = joined dots (k + 0) (map part cs) in
        let same : elements dots k t ≡ seq =
        tree_made dots t form.List label.StmtList cs k (ap form_in (out-Branch label.StmtList cs))
        (ap label_in (out-Branch label.StmtList cs)) (kids-Branch label.StmtList cs)
        ∙ ap (λ (qs : List Part). joined dots (k + 0) qs) (all_picked label.StmtList (length cs) 0 (map part cs))
        in
        let edge = ends_undotted all e in
        subst (λ (es : List Elem). Whole ok most es) (sym same)
        (follow_whole seq cs s le (subst (λ (es : List Elem). AllFine ok most es) same (f k))
        (all_follow dots cs (k + 0) (left_true (unlisted cs) (apart cs) h)) edge.0 edge.1 (right_true (unlisted cs) (apart cs) h))

    -- a tree by itself, which is neither dots nor a nest, or has none of them at an edge
    pub tree_whole : {t : Tree} → most < 4294967296 → Formed most t → FineTree t → ends (statements t) ≡ []
        → (is_list t ≡ false → is_dots_tree t ≡ false) → WholeTree t
    tree_whole s (token a) f e d =
        let off : is_list (Leaf a) ≡ false = ap is_list_in (out-Leaf a) in
        λ k. single_whole (elements dots k (Leaf a)) (is_dots_tree (Leaf a)) (f k) (tree_single dots (Leaf a) k off) (d off)
    tree_whole s (branch l cs h le all) f e d = by (is_list_label l) refl
      where
        by : (b : Bool) → is_list_label l ≡ b → WholeTree (Branch l cs)
        by true is =
            let same = list_only l is in
            let e' : ends cs ≡ [] = sym (ap (λ (o : Tree-F Tree). ends (statements_in o)) (out-Branch label.StmtList cs))
            ∙ (ap (λ (m : Label). ends (statements (Branch m cs))) (sym same) ∙ e) in
            subst (λ (m : Label). WholeTree (Branch m cs)) (sym same)
            (list_whole cs s (subst (λ (m : Label). has_form m cs ≡ true) same h) le all (subst (λ (m : Label). FineTree (Branch m cs)) same f) e')
        by false is =
            let off : is_list (Branch l cs) ≡ false = ap is_list_in (out-Branch l cs) ∙ is in
            λ k. single_whole (elements dots k (Branch l cs)) (is_dots_tree (Branch l cs)) (f k) (tree_single dots (Branch l cs) k off) (d off)

    -- ---- each form

    choice_whole : {cs : List Tree} → most < 4294967296 → AllFormed most cs → AllFineTree cs → undotted cs ≡ true → branch_ends cs ≡ [] → AllWholeTree cs
    choice_whole s none g u e = tt
    choice_whole s (more c cs one rest) g u e = (
      tree_whole s one g.0 (front_empty (ends (statements c)) (branch_ends cs) e)
          (λ n. not_true (is_dots_tree c) (left_true (not (is_dots_tree c)) (undotted cs) u)),
      choice_whole s rest g.1 (right_true (not (is_dots_tree c)) (undotted cs) u) (back_empty (ends (statements c)) (branch_ends cs) e),
    )

    head_whole : {cs : List Tree} → most < 4294967296 → AllFormed most cs → AllFineTree cs → unlisted cs ≡ true → body_ends cs ≡ [] → AllWholeTree cs
    head_whole s none g u e = tt
    head_whole s (more c cs one rest) g u e = (
      tree_whole s one g.0 (ap ends (no_statements c (not_true (is_list c) (left_true (not (is_list c)) (unlisted cs) u))))
          (λ n. gap_undotted one (front_empty (gap c) (body_ends cs) e)),
      head_whole s rest g.1 (right_true (not (is_list c)) (unlisted cs) u) (back_empty (gap c) (body_ends cs) e),
    )

    module _ (s : most < 4294967296) (good : (id : ℕ) → GoodDots ok most (dots id)) where
      good_form : (n : ℕ) (p : Spot) (t : Tree) → Sound ok most t → Good ok most (pattern n p t)
      good_form n p t h = record { form = t; are = refl; sound = h }

      parts_short : (f : Form) (l : Label) (cs : List Tree) (k : ℕ) → length cs ≤ most
          → length (seqs dots k (picked f l (length cs) 0 (map part cs))) < 4294967296
      parts_short f l cs k le =
          omega (arith, s, le, seqs_long dots k (picked f l (length cs) 0 (map part cs)), picked_short f l (length cs) 0 (map part cs), length-map cs part)

      middle_follow : (f : Form) → IsInner f → (l : Label) (cs : List Tree) (k : ℕ) → unlisted cs ≡ true
          → Follow dots (joined dots k (picked f l (length cs) 0 (map part cs))) (middle cs)
      middle_follow f h l cs k u =
          subst (λ (ps : List Part). Follow dots (joined dots k ps) (middle cs)) (sym (inner_picked f h l cs))
          (all_follow dots (middle cs) k (unlisted_middle cs u))

      choice_two : (f : Form) → ((m : Label) (n i : ℕ) (c : Tree) → is_part f m n i c ≡ is_list c) → (l : Label) (cs : List Tree) (k : ℕ) → 2 ≤ lists cs
          → 2 ≤ length (seqs dots k (picked f l (length cs) 0 (map part cs)))
      choice_two f h l cs k two = omega (arith, two, seqs_long dots k (picked f l (length cs) 0 (map part cs)), lists_picked f h l (length cs) 0 cs)

      made_fine : (f : Form) (t : Tree) (l : Label) (cs : List Tree) → Sound ok most t
          → ((p : Spot) → is_compound f ≡ true → Sound ok most (masked p t)) → AllSound ok most (kids t)
          → length cs ≤ most → AllFormed most cs → AllFineTree cs → Needs f cs → (k a m : ℕ)
          → AllFine ok most (made f dots t k (seqs dots a (picked f l (length cs) 0 (map part cs))) m)
      made_fine form.Gap t l cs st sm sk le all g n k a m = (fine_gap ok most (dots (id_at t)) (good (id_at t)), tt)
      made_fine form.Expression t l cs st sm sk le all g n k a m = (fine_atom ok most (pattern k spot.Inside t) (good_form k spot.Inside t st), tt)
      made_fine form.Plain t l cs st sm sk le all g n k a m = (fine_atom ok most (pattern k spot.Whole t) (good_form k spot.Whole t st), tt)
      made_fine form.List t l cs st sm sk le all g n k a m = joined_fine form.List l (length cs) 0 a cs g
      made_fine form.Block t l cs st sm sk le all g n k a m =
          let b = joined dots a (picked form.Block l (length cs) 0 (map part cs)) in
          let w = middle_follow form.Block (λ m n i c. refl) l cs a n.0 in (
            fine_block ok most (pattern k spot.Whole (first_kid (kids t))) (pattern m spot.Whole (last_kid (kids t))) b
                (good_form k spot.Whole (first_kid (kids t)) (sound_first sk)) (good_form m spot.Whole (last_kid (kids t)) (sound_last sk))
                (joined_fine form.Block l (length cs) 0 a cs g) (w.parted ∙ apart_middle cs n.1) (omega (arith, s, le, w.long, middle_short cs)),
            tt,
          )
      made_fine form.Nest t l cs st sm sk le all g n k a m =
          let b = joined dots a (picked form.Nest l (length cs) 0 (map part cs)) in
          let w = middle_follow form.Nest (λ m n i c. refl) l cs a n.0 in
          let edge = ends_undotted (formed_middle all) (sym (ap ends (inner_middle cs)) ∙ n.1.1) in (
            fine_nest ok most (is_more (first_kid (kids t))) b (dots (id_at (last_kid (kids t))))
                (follow_whole b (middle cs) s (omega (arith, le, middle_short cs))
                (joined_fine form.Nest l (length cs) 0 a cs g) w edge.0 edge.1 (apart_middle cs n.1.0))
                (good (id_at (last_kid (kids t)))),
            tt,
          )
      made_fine form.AnyOf t l cs st sm sk le all g n k a m = (
        fine_any ok most (seqs dots a (picked form.AnyOf l (length cs) 0 (map part cs)))
            (each_whole form.AnyOf l (length cs) 0 a cs (choice_whole s all g n.1.0 n.1.1))
            (choice_two form.AnyOf (λ m n i c. refl) l cs a n.0) (parts_short form.AnyOf l cs a le),
        tt,
      )
      made_fine form.AllOf t l cs st sm sk le all g n k a m = (
        fine_all ok most (seqs dots a (picked form.AllOf l (length cs) 0 (map part cs)))
            (each_whole form.AllOf l (length cs) 0 a cs (choice_whole s all g n.1.0 n.1.1))
            (choice_two form.AllOf (λ m n i c. refl) l cs a n.0) (parts_short form.AllOf l cs a le),
        tt,
      )
      made_fine form.Head t l cs st sm sk le all g n k a m = (
        fine_head ok most (pattern k spot.Whole (masked spot.Whole t)) (seqs dots a (picked form.Head l (length cs) 0 (map part cs))) None
            (good_form k spot.Whole (masked spot.Whole t) (sm spot.Whole refl))
            (each_whole form.Head l (length cs) 0 a cs (head_whole s all g n.0 n.1)) tt (parts_short form.Head l cs a le),
        tt,
      )
      made_fine form.Do t l cs st sm sk le all g n k a m = (
        fine_head ok most (pattern k spot.Whole (masked spot.Whole t))
            (seqs dots a (picked form.Do l (length cs) 0 (map part cs))) (Some (pattern m spot.Tail (masked spot.Tail t)))
            (good_form k spot.Whole (masked spot.Whole t) (sm spot.Whole refl)) (each_whole form.Do l (length cs) 0 a cs (head_whole s all g n.0 n.1))
            (good_form m spot.Tail (masked spot.Tail t) (sm spot.Tail refl), tt) (parts_short form.Do l cs a le),
        tt,
      )

      -- ---- trees

      masked_branch : (p : Spot) (l : Label) (cs : List Tree) → is_compound (form_of l cs) ≡ true → length cs ≤ most
          → AllSound ok most cs → Sound ok most (masked p (Branch l cs))
      masked_branch p l cs c le all =
          let ds = masked_from (is_held p l (length cs)) 0 cs in
          subst (λ (t : Tree). Sound ok most t) (sym (ap (masked_in p (Branch l cs)) (out-Branch l cs)))
          (sound_branch l ds (compound_firm l cs ds c) (omega (arith, le, masked_long (is_held p l (length cs)) 0 cs))
          (masked_sound (is_held p l (length cs)) 0 all))

      token_no : (q : TokenKind) → is_compound (form_of_token q) ≡ true → ⊥
      token_no (token_kind.Meta meta.Stmt) h = false≢true h
      token_no token_kind.Dots h = false≢true h
      token_no _ h = false≢true h

      mutual
        pub tree_fine : {t : Tree} → Formed most t → list_all ok (leaves t) ≡ true → edges_in t ≡ [] → FineTree t
        tree_fine (token a) v e k =
            let t = Leaf a in
            let at : form_at t ≡ form_of_token a.kind = ap form_in (out-Leaf a) in
            subst (λ (es : List Elem). AllFine ok most es) (sym (tree_made dots t (form_of_token a.kind) (label_at t) [] k at refl (kids-Leaf a)))
            (made_fine (form_of_token a.kind) t (label_at t) [] (sound_of (token a) v) (λ p c. absurd (token_no a.kind c))
            (subst (λ (ks : List Tree). AllSound ok most ks) (sym (kids-Leaf a)) no_more) (omega arith) none tt (token_needs a.kind []) k
            (k + before (form_of_token a.kind)) (k + before (form_of_token a.kind) + total (picked (form_of_token a.kind) (label_at t) 0 0 [])))
        tree_fine (branch l cs h le all) v e k =
            let t = Branch l cs in
            let u : list_all ok (join (map leaves cs)) ≡ true = sym (ap (list_all ok) (leaves-Branch l cs)) ∙ v in
            let ks = all_sound all u in
            let none' : own_ends l cs ++ join (map edges_in cs) ≡ [] = sym (edges-Branch l cs) ∙ e in
            let n = label_needs l cs h (front_empty (own_ends l cs) (join (map edges_in cs)) none') in
            let g = kids_fine all u (back_empty (own_ends l cs) (join (map edges_in cs)) none') in
            subst (λ (es : List Elem). AllFine ok most es)
            (sym (tree_made dots t (form_of l cs) l cs k (ap form_in (out-Branch l cs)) (ap label_in (out-Branch l cs)) (kids-Branch l cs)))
            (made_fine (form_of l cs) t l cs (sound_of (branch l cs h le all) v) (λ p c. masked_branch p l cs c le ks)
            (subst (λ (qs : List Tree). AllSound ok most qs) (sym (kids-Branch l cs)) ks) le all g n k
            (k + before (form_of l cs)) (k + before (form_of l cs) + total (picked (form_of l cs) l (length cs) 0 (map part cs))))

        kids_fine : {cs : List Tree} → AllFormed most cs → list_all ok (join (map leaves cs)) ≡ true → join (map edges_in cs) ≡ [] → AllFineTree cs
        kids_fine none v e = tt
        kids_fine (more c cs one rest) v e = (
          tree_fine one (all_front ok (leaves c) (join (map leaves cs)) v) (front_empty (edges_in c) (join (map edges_in cs)) e),
          kids_fine rest (all_back ok (leaves c) (join (map leaves cs)) v) (back_empty (edges_in c) (join (map edges_in cs)) e),
        )
