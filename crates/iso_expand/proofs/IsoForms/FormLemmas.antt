-- Forms of branches, and lower bounds for their number.
use Rattle.std.proofs.Common.{◌≡◌, ℕ, ◌+◌, ◌<◌, ◌≤◌, Bool, true, false, if◌then◌else◌, List, [], ◌∷◌, ◌++◌, length, get_or}
use Rattle.std.proofs.Common.{drop, map, refl, sym, ap, subst, ◌∙◌, arith, length-append}
use Rattle.std.proofs.lemmas.List.{length-map}
use Rattle.c_terms.specs.declared.token.Token.{Token}
use Rattle.c_terms.specs.declared.label.Label.{Label}
use Rattle.c_terms.specs.declared.tree.Tree.{Tree}
use Rattle.c_terms.specs.declared.tree.Tree.TheVariants.{Leaf, Branch, rolls-Leaf, rolls-Branch}
use Rattle.c_terms.specs.declared.tree.Tree.TheFolds.{fold-roll-Tree}
use Rattle.c_terms.proofs.Induct.{Each, tree_induction}
use Rattle.smpl_patch.specs.declared.pattern.PatToken.{PatToken}
use Rattle.smpl_patch.specs.declared.rule.Iso.{Iso}
use Rattle.iso_expand.specs.declared.iso_forms.fault.FormsFault.{FormsFault}
use Rattle.iso_expand.specs.declared.iso_forms.fault.FormsFault.TheVariants as fault
use Rattle.iso_expand.specs.IsoForms.Kinds.{is_expression}
use Rattle.iso_expand.specs.IsoForms.Forms.{choices, branches, with_isos, of_choices, form_step, forms, Refused}
use Rattle.iso_expand.specs.IsoForms.Stepped.{grown, grown_by}
use Rattle.iso_expand.proofs.IsoForms.ListLemmas.{drop_item}
use Rattle.iso_expand.proofs.IsoForms.ListedLemmas.{isos-extend}
use Rattle.iso_expand.proofs.IsoForms.ChoiceLemmas.{AllSome, grown-choices, grown-ways, grown_by-length}

module _ (tokens : List PatToken) (isos : List Iso) where
  pub forms-Leaf : (a : Token) → forms tokens isos (Leaf a) ≡ Leaf a ∷ []
  forms-Leaf a = ap (forms tokens isos) (sym (rolls-Leaf a)) ∙ fold-roll-Tree (List Tree) (form_step tokens isos) _

  pub forms-Branch : (l : Label) (cs : List Tree) → forms tokens isos (Branch l cs) ≡ of_choices tokens isos l (choices (map (forms tokens isos) cs))
  forms-Branch l cs = ap (forms tokens isos) (sym (rolls-Branch l cs)) ∙ fold-roll-Tree (List Tree) (form_step tokens isos) _

  -- there are at least as many forms as choices
  pub choices-fit : (l : Label) (css : List (List Tree)) → length css ≤ length (of_choices tokens isos l css)
  choices-fit l css = by (is_expression l)
    where
      by : (b : Bool) → length css ≤ length (if b then with_isos tokens (branches l css) isos else branches l css)
      by true =
          let x = isos-extend tokens (branches l css) isos in
          let e : length (with_isos tokens (branches l css) isos) ≡ length (branches l css ++ x.0) = ap length x.1 in
          omega (arith, length-append (branches l css) x.0, length-map css (λ cs. Branch l cs))
      by false = omega (arith, length-map css (λ cs. Branch l cs))

  abbrev HasForm : Tree → Type 0
  HasForm t = 0 < length (forms tokens isos t)

  pub all_some : (cs : List Tree) → Each HasForm cs → AllSome (map (forms tokens isos) cs)
  all_some [] e = tt
  all_some (c ∷ cs) e = (e.0, all_some cs e.1)

  some_choice : (fss : List (List Tree)) → AllSome fss → 0 < length (choices fss)
  some_choice fss h =
      let e : length (grown_by ([] ∷ []) fss) ≡ length (choices fss) = ap length (grown-choices fss) in
      omega (arith, grown_by-length ([] ∷ []) fss h)

  -- each tree has a form
  pub has_form : (t : Tree) → 0 < length (forms tokens isos t)
  has_form = tree_induction HasForm
      (λ a. let e : length (forms tokens isos (Leaf a)) ≡ 1 = ap length (forms-Leaf a) in omega arith)
      (λ l cs each.
      let n = some_choice (map (forms tokens isos) cs) (all_some cs each) in
      let m = choices-fit l (choices (map (forms tokens isos) cs)) in
      let e : length (forms tokens isos (Branch l cs))
      ≡ length (of_choices tokens isos l (choices (map (forms tokens isos) cs))) = ap length (forms-Branch l cs) in
      omega arith)

  pub have_forms : (cs : List Tree) → AllSome (map (forms tokens isos) cs)
  have_forms [] = tt
  have_forms (c ∷ cs) = (has_form c, have_forms cs)

  -- ---- child by child

  pub child_more : (cs : List Tree) (i : ℕ) (c : Tree) (css next : List (List Tree)) (ways : List Tree) → i < length cs → c ≡ get_or cs i c
      → ways ≡ forms tokens isos c
      → next ≡ grown css ways → grown_by css (map (forms tokens isos) (drop i cs)) ≡ grown_by next (map (forms tokens isos) (drop (i + 1) cs))
  child_more cs i c css next ways h e w n =
      ap (λ (xs : List Tree). grown_by css (map (forms tokens isos) xs)) (drop_item cs i c h e)
      ∙ ap (λ (ts : List Tree). grown_by (grown css ts) (map (forms tokens isos) (drop (i + 1) cs))) (sym w)
      ∙ ap (λ (x : List (List Tree)). grown_by x (map (forms tokens isos) (drop (i + 1) cs))) (sym n)

  -- choices that grow stay no more than the forms of the branch
  grown_fit : (l : Label) (cs : List Tree) (i : ℕ) (next : List (List Tree))
      → grown_by next (map (forms tokens isos) (drop (i + 1) cs)) ≡ grown_by ([] ∷ []) (map (forms tokens isos) cs)
      → length next ≤ length (forms tokens isos (Branch l cs))
  grown_fit l cs i next e =
      let fss = map (forms tokens isos) cs in
      let n = grown_by-length next (map (forms tokens isos) (drop (i + 1) cs)) (have_forms (drop (i + 1) cs)) in
      let a : length (grown_by next (map (forms tokens isos) (drop (i + 1) cs))) ≡ length (choices fss) = ap length (e ∙ grown-choices fss) in
      let m = choices-fit l (choices fss) in
      let f : length (forms tokens isos (Branch l cs)) ≡ length (of_choices tokens isos l (choices fss)) = ap length (forms-Branch l cs) in
      omega arith

  refused_by : {A B : Type 0} (limit : ℕ) (xs : List A) (ys : List B) (f : FormsFault) → length xs ≤ length ys → Refused limit xs f → Refused limit ys f
  refused_by limit xs ys fault.TooMany h r = omega arith
  refused_by limit xs ys fault.NoMemory h r = tt

  pub grow_refused : (limit : ℕ) (l : Label) (cs : List Tree) (i : ℕ) (c : Tree) (css : List (List Tree)) (ways : List Tree) (f : FormsFault)
      → i < length cs → c ≡ get_or cs i c → ways ≡ forms tokens isos c
      → grown_by css (map (forms tokens isos) (drop i cs)) ≡ grown_by ([] ∷ []) (map (forms tokens isos) cs)
      → Refused limit (grown css ways) f → Refused limit (forms tokens isos (Branch l cs)) f
  grow_refused limit l cs i c css ways f h e w rest r =
      refused_by limit (grown css ways) (forms tokens isos (Branch l cs)) f
      (grown_fit l cs i (grown css ways) (sym (child_more cs i c css (grown css ways) ways h e w refl) ∙ rest)) r

  pub child_refused : (limit : ℕ) (l : Label) (cs : List Tree) (i : ℕ) (c : Tree) (css : List (List Tree)) (f : FormsFault)
      → i < length cs → c ≡ get_or cs i c → 0 < length css
      → grown_by css (map (forms tokens isos) (drop i cs)) ≡ grown_by ([] ∷ []) (map (forms tokens isos) cs)
      → Refused limit (forms tokens isos c) f → Refused limit (forms tokens isos (Branch l cs)) f
  child_refused limit l cs i c css f h e some rest r =
      grow_refused limit l cs i c css (forms tokens isos c) f h e refl rest
      (refused_by limit (forms tokens isos c) (grown css (forms tokens isos c)) f (grown-ways css (forms tokens isos c) some) r)

  pub more_choices : (css next : List (List Tree)) (ways : List Tree) (c : Tree) → 0 < length css → ways ≡ forms tokens isos c
      → next ≡ grown css ways → 0 < length next
  more_choices css next ways c some w n =
      let a : length ways ≡ length (forms tokens isos c) = ap length w in
      let b : length next ≡ length (grown css ways) = ap length n in
      omega (arith, has_form c, grown-ways css ways some)

  pub whole_branch : (l : Label) (cs rest : List Tree) (css : List (List Tree)) → rest ≡ []
      → grown_by css (map (forms tokens isos) rest) ≡ grown_by ([] ∷ []) (map (forms tokens isos) cs)
      → of_choices tokens isos l css ≡ forms tokens isos (Branch l cs)
  whole_branch l cs rest css none e =
      ap (of_choices tokens isos l) (sym (ap (λ (xs : List Tree). grown_by css (map (forms tokens isos) xs)) none) ∙ e
      ∙ grown-choices (map (forms tokens isos) cs))
      ∙ sym (forms-Branch l cs)

  -- ---- the tree under another name

  pub refused_tree : (limit : ℕ) (t u : Tree) (f : FormsFault) → t ≡ u → Refused limit (forms tokens isos u) f → Refused limit (forms tokens isos t) f
  refused_tree limit t u f e r = subst (λ (x : Tree). Refused limit (forms tokens isos x) f) (sym e) r
