-- The elements of children, one after another: a child that is no list of statements has one, which is dots or a nest if
-- the child is.
use Rattle.std.proofs.Common.{◌≡◌, ℕ, suc, ◌+◌, ◌-◌, ◌≤◌, refl, sym, ap, ◌∙◌, subst, arith, List, [], ◌∷◌, ◌++◌, map, length, take, Some, None, slice_get}
use Rattle.std.proofs.lemmas.Bool.{false≢true}
use Rattle.std.proofs.lemmas.Bool.Decides.{nat_tests}
use Rattle.std.specs.Prelude.{Bool, true, false, not, ◌&&◌, nat_lt, if◌then◌else◌}
use Rattle.c_terms.specs.declared.token.Token.{Token}
use Rattle.c_terms.specs.declared.token.TokenKind.{TokenKind}
use Rattle.c_terms.specs.declared.token.TokenKind.TheVariants as token_kind
use Rattle.c_terms.specs.declared.token.MetaKind.TheVariants as meta
use Rattle.c_terms.specs.declared.label.Label.{Label}
use Rattle.c_terms.specs.declared.label.Label.TheVariants as label
use Rattle.c_terms.specs.declared.tree.Tree.{Tree, out-Tree}
use Rattle.c_terms.specs.declared.tree.Tree.TheOpen.{Tree-F}
use Rattle.c_terms.specs.Trees.{join}
use Rattle.c_terms.proofs.SameLemmas.{out-Leaf, out-Branch}
use Rattle.smpl_patch.specs.declared.pattern.Spot.TheVariants as spot
use Rattle.smpl_patch.specs.declared.elem.Dots.{Dots}
use Rattle.smpl_patch.specs.declared.elem.Elem.{Elem}
use Rattle.smpl_patch.specs.Bodies.{Element, element, body}
use Rattle.smpl_patch.specs.Shapes.{is_dots as is_dots_element, begins_with_dots, ends_with_dots, are_parted}
use Rattle.smpl_patch.proofs.BodyLemmas.{element-Atom, element-Compound, element-Block, element-Gap, element-Nest, element-AnyOf, element-AllOf}
use Rattle.smpl_body.specs.declared.smpl_elem.form.Form.{Form}
use Rattle.smpl_body.specs.declared.smpl_elem.form.Form.TheVariants as form
use Rattle.smpl_body.specs.SmplElem.Forms.{is_list_label, is_list, is_list_in, is_list_at, form_of_token, form_of, form_in}
use Rattle.smpl_body.specs.SmplElem.Forms.{form_at, kids, label_at, is_part, before, first_kid, last_kid, id_at, is_more}
use Rattle.smpl_body.specs.SmplElem.Forms.{masked}
use Rattle.smpl_body.specs.SmplElem.Elements.{Part, part, picked, total, seqs, pattern, made, atoms, elements}
use Rattle.smpl_body.proofs.SmplElem.PartLemmas.{part-tree, parts}
use Rattle.smpl_body.proofs.SmplElem.CountLemmas.{elements-row}
use Rattle.smpl_body.specs.DotsOf.{is_dots, id_in, first_id, gap_in, gap, first_gap, last_gap, ends, statements_in, statements, inner}
use Rattle.sound_laws.specs.SmplFormed.Shapes.{is_nest_label, is_dots_in, is_dots_tree, is_leaf_in, is_leaf, begins, finishes}
use Rattle.sound_laws.specs.SmplFormed.Shapes.{apart, unlisted, lists, has_form, Formed, token, branch, AllFormed, none, more}
use Rattle.sound_laws.proofs.SmplFormed.SequenceLemmas.{and_both, left_true, right_true, not_true}

-- ---- what a tree is as a part

abbrev pub is_list_form : Form → Bool
is_list_form form.List = true
is_list_form _ = false

abbrev pub is_dots_form : Form → Bool
is_dots_form form.Gap = true
is_dots_form form.Nest = true
is_dots_form _ = false

token_unlisted : (k : TokenKind) → is_list_form (form_of_token k) ≡ false
token_unlisted (token_kind.Meta meta.Stmt) = refl
token_unlisted token_kind.Dots = refl
token_unlisted _ = refl

token_dotted : (k : TokenKind) → is_dots_form (form_of_token k) ≡ is_dots k
token_dotted (token_kind.Meta meta.Stmt) = refl
token_dotted token_kind.Dots = refl
token_dotted _ = refl

choice_other : (b : Bool) (f : Form) → is_list_form f ≡ false → is_dots_form f ≡ false
    → (is_list_form (if b then f else form.Expression) ≡ false) × (is_dots_form (if b then f else form.Expression) ≡ false)
choice_other true f h g = (h, g)
choice_other false f h g = (refl, refl)

label_listed : (l : Label) (cs : List Tree) → is_list_form (form_of l cs) ≡ is_list_label l
label_listed label.PatOr cs = (choice_other (is_list_at (slice_get cs 1)) form.AnyOf refl refl).0
label_listed label.PatAnd cs = (choice_other (is_list_at (slice_get cs 1)) form.AllOf refl refl).0
label_listed label.StmtList cs = refl
label_listed _ cs = refl

label_dotted : (l : Label) (cs : List Tree) → is_dots_form (form_of l cs) ≡ is_nest_label l
label_dotted label.PatOr cs = (choice_other (is_list_at (slice_get cs 1)) form.AnyOf refl refl).1
label_dotted label.PatAnd cs = (choice_other (is_list_at (slice_get cs 1)) form.AllOf refl refl).1
label_dotted label.PatNest cs = refl
label_dotted _ cs = refl

in_listed : (o : Tree-F Tree) → is_list_form (form_in o) ≡ is_list_in o
in_listed (Tree-F.Leaf a) = token_unlisted a.kind
in_listed (Tree-F.Branch l cs) = label_listed l cs

in_dotted : (o : Tree-F Tree) → is_dots_form (form_in o) ≡ is_dots_in o
in_dotted (Tree-F.Leaf a) = token_dotted a.kind
in_dotted (Tree-F.Branch l cs) = label_dotted l cs

pub form_listed : (t : Tree) → is_list_form (form_at t) ≡ is_list t
form_listed t = in_listed (out-Tree t)

pub form_dotted : (t : Tree) → is_dots_form (form_at t) ≡ is_dots_tree t
form_dotted t = in_dotted (out-Tree t)

-- ---- one element

pub record Single (es : List Elem) (dotted : Bool) : Type 0 where
  pub one : Elem
  pub are : es ≡ one ∷ []
  pub is : is_dots_element (element one) ≡ dotted

single : (x : Elem) (e : Element) (b : Bool) → element x ≡ e → is_dots_element e ≡ b → Single (x ∷ []) b
single x e b is d = record { one = x; are = refl; is = ap is_dots_element is ∙ d }

made_single : (f : Form) (dots : ℕ → Dots) (t : Tree) (n : ℕ) (parts : List (List Elem)) (m : ℕ) → is_list_form f ≡ false
    → Single (made f dots t n parts m) (is_dots_form f)
made_single form.Gap dots t n parts m h = single _ _ true (element-Gap (dots (id_at t))) refl
made_single form.Expression dots t n parts m h = single _ _ false (element-Atom (pattern n spot.Inside t)) refl
made_single form.Plain dots t n parts m h = single _ _ false (element-Atom (pattern n spot.Whole t)) refl
made_single form.List dots t n parts m h = absurd (false≢true (sym h))
made_single form.Block dots t n parts m h =
    single _ _ false (element-Block (pattern n spot.Whole (first_kid (kids t))) (join parts) (pattern m spot.Whole (last_kid (kids t)))) refl
made_single form.Nest dots t n parts m h = single _ _ true (element-Nest (is_more (first_kid (kids t))) (join parts) (dots (id_at (last_kid (kids t))))) refl
made_single form.AnyOf dots t n parts m h = single _ _ false (element-AnyOf parts) refl
made_single form.AllOf dots t n parts m h = single _ _ false (element-AllOf parts) refl
made_single form.Head dots t n parts m h = single _ _ false (element-Compound (pattern n spot.Whole (masked spot.Whole t)) parts None) refl
made_single form.Do dots t n parts m h =
    single _ _ false (element-Compound (pattern n spot.Whole (masked spot.Whole t)) parts (Some (pattern m spot.Tail (masked spot.Tail t)))) refl

module _ (dots : ℕ → Dots) where
  pub tree_single : (t : Tree) (k : ℕ) → is_list t ≡ false → Single (elements dots k t) (is_dots_tree t)
  tree_single t k h =
      subst (λ (es : List Elem). Single es (is_dots_tree t)) (sym (elements-row t dots k))
      (subst (λ (b : Bool). Single (made (form_at t) dots t k (seqs dots (k + before (form_at t)) (parts t))
      (k + before (form_at t) + total (parts t))) b) (form_dotted t)
      (made_single (form_at t) dots t k (seqs dots (k + before (form_at t)) (parts t)) (k + before (form_at t) + total (parts t)) (form_listed t ∙ h)))

  -- the elements of a tree of this form, label and children
  pub tree_made : (t : Tree) (f : Form) (l : Label) (cs : List Tree) (k : ℕ) → form_at t ≡ f → label_at t ≡ l → kids t ≡ cs
      → elements dots k t ≡ made f dots t k (seqs dots (k + before f) (picked f l (length cs) 0 (map part cs)))
      (k + before f + total (picked f l (length cs) 0 (map part cs)))
  tree_made t f l cs k ef el ek =
      elements-row t dots k
      ∙ (λ i. made (ef i) dots t k (seqs dots (k + before (ef i)) (picked (ef i) (el i) (length (ek i)) 0 (map part (ek i))))
      (k + before (ef i) + total (picked (ef i) (el i) (length (ek i)) 0 (map part (ek i)))))

  -- ---- children that are no lists, one after another

  abbrev pub joined : ℕ → List Part → List Elem
  joined k ps = join (seqs dots k ps)

  pub record Follow (es : List Elem) (cs : List Tree) : Type 0 where
    pub long : length es ≡ length cs
    pub first : begins_with_dots (body es) ≡ begins cs
    pub last : ends_with_dots (body es) ≡ finishes cs
    pub parted : are_parted (body es) ≡ apart cs

  last_more : (x : Elem) (es : List Elem) (c : Tree) (cs : List Tree) → is_dots_element (element x) ≡ is_dots_tree c
      → length es ≡ length cs → ends_with_dots (body es) ≡ finishes cs
      → ends_with_dots (body (x ∷ es)) ≡ finishes (c ∷ cs)
  last_more x [] c [] d n e = d
  last_more x [] c (u ∷ cs) d n e = let no : ⊥ = cc in absurd no
  last_more x (y ∷ es) c [] d n e = let no : ⊥ = cc in absurd no
  last_more x (y ∷ es) c (u ∷ cs) d n e = e

  follow_more : (es : List Elem) (c : Tree) (rest : List Elem) (cs : List Tree) → Single es (is_dots_tree c) → Follow rest cs → Follow (es ++ rest) (c ∷ cs)
  follow_more es c rest cs s f =
      subst (λ (xs : List Elem). Follow (xs ++ rest) (c ∷ cs)) (sym s.are) (record {
        long = ap suc f.long;
        first = s.is;
        last = last_more s.one rest c cs s.is f.long f.last;
        parted = (λ i. not (s.is i && f.first i) && f.parted i);
      })

  pub all_follow : (cs : List Tree) (k : ℕ) → unlisted cs ≡ true → Follow (joined k (map part cs)) cs
  all_follow [] k u = record { long = refl; first = refl; last = refl; parted = refl }
  all_follow (c ∷ cs) k u =
      follow_more (elements dots k c) c (joined (k + atoms c) (map part cs)) cs
      (tree_single c k (not_true (is_list c) (left_true (not (is_list c)) (unlisted cs) u)))
      (all_follow cs (k + atoms c) (right_true (not (is_list c)) (unlisted cs) u))

-- ---- the children that are parts

-- all children are
pub all_picked : (l : Label) (n i : ℕ) (ps : List Part) → picked form.List l n i ps ≡ ps
all_picked l n i [] = refl
all_picked l n i (p ∷ ps) = ap (λ (qs : List Part). p ∷ qs) (all_picked l n (i + 1) ps)

-- all but the last
abbrev pub butlast : List Tree → List Tree
butlast [] = []
butlast (c ∷ []) = []
butlast (c ∷ d ∷ cs) = c ∷ butlast (d ∷ cs)

-- all but the first and the last
abbrev pub middle : List Tree → List Tree
middle [] = []
middle (c ∷ cs) = butlast cs

abbrev pub IsInner : Form → Type 0
IsInner f = (l : Label) (n i : ℕ) (c : Tree) → is_part f l n i c ≡ (nat_lt 0 i && nat_lt (i + 1) n)

is_inside : (n i : ℕ) → 1 ≤ i → i + 2 ≤ n → (nat_lt 0 i && nat_lt (i + 1) n) ≡ true
is_inside n i h k = grind (arith, nat_tests)

is_last : (n i : ℕ) → n ≡ i + 1 → (nat_lt 0 i && nat_lt (i + 1) n) ≡ false
is_last n i e = grind (arith, nat_tests)

inner_from : (f : Form) → IsInner f → (l : Label) (n i : ℕ) (cs : List Tree) → 1 ≤ i → n ≡ i + length cs → picked f l n i (map part cs) ≡ map part (butlast cs)
inner_from f h l n i [] low e = refl
inner_from f h l n i (c ∷ []) low e = let off : is_part f l n i (part c).tree ≡ false = h l n i (part c).tree ∙ is_last n i (omega (arith, e)) in rw off refl
inner_from f h l n i (c ∷ d ∷ cs) low e =
    let on : is_part f l n i (part c).tree ≡ true = h l n i (part c).tree ∙ is_inside n i low (omega (arith, e)) in
    rw on (ap (λ (qs : List Part). part c ∷ qs) (inner_from f h l n (i + 1) (d ∷ cs) (omega arith) (omega (arith, e))))

pub inner_picked : (f : Form) → IsInner f → (l : Label) (cs : List Tree) → picked f l (length cs) 0 (map part cs) ≡ map part (middle cs)
inner_picked f h l [] = refl
inner_picked f h l (c ∷ cs) =
    let off : is_part f l (length (c ∷ cs)) 0 (part c).tree ≡ false = h l (length (c ∷ cs)) 0 (part c).tree in
    rw off (inner_from f h l (length (c ∷ cs)) 1 cs (omega arith) (omega arith))

take_butlast : (cs : List Tree) → take (length cs - 1) cs ≡ butlast cs
take_butlast [] = refl
take_butlast (c ∷ []) = refl
take_butlast (c ∷ d ∷ cs) =
    let n : length (c ∷ d ∷ cs) - 1 ≡ suc (length (d ∷ cs) - 1) = omega arith in
    ap (λ (m : ℕ). take m (c ∷ d ∷ cs)) n ∙ ap (λ (l : List Tree). c ∷ l) (take_butlast (d ∷ cs))

pub inner_middle : (cs : List Tree) → inner cs ≡ middle cs
inner_middle [] = refl
inner_middle (c ∷ cs) =
    let n : length (c ∷ cs) - 2 ≡ length cs - 1 = omega arith in
    ap (λ (m : ℕ). take m cs) n ∙ take_butlast cs

unlisted_butlast : (cs : List Tree) → unlisted cs ≡ true → unlisted (butlast cs) ≡ true
unlisted_butlast [] u = refl
unlisted_butlast (c ∷ []) u = refl
unlisted_butlast (c ∷ d ∷ cs) u =
    and_both (not (is_list c)) (unlisted (butlast (d ∷ cs))) (left_true (not (is_list c)) (unlisted (d ∷ cs)) u)
    (unlisted_butlast (d ∷ cs) (right_true (not (is_list c)) (unlisted (d ∷ cs)) u))

pub unlisted_middle : (cs : List Tree) → unlisted cs ≡ true → unlisted (middle cs) ≡ true
unlisted_middle [] u = refl
unlisted_middle (c ∷ cs) u = unlisted_butlast cs (right_true (not (is_list c)) (unlisted cs) u)

no_pair : (a : Bool) → not (a && false) ≡ true
no_pair true = refl
no_pair false = refl

apart_butlast : (cs : List Tree) → apart cs ≡ true → apart (butlast cs) ≡ true
apart_butlast [] u = refl
apart_butlast (c ∷ []) u = refl
apart_butlast (c ∷ d ∷ []) u = and_both (not (is_dots_tree c && false)) true (no_pair (is_dots_tree c)) refl
apart_butlast (c ∷ d ∷ e ∷ cs) u =
    let here = not (is_dots_tree c && is_dots_tree d) in
    and_both here (apart (butlast (d ∷ e ∷ cs))) (left_true here (apart (d ∷ e ∷ cs)) u) (apart_butlast (d ∷ e ∷ cs) (right_true here (apart (d ∷ e ∷ cs)) u))

pub apart_middle : (cs : List Tree) → apart cs ≡ true → apart (middle cs) ≡ true
apart_middle [] u = refl
apart_middle (c ∷ cs) u = apart_butlast cs (right_true (not (is_dots_tree c && begins cs)) (apart cs) u)

butlast_short : (cs : List Tree) → length (butlast cs) ≤ length cs
butlast_short [] = omega arith
butlast_short (c ∷ []) = omega arith
butlast_short (c ∷ d ∷ cs) = omega (arith, butlast_short (d ∷ cs))

pub middle_short : (cs : List Tree) → length (middle cs) ≤ length cs
middle_short [] = omega arith
middle_short (c ∷ cs) = omega (arith, butlast_short cs)

-- no more are picked than there are, and of a choice the lists
pub picked_short : (f : Form) (l : Label) (n i : ℕ) (ps : List Part) → length (picked f l n i ps) ≤ length ps
picked_short f l n i [] = omega arith
picked_short f l n i (p ∷ ps) = by (is_part f l n i p.tree) (picked_short f l n (i + 1) ps)
  where
    by : (b : Bool) → length (picked f l n (i + 1) ps) ≤ length ps
        → length (if b then p ∷ picked f l n (i + 1) ps else picked f l n (i + 1) ps) ≤ suc (length ps)
    by true h = omega (arith, h)
    by false h = omega (arith, h)

pub lists_picked : (f : Form) → ((l : Label) (n i : ℕ) (c : Tree) → is_part f l n i c ≡ is_list c)
    → (l : Label) (n i : ℕ) (cs : List Tree) → length (picked f l n i (map part cs)) ≡ lists cs
lists_picked f h l n i [] = refl
lists_picked f h l n i (c ∷ cs) =
    let same : is_part f l n i (part c).tree ≡ is_list c = h l n i (part c).tree ∙ ap is_list (part-tree c) in
    rw same (by (is_list c) (lists_picked f h l n (i + 1) cs))
  where
    by : (b : Bool) → length (picked f l n (i + 1) (map part cs)) ≡ lists cs
        → length (if b then part c ∷ picked f l n (i + 1) (map part cs) else picked f l n (i + 1) (map part cs)) ≡ (if b then suc (lists cs) else lists cs)
    by true e = ap suc e
    by false e = e

pub seqs_long : (dots : ℕ → Dots) (k : ℕ) (ps : List Part) → length (seqs dots k ps) ≡ length ps
seqs_long dots k [] = refl
seqs_long dots k (p ∷ ps) = ap suc (seqs_long dots (k + p.atoms) ps)

-- ---- edges

no_id : (o : Tree-F Tree) → is_leaf_in o ≡ true → id_in o ≡ [] → ⊥
no_id (Tree-F.Leaf a) h e = let no : ⊥ = cc in no
no_id (Tree-F.Branch l cs) h e = false≢true h

no_first : (cs : List Tree) → is_leaf (first_kid cs) ≡ true → first_id cs ≡ [] → ⊥
no_first [] h e = false≢true (sym (ap is_leaf_in (out-Branch label.StmtList [])) ∙ h)
no_first (c ∷ cs) h e = no_id (out-Tree c) h e

nest_gap : (l : Label) (cs : List Tree) → has_form l cs ≡ true → gap_in (Tree-F.Branch l cs) ≡ [] → is_nest_label l ≡ false
nest_gap label.PatNest cs h e =
    absurd (no_first cs (left_true (is_leaf (first_kid cs)) (is_leaf (last_kid cs))
    (right_true (apart cs) (is_leaf (first_kid cs) && is_leaf (last_kid cs))
    (right_true (unlisted cs) (apart cs && (is_leaf (first_kid cs) && is_leaf (last_kid cs))) h))) e)
nest_gap _ cs h e = refl

token_gap : (a : Token) (b : Bool) → (if b then a.id ∷ [] else []) ≡ [] → b ≡ false
token_gap a true e = let no : ⊥ = cc in absurd no
token_gap a false e = refl

pub gap_undotted : {most : ℕ} {t : Tree} → Formed most t → gap t ≡ [] → is_dots_tree t ≡ false
gap_undotted (token a) e = ap is_dots_in (out-Leaf a) ∙ token_gap a (is_dots a.kind) (sym (ap gap_in (out-Leaf a)) ∙ e)
gap_undotted (branch l cs h le all) e = ap is_dots_in (out-Branch l cs) ∙ nest_gap l cs h (sym (ap gap_in (out-Branch l cs)) ∙ e)

pub front_empty : {A : Type 0} (xs ys : List A) → xs ++ ys ≡ [] → xs ≡ []
front_empty [] ys h = refl
front_empty (x ∷ xs) ys h = let k : x ∷ (xs ++ ys) ≡ [] = h in absurd (cc)

pub back_empty : {A : Type 0} (xs ys : List A) → xs ++ ys ≡ [] → ys ≡ []
back_empty [] ys h = h
back_empty (x ∷ xs) ys h = let k : x ∷ (xs ++ ys) ≡ [] = h in absurd (cc)

first_undotted : {most : ℕ} {cs : List Tree} → AllFormed most cs → first_gap cs ≡ [] → begins cs ≡ false
first_undotted none e = refl
first_undotted (more c cs one rest) e = gap_undotted one e

last_undotted : {most : ℕ} {cs : List Tree} → AllFormed most cs → last_gap cs ≡ [] → finishes cs ≡ false
last_undotted none e = refl
last_undotted (more c _ one none) e = gap_undotted one e
last_undotted (more c _ one (more d cs two rest)) e = last_undotted (more d cs two rest) e

-- statements with no dots and no nest at an edge
pub ends_undotted : {most : ℕ} {cs : List Tree} → AllFormed most cs → ends cs ≡ [] → (begins cs ≡ false) × (finishes cs ≡ false)
ends_undotted {cs = cs} all e = (first_undotted all (front_empty (first_gap cs) (last_gap cs) e), last_undotted all (back_empty (first_gap cs) (last_gap cs) e))

formed_butlast : {most : ℕ} {cs : List Tree} → AllFormed most cs → AllFormed most (butlast cs)
formed_butlast none = none
formed_butlast (more c _ one none) = none
formed_butlast (more c _ one (more d cs two rest)) = more c (butlast (d ∷ cs)) one (formed_butlast (more d cs two rest))

pub formed_middle : {most : ℕ} {cs : List Tree} → AllFormed most cs → AllFormed most (middle cs)
formed_middle none = none
formed_middle (more c cs one rest) = formed_butlast rest

in_statements : (o : Tree-F Tree) → is_list_in o ≡ false → statements_in o ≡ []
in_statements (Tree-F.Leaf a) h = refl
in_statements (Tree-F.Branch l cs) h = by l h
  where
    by : (l : Label) → is_list_label l ≡ false → statements_in (Tree-F.Branch l cs) ≡ []
    by label.StmtList h = absurd (false≢true (sym h))
    by _ h = refl

pub no_statements : (t : Tree) → is_list t ≡ false → statements t ≡ []
no_statements t h = in_statements (out-Tree t) h
