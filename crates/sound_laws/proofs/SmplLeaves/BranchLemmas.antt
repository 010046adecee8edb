-- The elements of a branch have its tokens in their order, if those of its children do.
use Rattle.std.proofs.Common.{◌≡◌, ℕ, suc, ◌+◌, refl, sym, ap, ◌∙◌, arith, List, [], ◌∷◌, ◌++◌, map, length, append_assoc, Bool}
use Rattle.std.proofs.Common.{true, false, ◌&&◌, nat_lt, if◌then◌else◌, Option, Some, None, slice_get}
use Rattle.std.proofs.lemmas.List.{append-nil}
use Rattle.std.proofs.lemmas.Bool.{false≢true}
use Rattle.c_terms.specs.declared.token.Token.{Token}
use Rattle.c_terms.specs.declared.label.Label.{Label}
use Rattle.c_terms.specs.declared.label.Label.TheVariants as label
use Rattle.c_terms.specs.declared.tree.Tree.{Tree}
use Rattle.c_terms.specs.declared.tree.Tree.TheVariants.{Branch}
use Rattle.c_terms.specs.Trees.{leaves, join}
use Rattle.c_terms.specs.Shapes.{is_tail}
use Rattle.c_terms.proofs.SameLemmas.{out-Branch}
use Rattle.c_terms.proofs.TreeLemmas.{leaves-Branch}
use Rattle.smpl_patch.specs.declared.pattern.Spot.{Spot}
use Rattle.smpl_patch.specs.declared.pattern.Spot.TheVariants as spot
use Rattle.smpl_patch.specs.declared.pattern.Pattern.{Pattern}
use Rattle.smpl_patch.specs.declared.elem.Dots.{Dots}
use Rattle.smpl_patch.specs.declared.elem.Elem.{Elem}
use Rattle.smpl_patch.specs.declared.elem.Elem.TheVariants as elem
use Rattle.smpl_patch.specs.Held.{is_held}
use Rattle.smpl_patch.specs.Bodies.{body}
use Rattle.smpl_patch.proofs.BodyLemmas.{element-Atom, element-Compound, element-Block, element-Nest, element-AnyOf, element-AllOf}
use Rattle.smpl_body.specs.declared.smpl_elem.form.Form.{Form}
use Rattle.smpl_body.specs.declared.smpl_elem.form.Form.TheVariants as form
use Rattle.smpl_body.specs.SmplElem.Forms.{form_at, form_in, form_of, kids, label_at, label_in, is_list_at, before, first_kid}
use Rattle.smpl_body.specs.SmplElem.Forms.{last_kid, id_at, is_more, masked, masked_from, masked_in}
use Rattle.smpl_body.specs.SmplElem.Elements.{part, picked, total, seqs, pattern, made, elements}
use Rattle.smpl_body.proofs.SmplElem.PartLemmas.{kids-Branch}
use Rattle.smpl_body.proofs.SmplElem.CountLemmas.{elements-row}
use Rattle.sound_laws.specs.SmplLeaves.Leaves.{code, woven, head_tokens, element_tokens, body_tokens}
use Rattle.sound_laws.specs.SmplLeaves.Shapes.{is_sign, lists_and_signs, has_shape}
use Rattle.sound_laws.proofs.SmplLeaves.CountedLemmas.{code-append, code-both, alone, sign-lost}
use Rattle.sound_laws.proofs.SmplLeaves.ChildLemmas.{Kept, AllKept, joined, apart, list-kept, inner-kept, both-true, choice-kept, own, head-kept}
use Rattle.sound_laws.proofs.SmplLeaves.DoLemmas.{tail_own, do-kept}

-- ---- branches

pub label-Branch : (l : Label) (cs : List Tree) → label_at (Branch l cs) ≡ l
label-Branch l cs = ap label_in (out-Branch l cs)

pub form-Branch : (l : Label) (cs : List Tree) → form_at (Branch l cs) ≡ form_of l cs
form-Branch l cs = ap form_in (out-Branch l cs)

pub masked-Branch : (s : Spot) (l : Label) (cs : List Tree) → masked s (Branch l cs) ≡ Branch l (masked_from (is_held s l (length cs)) 0 cs)
masked-Branch s l cs = ap (masked_in s (Branch l cs)) (out-Branch l cs)

-- the elements of a branch of this form
pub branch-made : (l : Label) (cs : List Tree) (f : Form) (gap : ℕ → Dots) (n : ℕ) → form_of l cs ≡ f
    → elements gap n (Branch l cs)
    ≡ made f gap (Branch l cs) n (seqs gap (n + before f) (picked f l (length cs) 0 (map part cs)))
    (n + before f + total (picked f l (length cs) 0 (map part cs)))
branch-made l cs f gap n e =
    let t = Branch l cs in
    let ef = form-Branch l cs ∙ e in
    let el = label-Branch l cs in
    let ek = kids-Branch l cs in
    elements-row t gap n
    ∙ (λ i. made (ef i) gap t n (seqs gap (n + before (ef i)) (picked (ef i) (el i) (length (ek i)) 0 (map part (ek i))))
    (n + before (ef i) + total (picked (ef i) (el i) (length (ek i)) 0 (map part (ek i)))))

abbrev pub tokens_of : List Elem → List Token
tokens_of es = body_tokens (body es)

-- one pattern
pub whole-kept : (t : Tree) (n : ℕ) (s : Spot) → code (tokens_of (elem.Atom (pattern n s t) ∷ [])) ≡ code (leaves t)
whole-kept t n s = ap code (alone (elem.Atom (pattern n s t)) ∙ ap element_tokens (element-Atom (pattern n s t)))

pub expression-kept : (l : Label) (cs : List Tree) → form_of l cs ≡ form.Expression → Kept (Branch l cs)
expression-kept l cs e gap n = ap (λ es. code (tokens_of es)) (branch-made l cs form.Expression gap n e) ∙ whole-kept (Branch l cs) n spot.Inside

pub plain-kept : (l : Label) (cs : List Tree) → form_of l cs ≡ form.Plain → Kept (Branch l cs)
plain-kept l cs e gap n = ap (λ es. code (tokens_of es)) (branch-made l cs form.Plain gap n e) ∙ whole-kept (Branch l cs) n spot.Whole

pub statements-kept : (cs : List Tree) → AllKept cs → Kept (Branch label.StmtList cs)
statements-kept cs g gap n =
    ap (λ es. code (tokens_of es)) (branch-made label.StmtList cs form.List gap n refl)
    ∙ (list-kept gap cs label.StmtList (length cs) 0 (n + 0) g ∙ ap code (sym (leaves-Branch label.StmtList cs)))

pub any-kept : (l : Label) (cs : List Tree) → form_of l cs ≡ form.AnyOf → lists_and_signs cs ≡ true → AllKept cs → Kept (Branch l cs)
any-kept l cs e s g gap n =
    let bs = seqs gap (n + 0) (picked form.AnyOf l (length cs) 0 (map part cs)) in
    ap (λ es. code (tokens_of es)) (branch-made l cs form.AnyOf gap n e)
    ∙ (ap code (alone (elem.AnyOf bs) ∙ ap element_tokens (element-AnyOf bs))
    ∙ (choice-kept gap form.AnyOf (λ l n i c. refl) cs l (length cs) 0 (n + 0) s g ∙ ap code (sym (leaves-Branch l cs))))

pub all-kept : (l : Label) (cs : List Tree) → form_of l cs ≡ form.AllOf → lists_and_signs cs ≡ true → AllKept cs → Kept (Branch l cs)
all-kept l cs e s g gap n =
    let bs = seqs gap (n + 0) (picked form.AllOf l (length cs) 0 (map part cs)) in
    ap (λ es. code (tokens_of es)) (branch-made l cs form.AllOf gap n e)
    ∙ (ap code (alone (elem.AllOf bs) ∙ ap element_tokens (element-AllOf bs))
    ∙ (choice-kept gap form.AllOf (λ l n i c. refl) cs l (length cs) 0 (n + 0) s g ∙ ap code (sym (leaves-Branch l cs))))

pub or-by : (b : Bool) (cs : List Tree) → is_list_at (slice_get cs 1) ≡ b → has_shape label.PatOr cs ≡ true → AllKept cs → Kept (Branch label.PatOr cs)
or-by true cs e s g =
    any-kept label.PatOr cs (ap (λ b. if b then form.AnyOf else form.Expression) e) (ap (λ b. if b then lists_and_signs cs else true) (sym e) ∙ s) g
or-by false cs e s g = expression-kept label.PatOr cs (ap (λ b. if b then form.AnyOf else form.Expression) e)

pub and-by : (b : Bool) (cs : List Tree) → is_list_at (slice_get cs 1) ≡ b → has_shape label.PatAnd cs ≡ true → AllKept cs → Kept (Branch label.PatAnd cs)
and-by true cs e s g =
    all-kept label.PatAnd cs (ap (λ b. if b then form.AllOf else form.Expression) e) (ap (λ b. if b then lists_and_signs cs else true) (sym e) ∙ s) g
and-by false cs e s g = expression-kept label.PatAnd cs (ap (λ b. if b then form.AllOf else form.Expression) e)

pub block-kept : (cs : List Tree) → has_shape label.Block cs ≡ true → AllKept cs → Kept (Branch label.Block cs)
block-kept [] s g gap n = absurd (false≢true s)
block-kept (a ∷ []) s g gap n = absurd (false≢true s)
block-kept (a ∷ b ∷ cs) s g gap n =
    let all = a ∷ b ∷ cs in
    let t = Branch label.Block all in
    let m = length all in
    let ps = picked form.Block label.Block m 1 (map part (b ∷ cs)) in
    let last = n + 1 + total ps in
    let o = pattern n spot.Whole (first_kid (kids t)) in
    let c = pattern last spot.Whole (last_kid (kids t)) in
    let held = join (seqs gap (n + 1) ps) in
    let k = kids-Branch label.Block all in
    let inner = joined gap (n + 1) ps in
    ap (λ es. code (tokens_of es)) (branch-made label.Block all form.Block gap n refl)
    ∙ (ap code (alone (elem.Block o held c) ∙ ap element_tokens (element-Block o held c))
    ∙ ((λ i. code (leaves (first_kid (k i)) ++ inner ++ leaves (last_kid (k i))))
    ∙ (ap code (append_assoc (leaves a) inner (leaves (last_kid (b ∷ cs))))
    ∙ (code-both (leaves a) (inner ++ leaves (last_kid (b ∷ cs))) (leaves a) (join (map leaves (b ∷ cs))) refl
    (inner-kept gap form.Block (λ l n i c. refl) b cs label.Block m 1 (n + 1) (omega arith) (omega arith) g.1)
    ∙ ap code (sym (leaves-Branch label.Block all))))))

pub nest-kept : (cs : List Tree) → has_shape label.PatNest cs ≡ true → AllKept cs → Kept (Branch label.PatNest cs)
nest-kept [] s g gap n = absurd (false≢true s)
nest-kept (a ∷ []) s g gap n = absurd (false≢true s)
nest-kept (a ∷ b ∷ cs) s g gap n =
    let all = a ∷ b ∷ cs in
    let t = Branch label.PatNest all in
    let m = length all in
    let ps = picked form.Nest label.PatNest m 1 (map part (b ∷ cs)) in
    let d = gap (id_at (last_kid (kids t))) in
    let often = is_more (first_kid (kids t)) in
    let held = join (seqs gap (n + 0) ps) in
    let inner = joined gap (n + 0) ps in
    let shape = both-true gap (nat_lt 1 (length all)) (is_sign a && is_sign (last_kid (b ∷ cs))) s in
    let signs = both-true gap (is_sign a) (is_sign (last_kid (b ∷ cs))) shape.1 in
    let end = leaves (last_kid (b ∷ cs)) in
    let lost : code (inner ++ end) ≡ code inner =
    code-append inner end ∙ (ap (λ x. code inner ++ x) (sign-lost (last_kid (b ∷ cs)) signs.1) ∙ append-nil (code inner)) in
    let rest = join (map leaves (b ∷ cs)) in
    let begun : code (leaves a ++ rest) ≡ code rest = code-append (leaves a) rest ∙ ap (λ x. x ++ code rest) (sign-lost a signs.0) in
    ap (λ es. code (tokens_of es)) (branch-made label.PatNest all form.Nest gap n refl)
    ∙ (ap code (alone (elem.Nest often held d) ∙ ap element_tokens (element-Nest often held d))
    ∙ (sym lost
    ∙ (inner-kept gap form.Nest (λ l n i c. refl) b cs label.PatNest m 1 (n + 0) (omega arith) (omega arith) g.1
    ∙ (sym begun ∙ ap code (sym (leaves-Branch label.PatNest all))))))

pub masked-length : (own : ℕ → Bool) (i : ℕ) (cs : List Tree) → length (masked_from own i cs) ≡ length cs
masked-length own i [] = refl
masked-length own i (c ∷ cs) = ap suc (masked-length own (i + 1) cs)

-- the tokens of a head and of its bodies, woven by the children of its branch
pub head-woven : (l : Label) (cs : List Tree) (ts : List (List Token)) → head_tokens (masked spot.Whole (Branch l cs) ∷ []) ts
    ≡ woven l (length cs) 0 (masked_from (is_held spot.Whole l (length cs)) 0 cs) ts
head-woven l cs ts =
    let ms = masked_from (is_held spot.Whole l (length cs)) 0 cs in
    let em = masked-Branch spot.Whole l cs in
    let el = label-Branch l ms in
    let ek = kids-Branch l ms in
    let en = masked-length (is_held spot.Whole l (length cs)) 0 cs in
    ap (λ t. woven (label_at t) (length (kids t)) 0 (kids t) ts) em
    ∙ ((λ i. woven (el i) (length (ek i)) 0 (ek i) ts) ∙ ap (λ m. woven l m 0 ms ts) en)

pub compound-kept : (l : Label) (cs : List Tree) → form_of l cs ≡ form.Head → ((i : ℕ) → is_tail l i ≡ false) → AllKept cs → Kept (Branch l cs)
compound-kept l cs e nt g gap n =
    let ps = picked form.Head l (length cs) 0 (map part cs) in
    let bs = seqs gap (n + 1) ps in
    let h = pattern n spot.Whole (masked spot.Whole (Branch l cs)) in
    let tail : Option Pattern = None in
    ap (λ es. code (tokens_of es)) (branch-made l cs form.Head gap n e)
    ∙ (ap code (alone (elem.Compound h bs tail) ∙ (ap element_tokens (element-Compound h bs tail) ∙ append-nil (head_tokens h.forms (apart gap (n + 1) ps))))
    ∙ (ap code (head-woven l cs (apart gap (n + 1) ps))
    ∙ (head-kept gap l nt cs (length cs) 0 (n + 1) g ∙ ap code (sym (leaves-Branch l cs)))))

pub do-branch : (cs : List Tree) → AllKept cs → Kept (Branch label.Do cs)
do-branch cs g gap n =
    let t = Branch label.Do cs in
    let m = length cs in
    let ps = picked form.Do label.Do m 0 (map part cs) in
    let bs = seqs gap (n + 1) ps in
    let last = n + 1 + total ps in
    let h = pattern n spot.Whole (masked spot.Whole t) in
    let tail = pattern last spot.Tail (masked spot.Tail t) in
    let woven-head = head-woven label.Do cs (apart gap (n + 1) ps) in
    let tail-leaves : leaves (masked spot.Tail t) ≡ join (map leaves (masked_from (tail_own m) 0 cs)) =
    ap leaves (masked-Branch spot.Tail label.Do cs) ∙ leaves-Branch label.Do (masked_from (tail_own m) 0 cs) in
    ap (λ es. code (tokens_of es)) (branch-made label.Do cs form.Do gap n refl)
    ∙ (ap code (alone (elem.Compound h bs (Some tail)) ∙ ap element_tokens (element-Compound h bs (Some tail)))
    ∙ ((λ i. code (woven-head i ++ tail-leaves i))
    ∙ (do-kept gap cs m (n + 1) g ∙ ap code (sym (leaves-Branch label.Do cs)))))
