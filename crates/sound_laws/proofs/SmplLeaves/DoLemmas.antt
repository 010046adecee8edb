-- The tokens of a `do` are those of its head, its body and its tail.
use Rattle.std.proofs.Common.{◌≡◌, ℕ, ◌+◌, ◌≤◌, refl, ap, ◌∙◌, arith, List, [], ◌∷◌, ◌++◌, map, append_assoc, Bool, true, false}
use Rattle.std.proofs.lemmas.List.{append-nil}
use Rattle.std.proofs.lemmas.Bool.Decides.{nat_tests}
use Rattle.c_terms.specs.declared.label.Label.TheVariants as label
use Rattle.c_terms.specs.declared.tree.Tree.{Tree}
use Rattle.c_terms.specs.Trees.{leaves, join}
use Rattle.c_terms.specs.Shapes.{is_body, is_tail}
use Rattle.c_terms.proofs.TreeLemmas.{leaves-Branch}
use Rattle.smpl_patch.specs.declared.pattern.Spot.TheVariants as spot
use Rattle.smpl_patch.specs.declared.elem.Dots.{Dots}
use Rattle.smpl_patch.specs.Held.{is_held}
use Rattle.smpl_patch.specs.Bodies.{body}
use Rattle.smpl_body.specs.declared.smpl_elem.form.Form.TheVariants as form
use Rattle.smpl_body.specs.SmplElem.Forms.{nothing, masked_from}
use Rattle.smpl_body.specs.SmplElem.Elements.{Part, part, picked, elements}
use Rattle.sound_laws.specs.SmplLeaves.Leaves.{code, woven, body_tokens}
use Rattle.sound_laws.proofs.SmplLeaves.CountedLemmas.{code-both}
use Rattle.sound_laws.proofs.SmplLeaves.ChildLemmas.{AllKept, apart}

-- ---- `do`

pub leaves-nothing : leaves nothing ≡ []
leaves-nothing = leaves-Branch label.StmtList []

abbrev pub head_own : ℕ → ℕ → Bool
head_own n = is_held spot.Whole label.Do n

abbrev pub tail_own : ℕ → ℕ → Bool
tail_own n = is_held spot.Tail label.Do n

pub no-body : (i : ℕ) → 2 ≤ i → is_body label.Do 0 i ≡ false
no-body i h = grind (arith, nat_tests)

pub in-tail : (i : ℕ) → 2 ≤ i → is_tail label.Do i ≡ true
in-tail i h = grind (arith, nat_tests)

-- behind its body a `do` has no parts
pub tail-picked : (n i : ℕ) (ps : List Part) → 2 ≤ i → picked form.Do label.Do n i ps ≡ []
tail-picked n i [] h = refl
tail-picked n i (p ∷ ps) h = rw (no-body i h) (tail-picked n (i + 1) ps (omega (arith, h)))

-- nor tokens of its head
pub tail-woven : (n i : ℕ) (cs : List Tree) → 2 ≤ i → woven label.Do n i (masked_from (head_own n) i cs) [] ≡ []
tail-woven n i [] h = refl
tail-woven n i (c ∷ cs) h =
    rw (no-body i h, in-tail i h, leaves-nothing) (tail-woven n (i + 1) cs (omega (arith, h)))

pub tail-all : (n i : ℕ) (cs : List Tree) → 2 ≤ i → join (map leaves (masked_from (tail_own n) i cs)) ≡ join (map leaves cs)
tail-all n i [] h = refl
tail-all n i (c ∷ cs) h = rw (in-tail i h) (ap (λ x. leaves c ++ x) (tail-all n (i + 1) cs (omega (arith, h))))

pub do-kept : (gap : ℕ → Dots) (cs : List Tree) (n k : ℕ) → AllKept cs
    → code (woven label.Do n 0 (masked_from (head_own n) 0 cs) (apart gap k (picked form.Do label.Do n 0 (map part cs)))
    ++ join (map leaves (masked_from (tail_own n) 0 cs))) ≡ code (join (map leaves cs))
do-kept gap [] n k g = refl
do-kept gap (a ∷ []) n k g = rw leaves-nothing (ap code (append-nil (leaves a ++ [])))
do-kept gap (a ∷ b ∷ cs) n k g =
    let own-b = body_tokens (body (elements gap k b)) in
    let rest : picked form.Do label.Do n 2 (map part cs) ≡ [] = tail-picked n 2 (map part cs) (omega arith) in
    let head : woven label.Do n 2 (masked_from (head_own n) 2 cs) [] ≡ [] = tail-woven n 2 cs (omega arith) in
    let tail : join (map leaves (masked_from (tail_own n) 2 cs)) ≡ join (map leaves cs) = tail-all n 2 cs (omega arith) in
    rw (rest, head, tail, leaves-nothing)
    (ap code (append_assoc (leaves a) (own-b ++ []) (join (map leaves cs)))
    ∙ code-both (leaves a) ((own-b ++ []) ++ join (map leaves cs)) (leaves a) (leaves b ++ join (map leaves cs)) refl
    (ap (λ x. code (x ++ join (map leaves cs))) (append-nil own-b)
    ∙ code-both own-b (join (map leaves cs)) (leaves b) (join (map leaves cs)) (g.1.0 gap k) refl))
