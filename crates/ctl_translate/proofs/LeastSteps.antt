-- Lower bounds for the number of subformulas, element by element and branch by branch.
use Rattle.std.proofs.Common.{◌≡◌, ℕ, suc, ◌+◌, ◌-◌, ◌*◌, ◌<◌, ◌≤◌, refl, ap, ◌∙◌, subst, List, [], ◌∷◌, length, drop, get_or, arith, length-drop}
use Rattle.std.proofs.lemmas.Nat.{mul-le}
use Rattle.smpl_patch.specs.declared.elem.Elem.{Elem}
use Rattle.smpl_patch.specs.Bodies.{body, element}
use Rattle.smpl_patch.specs.Shapes.{count}
use Rattle.smpl_patch.proofs.BodyLemmas.{bodies}
use Rattle.ctl_translate.specs.Least.{Least, least_element, least_body, least_alone, least_choices}
use Rattle.ctl_translate.proofs.LeastLemmas.{IsLeastOf, least-more}
use Rattle.pattern_vars.proofs.VarPlaces.KeptLemmas.{drop-here}

pub body-more : (es : List Elem) (e : Elem) (i pf pt ef et nf nt : ℕ) → i < length es → e ≡ get_or es i e
    → IsLeastOf pf pt (least_body (body (drop i es))) (least_body (body es)) → ef ≤ (least_element (element e)).fixed → et ≤ (least_element (element e)).times
    → nf ≤ pf + pt * ef → nt ≤ pt * et → IsLeastOf nf nt (least_body (body (drop (i + 1) es))) (least_body (body es))
body-more es e i pf pt ef et nf nt l q h j k u v =
    let P : List Elem → Type 0 = λ z. IsLeastOf pf pt (least_body (body z)) (least_body (body es)) in
    least-more (least_element (element e)) (least_body (body (drop (i + 1) es))) (least_body (body es)) pf pt ef et nf nt
    (subst P (drop-here es i e l q) h) j k u v

alone-sum : (n one next first rest all : ℕ) → n + (first + rest) ≤ all → one ≤ first → next ≤ n + one → next + rest ≤ all
alone-sum n one next first rest all h j k = omega (arith, h, j, k)

pub alone-more : (bs : List (List Elem)) (x y : List Elem) (i n one next : ℕ) → i < length bs → x ≡ get_or bs i x → y ≡ x
    → n + least_alone (bodies (drop i bs)) ≤ least_alone (bodies bs) → one ≤ (least_body (body y)).fixed → next ≤ n + one
    → next + least_alone (bodies (drop (i + 1) bs)) ≤ least_alone (bodies bs)
alone-more bs x y i n one next l q p h j k =
    let P : List (List Elem) → Type 0 = λ z. n + least_alone (bodies z) ≤ least_alone (bodies bs) in
    let Q : List Elem → Type 0 = λ z. one ≤ (least_body (body z)).fixed in
    alone-sum n one next (least_body (body x)).fixed (least_alone (bodies (drop (i + 1) bs))) (least_alone (bodies bs))
    (subst P (drop-here bs i x l q) h) (subst Q p j) k

pub count-bodies : (bs : List (List Elem)) → count (bodies bs) ≡ length bs
count-bodies [] = refl
count-bodies (b ∷ bs) = ap suc (count-bodies bs)

later-branches : (bs : List (List Elem)) (i : ℕ) → i < length bs → length bs - 1 - i ≡ count (bodies (drop (i + 1) bs))
later-branches bs i l =
    let c = count-bodies (drop (i + 1) bs) in
    let d = length-drop (i + 1) bs in
    omega (arith, c, d, l)

-- the branches so far, followed by the rest, are at most all
pub record AreLeastOf (fixed times : ℕ) (rest all : Least) : Type 0 where
  pub below : fixed + rest.fixed ≤ all.fixed
  pub often : times + rest.times ≤ all.times

branch-sum : (pf lf of later c nf rest all : ℕ) → pf + (lf + c * (2 + lf) + rest) ≤ all → of ≤ lf → later ≡ c
    → nf ≤ pf + (of + later * (2 + of)) → nf + rest ≤ all
branch-sum pf lf of later c nf rest all h j q k =
    let m = mul-le later (2 + of) c (2 + lf) (omega (arith, q)) (omega (arith, j)) in
    omega (arith, h, j, k, m)

pub choices-more : (bs : List (List Elem)) (x y : List Elem) (i pf pt of ot later nf nt : ℕ) → i < length bs → x ≡ get_or bs i x → y ≡ x
    → AreLeastOf pf pt (least_choices (bodies (drop i bs))) (least_choices (bodies bs))
    → of ≤ (least_body (body y)).fixed → ot ≤ (least_body (body y)).times → later ≡ length bs - 1 - i
    → nf ≤ pf + (of + later * (2 + of)) → nt ≤ pt + ot
    → AreLeastOf nf nt (least_choices (bodies (drop (i + 1) bs))) (least_choices (bodies bs))
choices-more bs x y i pf pt of ot later nf nt l q p h j k o u v =
    let P : List (List Elem) → Type 0 = λ z. AreLeastOf pf pt (least_choices (bodies z)) (least_choices (bodies bs)) in
    let s = subst P (drop-here bs i x l q) h in
    let F : List Elem → Type 0 = λ z. of ≤ (least_body (body z)).fixed in
    let T : List Elem → Type 0 = λ z. ot ≤ (least_body (body z)).times in
    let rest = bodies (drop (i + 1) bs) in
    record {
      below = branch-sum pf (least_body (body x)).fixed of later (count rest) nf (least_choices rest).fixed (least_choices (bodies bs)).fixed
          s.below (subst F p j) (o ∙ later-branches bs i l) u;
      often = alone-sum pt ot nt (least_body (body x)).times (least_choices rest).times (least_choices (bodies bs)).times s.often (subst T p k) v;
    }
