-- Types that are the same are equal.
use Rattle.std.proofs.Common.{◌≡◌, ℕ, Bool, true, false, ◌&&◌, refl, sym, ap, subst, ◌∙◌, true≢false, List, [], ◌∷◌}
use Rattle.c_terms.specs.Same.{same_bytes}
use Rattle.c_terms.proofs.SameLaws.{bytes-refl}
use Rattle.c_terms.proofs.BareLaws.{same_bytes-equal}
use Rattle.c_types.specs.declared.ty.Ty.{Ty, out-Ty}
use Rattle.c_types.specs.declared.ty.Ty.TheOpen.{Ty-F}
use Rattle.c_types.specs.declared.ty.Ty.TheBlock.{the_family, member-Ty}
use Rattle.c_types.specs.declared.ty.Ty.TheFolds.{ind-Ty, claims, map-Ty, fold-roll-Ty}
use Rattle.c_types.specs.declared.ty.Ty.TheViews.{roll-Ty, out-roll-Ty}
use Rattle.c_types.specs.Types.{same_words, same_flag, same_at, same_step, same_type}
use Rattle.type_laws.proofs.KeyLemmas.{and-first, and-second}
use denote.Hole.Holds.{Such}

-- ---- words

words-equal : (xs ys : List (List ℕ)) → same_words xs ys ≡ true → xs ≡ ys
words-equal [] [] h = refl
words-equal [] (y ∷ ys) h = absurd (true≢false (sym h))
words-equal (x ∷ xs) [] h = absurd (true≢false (sym h))
words-equal (x ∷ xs) (y ∷ ys) h =
    let word = same_bytes-equal x y (and-first (same_bytes x y) (same_words xs ys) h) in
    let rest = words-equal xs ys (and-second (same_bytes x y) (same_words xs ys) h) in
    λ i. word i ∷ rest i

words-refl : (xs : List (List ℕ)) → same_words xs xs ≡ true
words-refl [] = refl
words-refl (x ∷ xs) = ap (λ b. b && same_words xs xs) (bytes-refl x) ∙ words-refl xs

flags-equal : (a b : Bool) → same_flag a b ≡ true → a ≡ b
flags-equal true true h = refl
flags-equal true false h = absurd (true≢false (sym h))
flags-equal false true h = absurd (true≢false (sym h))
flags-equal false false h = refl

flag-refl : (a : Bool) → same_flag a a ≡ true
flag-refl true = refl
flag-refl false = refl

-- ---- types

-- a type in which each type inside it has the property
abbrev Holds : (Ty → Type 0) → Type 0
Holds P = Such the_family (claims P) member-Ty

-- the outermost form, and the types inside it
abbrev form : (P : Ty → Type 0) → Ty-F (Holds P) → Ty-F Ty
form P y = map-Ty (Holds P) Ty (λ e. e.0) y

by_form : (P : Ty → Type 0) → ((y : Ty-F (Holds P)) → P (roll-Ty (form P y))) → (t : Ty) → P t
by_form P layer = ind-Ty P (λ x y e. subst (λ z. P (roll-Ty z)) e (layer y))

roll-out : (t : Ty) → roll-Ty (out-Ty t) ≡ t
roll-out = ind-Ty (λ t. roll-Ty (out-Ty t) ≡ t) (λ x y e. ap roll-Ty (out-roll-Ty x))

-- types are compared by their forms
at_form : (y : Ty-F Ty) (t : Ty) → same_type (roll-Ty y) t ≡ same_at (map-Ty Ty (Ty → Bool) same_type y) (out-Ty t)
at_form y t = ap (λ (f : Ty → Bool). f t) (fold-roll-Ty (Ty → Bool) same_step y)

abbrev Equal : Ty → Type 0
Equal s = (t : Ty) → same_type s t ≡ true → s ≡ t

forms-equal : (y : Ty-F (Holds Equal)) (z : Ty-F Ty) → same_at (map-Ty Ty (Ty → Bool) same_type (form Equal y)) z ≡ true → form Equal y ≡ z
forms-equal (Ty-F.Basic a) (Ty-F.Basic b) h = ap (λ x. Ty-F.Basic x) (words-equal a b h)
forms-equal (Ty-F.Named a) (Ty-F.Named b) h = ap (λ x. Ty-F.Named x) (same_bytes-equal a b h)
forms-equal (Ty-F.Tag u a) (Ty-F.Tag v b) h =
    let flag = flags-equal u v (and-first (same_flag u v) (same_bytes a b) h) in
    let name = same_bytes-equal a b (and-second (same_flag u v) (same_bytes a b) h) in
    λ i. Ty-F.Tag (flag i) (name i)
forms-equal (Ty-F.Enumer a) (Ty-F.Enumer b) h = ap (λ x. Ty-F.Enumer x) (same_bytes-equal a b h)
forms-equal (Ty-F.Ptr e) (Ty-F.Ptr t) h = ap (λ x. Ty-F.Ptr x) (e.1 t h)
forms-equal (Ty-F.Array e) (Ty-F.Array t) h = ap (λ x. Ty-F.Array x) (e.1 t h)
forms-equal (Ty-F.Fun e) (Ty-F.Fun t) h = ap (λ x. Ty-F.Fun x) (e.1 t h)
forms-equal (Ty-F.Basic a) _ h = absurd (true≢false (sym h))
forms-equal (Ty-F.Named a) _ h = absurd (true≢false (sym h))
forms-equal (Ty-F.Tag u a) _ h = absurd (true≢false (sym h))
forms-equal (Ty-F.Enumer a) _ h = absurd (true≢false (sym h))
forms-equal (Ty-F.Ptr e) _ h = absurd (true≢false (sym h))
forms-equal (Ty-F.Array e) _ h = absurd (true≢false (sym h))
forms-equal (Ty-F.Fun e) _ h = absurd (true≢false (sym h))

pub type-equal : (s t : Ty) → same_type s t ≡ true → s ≡ t
type-equal = by_form Equal (λ y t h. ap roll-Ty (forms-equal y (out-Ty t) (sym (at_form (form Equal y) t) ∙ h)) ∙ roll-out t)

abbrev Same : Ty → Type 0
Same t = same_type t t ≡ true

form-refl : (y : Ty-F (Holds Same)) → same_at (map-Ty Ty (Ty → Bool) same_type (form Same y)) (form Same y) ≡ true
form-refl (Ty-F.Basic a) = words-refl a
form-refl (Ty-F.Named a) = bytes-refl a
form-refl (Ty-F.Tag u a) = ap (λ b. b && same_bytes a a) (flag-refl u) ∙ bytes-refl a
form-refl (Ty-F.Enumer a) = bytes-refl a
form-refl (Ty-F.Ptr e) = e.1
form-refl (Ty-F.Array e) = e.1
form-refl (Ty-F.Fun e) = e.1

pub type-refl : (t : Ty) → same_type t t ≡ true
type-refl = by_form Same
    (λ y. at_form (form Same y) (roll-Ty (form Same y))
    ∙ ap (same_at (map-Ty Ty (Ty → Bool) same_type (form Same y))) (out-roll-Ty (form Same y)) ∙ form-refl y)
