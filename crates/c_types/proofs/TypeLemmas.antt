-- Types by their form: how they are compared, and when two differ.
use Rattle.std.proofs.Common.{◌≡◌, ℕ, Bool, true, false, ◌&&◌, refl, sym, ap, ◌∙◌, arith, List, [], ◌∷◌, length}
use Rattle.std.proofs.lemmas.Grind.{common_steps}
use Rattle.c_terms.specs.Same.{same_bytes}
use Rattle.c_types.specs.declared.ty.Ty.{Ty, out-Ty}
use Rattle.c_types.specs.declared.ty.Ty.TheOpen.{Ty-F}
use Rattle.c_types.specs.declared.ty.Ty.TheViews.{roll-Ty, out-roll-Ty}
use Rattle.c_types.specs.declared.ty.Ty.TheVariants.{Basic, Named, Tag, Enumer, Ptr, Array, Fun}
use Rattle.c_types.specs.declared.ty.Ty.TheVariants.{rolls-Basic, rolls-Named, rolls-Tag, rolls-Enumer, rolls-Ptr, rolls-Array, rolls-Fun}
use Rattle.c_types.specs.declared.ty.Ty.TheFolds.{ind-Ty, fold-roll-Ty}
use Rattle.c_types.specs.Types.{same_words, same_flag, same_at, same_step, same_type}

-- lists of words of different lengths differ
pub words-uneven : (xs ys : List (List ℕ)) → (length xs ≡ length ys → ⊥) → false ≡ same_words xs ys
words-uneven [] [] h = absurd (h refl)
words-uneven [] (y ∷ ys) h = refl
words-uneven (x ∷ xs) [] h = refl
words-uneven (x ∷ xs) (y ∷ ys) h =
    let r = words-uneven xs ys (λ e. h (omega (arith, e))) in grind (arith, common_steps)

-- a type is what its outermost form makes of the types inside it
roll-out : (t : Ty) → roll-Ty (out-Ty t) ≡ t
roll-out = ind-Ty (λ t. roll-Ty (out-Ty t) ≡ t) (λ x y e. ap roll-Ty (out-roll-Ty x))

at_basic : (a : List (List ℕ)) (t : Ty) → same_type (Basic a) t ≡ same_at (Ty-F.Basic a) (out-Ty t)
at_basic a t = ap (λ s. same_type s t) (sym (rolls-Basic a)) ∙ ap (λ f. f t) (fold-roll-Ty (Ty → Bool) same_step _)

pub same_basic : (a : List (List ℕ)) (b : List (List ℕ)) → same_type (Basic a) (Basic b) ≡ same_words a b
same_basic a b = at_basic a (Basic b) ∙ ap (same_at (Ty-F.Basic a)) (ap out-Ty (sym (rolls-Basic b)) ∙ out-roll-Ty _)

pub basic_apart : (a : List (List ℕ)) (t : Ty) → ((b : List (List ℕ)) → t ≡ Basic b → ⊥) → false ≡ same_type (Basic a) t
basic_apart a t h = sym (at_basic a t ∙ by (out-Ty t) (roll-out t))
  where
    by : (y : Ty-F Ty) → roll-Ty y ≡ t → same_at (Ty-F.Basic a) y ≡ false
    by (Ty-F.Basic b) e = absurd (h b (sym e ∙ rolls-Basic b))
    by _ e = refl

at_named : (a : List ℕ) (t : Ty) → same_type (Named a) t ≡ same_at (Ty-F.Named a) (out-Ty t)
at_named a t = ap (λ s. same_type s t) (sym (rolls-Named a)) ∙ ap (λ f. f t) (fold-roll-Ty (Ty → Bool) same_step _)

pub same_named : (a : List ℕ) (b : List ℕ) → same_type (Named a) (Named b) ≡ same_bytes a b
same_named a b = at_named a (Named b) ∙ ap (same_at (Ty-F.Named a)) (ap out-Ty (sym (rolls-Named b)) ∙ out-roll-Ty _)

pub named_apart : (a : List ℕ) (t : Ty) → ((b : List ℕ) → t ≡ Named b → ⊥) → false ≡ same_type (Named a) t
named_apart a t h = sym (at_named a t ∙ by (out-Ty t) (roll-out t))
  where
    by : (y : Ty-F Ty) → roll-Ty y ≡ t → same_at (Ty-F.Named a) y ≡ false
    by (Ty-F.Named b) e = absurd (h b (sym e ∙ rolls-Named b))
    by _ e = refl

at_tag : (u : Bool) (a : List ℕ) (t : Ty) → same_type (Tag u a) t ≡ same_at (Ty-F.Tag u a) (out-Ty t)
at_tag u a t = ap (λ s. same_type s t) (sym (rolls-Tag u a)) ∙ ap (λ f. f t) (fold-roll-Ty (Ty → Bool) same_step _)

pub same_tag : (u : Bool) (a : List ℕ) (v : Bool) (b : List ℕ) → same_type (Tag u a) (Tag v b) ≡ (same_flag u v && same_bytes a b)
same_tag u a v b = at_tag u a (Tag v b) ∙ ap (same_at (Ty-F.Tag u a)) (ap out-Ty (sym (rolls-Tag v b)) ∙ out-roll-Ty _)

pub tag_apart : (u : Bool) (a : List ℕ) (t : Ty) → ((v : Bool) (b : List ℕ) → t ≡ Tag v b → ⊥) → false ≡ same_type (Tag u a) t
tag_apart u a t h = sym (at_tag u a t ∙ by (out-Ty t) (roll-out t))
  where
    by : (y : Ty-F Ty) → roll-Ty y ≡ t → same_at (Ty-F.Tag u a) y ≡ false
    by (Ty-F.Tag v b) e = absurd (h v b (sym e ∙ rolls-Tag v b))
    by _ e = refl

at_enumer : (a : List ℕ) (t : Ty) → same_type (Enumer a) t ≡ same_at (Ty-F.Enumer a) (out-Ty t)
at_enumer a t = ap (λ s. same_type s t) (sym (rolls-Enumer a)) ∙ ap (λ f. f t) (fold-roll-Ty (Ty → Bool) same_step _)

pub same_enumer : (a : List ℕ) (b : List ℕ) → same_type (Enumer a) (Enumer b) ≡ same_bytes a b
same_enumer a b = at_enumer a (Enumer b) ∙ ap (same_at (Ty-F.Enumer a)) (ap out-Ty (sym (rolls-Enumer b)) ∙ out-roll-Ty _)

pub enumer_apart : (a : List ℕ) (t : Ty) → ((b : List ℕ) → t ≡ Enumer b → ⊥) → false ≡ same_type (Enumer a) t
enumer_apart a t h = sym (at_enumer a t ∙ by (out-Ty t) (roll-out t))
  where
    by : (y : Ty-F Ty) → roll-Ty y ≡ t → same_at (Ty-F.Enumer a) y ≡ false
    by (Ty-F.Enumer b) e = absurd (h b (sym e ∙ rolls-Enumer b))
    by _ e = refl

at_ptr : (a : Ty) (t : Ty) → same_type (Ptr a) t ≡ same_at (Ty-F.Ptr (same_type a)) (out-Ty t)
at_ptr a t = ap (λ s. same_type s t) (sym (rolls-Ptr a)) ∙ ap (λ f. f t) (fold-roll-Ty (Ty → Bool) same_step _)

pub same_ptr : (a : Ty) (b : Ty) → same_type (Ptr a) (Ptr b) ≡ same_type a b
same_ptr a b = at_ptr a (Ptr b) ∙ ap (same_at (Ty-F.Ptr (same_type a))) (ap out-Ty (sym (rolls-Ptr b)) ∙ out-roll-Ty _)

pub ptr_apart : (a : Ty) (t : Ty) → ((b : Ty) → t ≡ Ptr b → ⊥) → false ≡ same_type (Ptr a) t
ptr_apart a t h = sym (at_ptr a t ∙ by (out-Ty t) (roll-out t))
  where
    by : (y : Ty-F Ty) → roll-Ty y ≡ t → same_at (Ty-F.Ptr (same_type a)) y ≡ false
    by (Ty-F.Ptr b) e = absurd (h b (sym e ∙ rolls-Ptr b))
    by _ e = refl

at_array : (a : Ty) (t : Ty) → same_type (Array a) t ≡ same_at (Ty-F.Array (same_type a)) (out-Ty t)
at_array a t = ap (λ s. same_type s t) (sym (rolls-Array a)) ∙ ap (λ f. f t) (fold-roll-Ty (Ty → Bool) same_step _)

pub same_array : (a : Ty) (b : Ty) → same_type (Array a) (Array b) ≡ same_type a b
same_array a b = at_array a (Array b) ∙ ap (same_at (Ty-F.Array (same_type a))) (ap out-Ty (sym (rolls-Array b)) ∙ out-roll-Ty _)

pub array_apart : (a : Ty) (t : Ty) → ((b : Ty) → t ≡ Array b → ⊥) → false ≡ same_type (Array a) t
array_apart a t h = sym (at_array a t ∙ by (out-Ty t) (roll-out t))
  where
    by : (y : Ty-F Ty) → roll-Ty y ≡ t → same_at (Ty-F.Array (same_type a)) y ≡ false
    by (Ty-F.Array b) e = absurd (h b (sym e ∙ rolls-Array b))
    by _ e = refl

at_fun : (a : Ty) (t : Ty) → same_type (Fun a) t ≡ same_at (Ty-F.Fun (same_type a)) (out-Ty t)
at_fun a t = ap (λ s. same_type s t) (sym (rolls-Fun a)) ∙ ap (λ f. f t) (fold-roll-Ty (Ty → Bool) same_step _)

pub same_fun : (a : Ty) (b : Ty) → same_type (Fun a) (Fun b) ≡ same_type a b
same_fun a b = at_fun a (Fun b) ∙ ap (same_at (Ty-F.Fun (same_type a))) (ap out-Ty (sym (rolls-Fun b)) ∙ out-roll-Ty _)

pub fun_apart : (a : Ty) (t : Ty) → ((b : Ty) → t ≡ Fun b → ⊥) → false ≡ same_type (Fun a) t
fun_apart a t h = sym (at_fun a t ∙ by (out-Ty t) (roll-out t))
  where
    by : (y : Ty-F Ty) → roll-Ty y ≡ t → same_at (Ty-F.Fun (same_type a)) y ≡ false
    by (Ty-F.Fun b) e = absurd (h b (sym e ∙ rolls-Fun b))
    by _ e = refl
