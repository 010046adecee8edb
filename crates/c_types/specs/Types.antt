-- Types as they are compared and taken apart. What a type is derived from: ISO/IEC 9899:2011, 6.2.5.
use Rattle.std.specs.Prelude.{ℕ, Bool, true, false, ◌&&◌, not, List, [], ◌∷◌, Option, None, Some}
use Rattle.c_terms.specs.Same.{same_bytes}
use Rattle.c_types.specs.declared.ty.Ty.{Ty, out-Ty}
use Rattle.c_types.specs.declared.ty.Ty.TheOpen.{Ty-F}
use Rattle.c_types.specs.declared.ty.Ty.TheVariants.{Ptr, Fun}
use Rattle.c_types.specs.declared.ty.Ty.TheFolds.{fold-Ty}

abbrev pub same_words : List (List ℕ) → List (List ℕ) → Bool
same_words [] [] = true
same_words [] (b ∷ bs) = false
same_words (a ∷ as') [] = false
same_words (a ∷ as') (b ∷ bs) = same_bytes a b && same_words as' bs

abbrev pub same_flag : Bool → Bool → Bool
same_flag true b = b
same_flag false b = not b

abbrev pub same_at : Ty-F (Ty → Bool) → Ty-F Ty → Bool
same_at (Ty-F.Basic a) (Ty-F.Basic b) = same_words a b
same_at (Ty-F.Named a) (Ty-F.Named b) = same_bytes a b
same_at (Ty-F.Tag u a) (Ty-F.Tag v b) = same_flag u v && same_bytes a b
same_at (Ty-F.Enumer a) (Ty-F.Enumer b) = same_bytes a b
same_at (Ty-F.Ptr f) (Ty-F.Ptr t) = f t
same_at (Ty-F.Array f) (Ty-F.Array t) = f t
same_at (Ty-F.Fun f) (Ty-F.Fun t) = f t
same_at _ _ = false

abbrev pub same_step : Ty-F (Ty → Bool) → Ty → Bool
same_step layer t = same_at layer (out-Ty t)

-- equal in every part
abbrev pub same_type : Ty → Ty → Bool
same_type = fold-Ty (Ty → Bool) same_step

abbrev pub element_in : Ty-F Ty → Option Ty
element_in (Ty-F.Ptr t) = Some t
element_in (Ty-F.Array t) = Some t
element_in _ = None

-- what a pointer points to, or what an array is of
abbrev pub element : Ty → Option Ty
element t = element_in (out-Ty t)

abbrev pub target_in : Ty-F Ty → Option Ty
target_in (Ty-F.Ptr t) = Some t
target_in _ = None

-- what a pointer points to
abbrev pub target : Ty → Option Ty
target t = target_in (out-Ty t)

abbrev pub returned_in : Ty-F Ty → Option Ty
returned_in (Ty-F.Fun t) = Some t
returned_in _ = None

-- what a function returns
abbrev pub returned : Ty → Option Ty
returned t = returned_in (out-Ty t)

abbrev pub called_in : Ty-F Ty → Option Ty
called_in (Ty-F.Fun t) = Some t
called_in (Ty-F.Ptr t) = returned t
called_in _ = None

-- what a function returns, or one that a pointer points to (6.5.2.2)
abbrev pub called : Ty → Option Ty
called t = called_in (out-Ty t)

abbrev pub adjusted_in : Ty-F Ty → Ty → Ty
adjusted_in (Ty-F.Array u) t = Ptr u
adjusted_in (Ty-F.Fun u) t = Ptr (Fun u)
adjusted_in _ t = t

-- what a parameter that is declared with this type has: a pointer in place of an array or a function (6.7.6.3)
abbrev pub adjusted : Ty → Ty
adjusted t = adjusted_in (out-Ty t) t
