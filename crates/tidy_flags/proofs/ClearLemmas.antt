-- Flags of the parts between the brackets of a list, one part after another.
use Rattle.std.proofs.Common.{◌≡◌, ◌<◌, ◌≤◌, ◌+◌, ◌-◌, ◌&&◌, ◌||◌, ◌⊎◌, inl, inr, ℕ, zero, suc, Bool, true, false, not, refl, sym, ap, ◌∙◌, arith, subst}
use Rattle.std.proofs.Common.{List, [], ◌∷◌, ◌++◌, append_assoc, length, get_or, take, drop, set}
use Rattle.std.specs.Prelude.{Option, None, Some, IfSome, if◌then◌else◌}
use Rattle.std.specs.List.{items_where_true, list_any}
use Rattle.std.proofs.lemmas.List.{append-nil, drop_all, drop_more, drop-set-lt, take_all, take_more, take_more_set}
use Rattle.tidy_flags.specs.declared.signs.Sign.{Sign}
use Rattle.tidy_flags.specs.declared.signs.Sign.TheVariants as sign
use Rattle.tidy_flags.specs.declared.signs.ListState.{ListState}
use Rattle.tidy_flags.specs.Signs.{depth_after, is_own_comma, is_token, state_after, stays_early}
use Rattle.tidy_flags.specs.Clearing.{blank_flags, early_flags, ends_blanks, found_after, is_plain_sign, last_flags, last_from}

-- one part more
module _ (signs : List Sign) (flags : List Bool) (at : ℕ) (x : Sign) (within : at < length signs) (fits : at < length flags) (is : x ≡ get_or signs at x) where
  sign_here : drop at signs ≡ x ∷ drop (at + 1) signs
  sign_here = drop_more signs at x within ∙ ap (λ (y : Sign). y ∷ drop (at + 1) signs) (sym is)

  flag_here : (f : Bool) → get_or flags at false ≡ f → drop at flags ≡ f ∷ drop (at + 1) flags
  flag_here f e = drop_more flags at false fits ∙ ap (λ (y : Bool). y ∷ drop (at + 1) flags) e

  taken : (f : Bool) → get_or flags at false ≡ f → take (at + 1) flags ≡ take at flags ++ f ∷ []
  taken f e = take_more flags at false fits ∙ ap (λ (y : Bool). take at flags ++ y ∷ []) e

  -- flags that begin with that of this part
  same_more : (f : Bool) (rest whole : List Bool) → get_or flags at false ≡ f → whole ≡ f ∷ rest → take (at + 1) flags ++ rest ≡ take at flags ++ whole
  same_more f rest whole e split =
      ap (λ (l : List Bool). l ++ rest) (taken f e) ∙ append_assoc (take at flags) (f ∷ []) rest ∙ ap (λ (l : List Bool). take at flags ++ l) (sym split)

  -- and after this flag was written
  set_more : (v : Bool) (new rest whole : List Bool) → new ≡ set flags at v → whole ≡ v ∷ rest → take (at + 1) new ++ rest ≡ take at flags ++ whole
  set_more v new rest whole e split =
      ap (λ (l : List Bool). take (at + 1) l ++ rest) e
      ∙ ap (λ (l : List Bool). l ++ rest) (take_more_set flags at v fits)
      ∙ append_assoc (take at flags) (v ∷ []) rest
      ∙ ap (λ (l : List Bool). take at flags ++ l) (sym split)

  set_rest : (v : Bool) (new : List Bool) → new ≡ set flags at v → drop (at + 1) new ≡ drop (at + 1) flags
  set_rest v new e = ap (drop (at + 1)) e ∙ drop-set-lt (at + 1) flags at v (omega arith)

  pub early_kept : (s : ListState) → get_or flags at false ≡ false
      → take (at + 1) flags ++ early_flags s (drop (at + 1) signs) (drop (at + 1) flags) ≡ take at flags ++ early_flags s (drop at signs) (drop at flags)
  early_kept s e = same_more false (early_flags s (drop (at + 1) signs) (drop (at + 1) flags)) (early_flags s (drop at signs) (drop at flags)) e
      (λ i. early_flags s (sign_here i) (flag_here false e i))

  pub early_set : (s : ListState) (new : List Bool) → get_or flags at false ≡ true → new ≡ set flags at (stays_early s x)
      → take (at + 1) new ++ early_flags (state_after s x) (drop (at + 1) signs) (drop (at + 1) new) ≡ take at flags ++ early_flags s (drop at signs) (drop at flags)
  early_set s new e is_new =
      ap (λ (l : List Bool). take (at + 1) new ++ early_flags (state_after s x) (drop (at + 1) signs) l) (set_rest (stays_early s x) new is_new)
      ∙ set_more (stays_early s x) new (early_flags (state_after s x) (drop (at + 1) signs) (drop (at + 1) flags)) (early_flags s (drop at signs) (drop at flags)) is_new
      (λ i. early_flags s (sign_here i) (flag_here true e i))

  pub last_more : (depth : ℕ) (found : Option ℕ) (f : Bool) → get_or flags at false ≡ f
      → last_from at depth found (drop at signs) (drop at flags)
      ≡ last_from (at + 1) (if f then depth_after depth x else depth) (if f then found_after depth at found x else found) (drop (at + 1) signs) (drop (at + 1) flags)
  last_more depth found f e =
      (λ i. last_from at depth found (sign_here i) (flag_here f e i))
      ∙ elim f as (λ y. last_from at depth found (x ∷ drop (at + 1) signs) (y ∷ drop (at + 1) flags)
      ≡ last_from (at + 1) (if y then depth_after depth x else depth) (if y then found_after depth at found x else found)
      (drop (at + 1) signs) (drop (at + 1) flags)) [ true ↦ refl | false ↦ refl ]

  pub blank_kept : get_or flags at false ≡ false
      → take (at + 1) flags ++ blank_flags (drop (at + 1) signs) (drop (at + 1) flags) ≡ take at flags ++ blank_flags (drop at signs) (drop at flags)
  blank_kept e = same_more false (blank_flags (drop (at + 1) signs) (drop (at + 1) flags)) (blank_flags (drop at signs) (drop at flags)) e
      (λ i. blank_flags (sign_here i) (flag_here false e i))

  blank_is : get_or flags at false ≡ true → blank_flags (drop at signs) (drop at flags)
      ≡ (if ends_blanks x then true ∷ drop (at + 1) flags else not (is_plain_sign x) ∷ blank_flags (drop (at + 1) signs) (drop (at + 1) flags))
  blank_is e = λ i. blank_flags (sign_here i) (flag_here true e i)

  pub blank_ends : get_or flags at false ≡ true → ends_blanks x ≡ true
      → take (at + 1) flags ++ drop (at + 1) flags ≡ take at flags ++ blank_flags (drop at signs) (drop at flags)
  blank_ends e ends = same_more true (drop (at + 1) flags) (blank_flags (drop at signs) (drop at flags)) e
      (blank_is e ∙ ap (λ (y : Bool). if y then true ∷ drop (at + 1) flags
      else not (is_plain_sign x) ∷ blank_flags (drop (at + 1) signs) (drop (at + 1) flags)) ends)

  pub blank_set : (new : List Bool) → get_or flags at false ≡ true → ends_blanks x ≡ false → new ≡ set flags at (not (is_plain_sign x))
      → take (at + 1) new ++ blank_flags (drop (at + 1) signs) (drop (at + 1) new) ≡ take at flags ++ blank_flags (drop at signs) (drop at flags)
  blank_set new e ends is_new =
      ap (λ (l : List Bool). take (at + 1) new ++ blank_flags (drop (at + 1) signs) l) (set_rest (not (is_plain_sign x)) new is_new)
      ∙ set_more (not (is_plain_sign x)) new (blank_flags (drop (at + 1) signs) (drop (at + 1) flags)) (blank_flags (drop at signs) (drop at flags)) is_new
      (blank_is e ∙ ap (λ (y : Bool). if y then true ∷ drop (at + 1) flags
      else not (is_plain_sign x) ∷ blank_flags (drop (at + 1) signs) (drop (at + 1) flags)) ends)

-- no part more

pub flags_end : (flags all rest : List Bool) (at : ℕ) → length flags ≤ at → rest ≡ [] → take at flags ++ rest ≡ all → flags ≡ all
flags_end flags all rest at past none before =
    sym (take_all at flags past) ∙ sym (append-nil (take at flags)) ∙ ap (λ (l : List Bool). take at flags ++ l) (sym none) ∙ before

pub early_none : (s : ListState) (signs : List Sign) (flags : List Bool) (at : ℕ) → length signs ≤ at → length flags ≤ at
    → early_flags s (drop at signs) (drop at flags) ≡ []
early_none s signs flags at none past = λ i. early_flags s (drop_all at signs none i) (drop_all at flags past i)

pub blank_none : (signs : List Sign) (flags : List Bool) (at : ℕ) → length signs ≤ at → length flags ≤ at → blank_flags (drop at signs) (drop at flags) ≡ []
blank_none signs flags at none past = λ i. blank_flags (drop_all at signs none i) (drop_all at flags past i)

pub last_none : (depth : ℕ) (found : Option ℕ) (signs : List Sign) (flags : List Bool) (at : ℕ) → length signs ≤ at → length flags ≤ at
    → last_from at depth found (drop at signs) (drop at flags) ≡ found
last_none depth found signs flags at none past = λ i. last_from at depth found (drop_all at signs none i) (drop_all at flags past i)

-- the last comma, seen from each part on

abbrev pub none_left : List Sign → List Bool → Bool
none_left signs flags = not (list_any is_token (items_where_true flags signs))

-- the flags without the last comma and the blanks behind it
abbrev pub left_last : ℕ → List Sign → List Bool → List Bool
left_last depth [] flags = flags
left_last depth (x ∷ signs) [] = []
left_last depth (x ∷ signs) (false ∷ flags) = false ∷ left_last depth signs flags
left_last depth (x ∷ signs) (true ∷ flags) = if is_own_comma depth x && none_left signs flags then false ∷ blank_flags signs flags
    else true ∷ left_last (depth_after depth x) signs flags

-- the flags without a comma and the blanks behind it, given the place of the first part
abbrev last_at : ℕ → Option ℕ → List Sign → List Bool → List Bool
last_at at None signs flags = flags
last_at at (Some k) signs flags = take (k - at) flags ++ false ∷ blank_flags (drop (k - at + 1) signs) (drop (k - at + 1) flags)

own_is : (d : ℕ) (y : Sign) → is_own_comma d y ≡ true → is_token y ≡ true
own_is d sign.Opening e = refl
own_is d sign.Closing e = refl
own_is d sign.Comma e = refl
own_is d sign.Token e = refl
own_is d sign.Blank e = absurd cc
own_is d sign.Splice e = absurd cc
own_is d sign.Solid e = absurd cc

-- a token settles it
settled : (at depth j : ℕ) (signs : List Sign) (flags : List Bool) → length flags ≡ length signs
    → last_from at depth (Some j) signs flags ≡ (if none_left signs flags then Some j else last_from at depth None signs flags)
settled at depth j [] [] long = refl
settled at depth j [] (f ∷ flags) long = absurd (omega arith)
settled at depth j (x ∷ signs) [] long = absurd (omega arith)
settled at depth j (x ∷ signs) (false ∷ flags) long = settled (at + 1) depth j signs flags (omega arith)
settled at depth j (x ∷ signs) (true ∷ flags) long =
    by (is_own_comma depth x) (is_token x) (own_is depth x) (settled (at + 1) (depth_after depth x) j signs flags (omega arith))
  where
    by : (c t : Bool) → (c ≡ true → t ≡ true)
        → last_from (at + 1) (depth_after depth x) (Some j) signs flags
        ≡ (if none_left signs flags then Some j else last_from (at + 1) (depth_after depth x) None signs flags)
        → last_from (at + 1) (depth_after depth x) (if c then Some at else (if t then None else Some j)) signs flags
        ≡ (if not (t || list_any is_token (items_where_true flags signs)) then Some j
        else last_from (at + 1) (depth_after depth x) (if c then Some at else (if t then None else None)) signs flags)
    by true true h rest = refl
    by true false h rest = let both : false ≡ true = h refl in absurd cc
    by false true h rest = refl
    by false false h rest = rest

-- what is found is no earlier part
no_earlier : (at depth : ℕ) (found : Option ℕ) (signs : List Sign) (flags : List Bool) (k : ℕ) → last_from at depth found signs flags ≡ Some k
    → (found ≡ Some k) ⊎ (at ≤ k)
no_earlier at depth found [] flags k e = inl e
no_earlier at depth found (x ∷ signs) [] k e = inl e
no_earlier at depth found (x ∷ signs) (false ∷ flags) k e = elim (no_earlier (at + 1) depth found signs flags k e) [
  | inl own ↦ inl own
  | inr later ↦ inr (omega arith)
]
no_earlier at depth found (x ∷ signs) (true ∷ flags) k e = elim (no_earlier (at + 1) (depth_after depth x) (found_after depth at found x) signs flags k e) [
  | inl own ↦ by (is_own_comma depth x) (is_token x) own
  | inr later ↦ inr (omega arith)
]
  where
    by : (c t : Bool) → (if c then Some at else (if t then None else found)) ≡ Some k → (found ≡ Some k) ⊎ (at ≤ k)
    by true t own = let same : at ≡ k = cc in inr (omega arith)
    by false true own = absurd cc
    by false false own = inl own

later : (at depth : ℕ) (signs : List Sign) (flags : List Bool) (k : ℕ) → last_from at depth None signs flags ≡ Some k → at ≤ k
later at depth signs flags k e = elim (no_earlier at depth None signs flags k e) [ inl own ↦ absurd cc | inr least ↦ least ]

shift : (at : ℕ) (r : Option ℕ) (x : Sign) (signs : List Sign) (f : Bool) (flags : List Bool) → ((k : ℕ) → r ≡ Some k → at + 1 ≤ k)
    → last_at at r (x ∷ signs) (f ∷ flags) ≡ f ∷ last_at (at + 1) r signs flags
shift at None x signs f flags least = refl
shift at (Some k) x signs f flags least =
    let up : at + 1 ≤ k = least k refl in
    let one : k - at ≡ suc (k - (at + 1)) = omega arith in
    let two : k - at + 1 ≡ suc (k - (at + 1) + 1) = omega arith in
    λ i. take (one i) (f ∷ flags) ++ false ∷ blank_flags (drop (two i) (x ∷ signs)) (drop (two i) (f ∷ flags))

left_step : (at depth : ℕ) (x : Sign) (signs : List Sign) (flags : List Bool) → suc (length flags) ≡ suc (length signs)
    → last_at (at + 1) (last_from (at + 1) (depth_after depth x) None signs flags) signs flags ≡ left_last (depth_after depth x) signs flags
    → last_at at (last_from at depth None (x ∷ signs) (true ∷ flags)) (x ∷ signs) (true ∷ flags) ≡ left_last depth (x ∷ signs) (true ∷ flags)
left_step at depth x signs flags long more = by (is_own_comma depth x) (is_token x)
  where
    goes_on : last_at at (last_from (at + 1) (depth_after depth x) None signs flags) (x ∷ signs) (true ∷ flags) ≡ true ∷ left_last (depth_after depth x) signs flags
    goes_on =
        shift at (last_from (at + 1) (depth_after depth x) None signs flags) x signs true flags (later (at + 1) (depth_after depth x) signs flags)
        ∙ ap (λ (l : List Bool). true ∷ l) more

    here : last_at at (Some at) (x ∷ signs) (true ∷ flags) ≡ false ∷ blank_flags signs flags
    here =
        let one : at - at ≡ 0 = omega arith in
        let two : at - at + 1 ≡ 1 = omega arith in
        λ i. take (one i) (true ∷ flags) ++ false ∷ blank_flags (drop (two i) (x ∷ signs)) (drop (two i) (true ∷ flags))

    either : (n : Bool) → last_at at (if n then Some at else last_from (at + 1) (depth_after depth x) None signs flags) (x ∷ signs) (true ∷ flags)
        ≡ (if n then false ∷ blank_flags signs flags else true ∷ left_last (depth_after depth x) signs flags)
    either true = here
    either false = goes_on

    by : (c t : Bool) → last_at at (last_from (at + 1) (depth_after depth x) (if c then Some at else (if t then None else None)) signs flags) (x ∷ signs) (true ∷ flags)
        ≡ (if c && none_left signs flags then false ∷ blank_flags signs flags else true ∷ left_last (depth_after depth x) signs flags)
    by true t =
        ap (λ (r : Option ℕ). last_at at r (x ∷ signs) (true ∷ flags)) (settled (at + 1) (depth_after depth x) at signs flags (omega arith))
        ∙ either (none_left signs flags)
    by false true = goes_on
    by false false = goes_on

left_is : (at depth : ℕ) (signs : List Sign) (flags : List Bool) → length flags ≡ length signs
    → last_at at (last_from at depth None signs flags) signs flags ≡ left_last depth signs flags
left_is at depth [] [] long = refl
left_is at depth [] (f ∷ flags) long = absurd (omega arith)
left_is at depth (x ∷ signs) [] long = absurd (omega arith)
left_is at depth (x ∷ signs) (false ∷ flags) long =
    shift at (last_from (at + 1) depth None signs flags) x signs false flags (later (at + 1) depth signs flags)
    ∙ ap (λ (l : List Bool). false ∷ l) (left_is (at + 1) depth signs flags (omega arith))
left_is at depth (x ∷ signs) (true ∷ flags) long = left_step at depth x signs flags long (left_is (at + 1) (depth_after depth x) signs flags (omega arith))

from_start : (r : Option ℕ) (signs : List Sign) (flags : List Bool) → last_flags r signs flags ≡ last_at 0 r signs flags
from_start None signs flags = refl
from_start (Some k) signs flags =
    let one : k ≡ k - 0 = omega arith in
    λ i. take (one i) flags ++ false ∷ blank_flags (drop (one i + 1) signs) (drop (one i + 1) flags)

pub last_is : (signs : List Sign) (flags : List Bool) → length flags ≡ length signs
    → last_flags (last_from 0 0 None signs flags) signs flags ≡ left_last 0 signs flags
last_is signs flags long = from_start (last_from 0 0 None signs flags) signs flags ∙ left_is 0 0 signs flags long
