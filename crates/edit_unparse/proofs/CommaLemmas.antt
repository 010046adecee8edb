-- What is left of the parts between the brackets of a list, by flags.
use Rattle.std.proofs.Common.{◌≡◌, ◌&&◌, ◌||◌, ℕ, suc, Bool, true, false, not, refl, sym, ap, ◌∙◌, arith, map}
use Rattle.std.proofs.Common.{List, [], ◌∷◌, length}
use Rattle.std.proofs.lemmas.List.{length-map}
use Rattle.std.specs.Prelude.{if◌then◌else◌}
use Rattle.std.specs.List.{items_where_true, list_any}
use Rattle.tidy_flags.specs.declared.signs.Sign.{Sign}
use Rattle.tidy_flags.specs.declared.signs.Sign.TheVariants as sign
use Rattle.tidy_flags.specs.declared.signs.ListState.{ListState}
use Rattle.edit_unparse.specs.Output.{Part}
use Rattle.tidy_flags.specs.Signs.{depth_after, is_own_comma, is_token, list_start, state_after, stays_early}
use Rattle.edit_unparse.specs.Tidy.Commas.{blank_step, has_no_token, sign_of}
use Rattle.edit_unparse.specs.Tidy.Commas.{without_blanks, without_commas, without_early, without_last}
use Rattle.tidy_flags.specs.Clearing.{blank_flags, comma_flags, early_flags, ends_blanks, is_plain_sign}
use Rattle.tidy_flags.proofs.ClearLemmas.{last_is, left_last, none_left}

none_where : (flags : List Bool) → let none : List Part = [] in items_where_true flags none ≡ none
none_where [] = refl
none_where (f ∷ flags) = refl

pub early_length : (s : ListState) (signs : List Sign) (flags : List Bool) → length flags ≡ length signs → length (early_flags s signs flags) ≡ length signs
early_length s [] [] long = refl
early_length s [] (f ∷ flags) long = absurd (omega arith)
early_length s (x ∷ signs) [] long = absurd (omega arith)
early_length s (x ∷ signs) (true ∷ flags) long = ap suc (early_length (state_after s x) signs flags (omega arith))
early_length s (x ∷ signs) (false ∷ flags) long = ap suc (early_length s signs flags (omega arith))

early_is : (s : ListState) (parts : List Part) (flags : List Bool) → length flags ≡ length parts
    → items_where_true (early_flags s (map sign_of parts) flags) parts ≡ without_early s (items_where_true flags parts)
early_is s [] flags long = none_where flags ∙ sym (ap (without_early s) (none_where flags))
early_is s (p ∷ parts) [] long = absurd (omega arith)
early_is s (p ∷ parts) (false ∷ flags) long = early_is s parts flags (omega arith)
early_is s (p ∷ parts) (true ∷ flags) long = by (stays_early s (sign_of p)) (early_is (state_after s (sign_of p)) parts flags (omega arith))
  where
    by : (b : Bool) → items_where_true (early_flags (state_after s (sign_of p)) (map sign_of parts) flags) parts
        ≡ without_early (state_after s (sign_of p)) (items_where_true flags parts)
        → items_where_true (b ∷ early_flags (state_after s (sign_of p)) (map sign_of parts) flags) (p ∷ parts)
        ≡ (if b then p ∷ without_early (state_after s (sign_of p)) (items_where_true flags parts)
        else without_early (state_after s (sign_of p)) (items_where_true flags parts))
    by true rest = ap (λ (l : List Part). p ∷ l) rest
    by false rest = rest

blank_is : (parts : List Part) (flags : List Bool) → length flags ≡ length parts
    → items_where_true (blank_flags (map sign_of parts) flags) parts ≡ without_blanks (items_where_true flags parts)
blank_is [] flags long = none_where flags ∙ sym (ap without_blanks (none_where flags))
blank_is (p ∷ parts) [] long = absurd (omega arith)
blank_is (p ∷ parts) (false ∷ flags) long = blank_is parts flags (omega arith)
blank_is (p ∷ parts) (true ∷ flags) long = by (sign_of p) (blank_is parts flags (omega arith))
  where
    by : (x : Sign) → items_where_true (blank_flags (map sign_of parts) flags) parts ≡ without_blanks (items_where_true flags parts)
        → items_where_true (if ends_blanks x then true ∷ flags else not (is_plain_sign x) ∷ blank_flags (map sign_of parts) flags) (p ∷ parts)
        ≡ blank_step x p (items_where_true flags parts) (without_blanks (items_where_true flags parts))
    by sign.Opening rest = refl
    by sign.Closing rest = refl
    by sign.Comma rest = refl
    by sign.Token rest = refl
    by sign.Blank rest = rest
    by sign.Splice rest = ap (λ (l : List Part). p ∷ l) rest
    by sign.Solid rest = refl

no_token : (parts : List Part) (flags : List Bool) → none_left (map sign_of parts) flags ≡ has_no_token (items_where_true flags parts)
no_token parts flags = ap not (by parts flags)
  where
    by : (ps : List Part) (fs : List Bool)
        → list_any is_token (items_where_true fs (map sign_of ps)) ≡ list_any (λ q. is_token (sign_of q)) (items_where_true fs ps)
    by [] [] = refl
    by [] (f ∷ fs) = refl
    by (p ∷ ps) [] = refl
    by (p ∷ ps) (true ∷ fs) = ap (λ (b : Bool). is_token (sign_of p) || b) (by ps fs)
    by (p ∷ ps) (false ∷ fs) = by ps fs

left_is : (depth : ℕ) (parts : List Part) (flags : List Bool) → length flags ≡ length parts
    → items_where_true (left_last depth (map sign_of parts) flags) parts ≡ without_last depth (items_where_true flags parts)
left_is depth [] flags long = none_where flags ∙ sym (ap (without_last depth) (none_where flags))
left_is depth (p ∷ parts) [] long = absurd (omega arith)
left_is depth (p ∷ parts) (false ∷ flags) long = left_is depth parts flags (omega arith)
left_is depth (p ∷ parts) (true ∷ flags) long =
    ap (λ (b : Bool). items_where_true (if is_own_comma depth (sign_of p) && b then false ∷ blank_flags (map sign_of parts) flags
    else true ∷ left_last (depth_after depth (sign_of p)) (map sign_of parts) flags) (p ∷ parts)) (no_token parts flags)
    ∙ by (is_own_comma depth (sign_of p) && has_no_token (items_where_true flags parts)) (left_is (depth_after depth (sign_of p)) parts flags (omega arith))
  where
    by : (b : Bool) → items_where_true (left_last (depth_after depth (sign_of p)) (map sign_of parts) flags) parts
        ≡ without_last (depth_after depth (sign_of p)) (items_where_true flags parts)
        → items_where_true (if b then false ∷ blank_flags (map sign_of parts) flags
        else true ∷ left_last (depth_after depth (sign_of p)) (map sign_of parts) flags) (p ∷ parts)
        ≡ (if b then without_blanks (items_where_true flags parts) else p ∷ without_last (depth_after depth (sign_of p)) (items_where_true flags parts))
    by true rest = blank_is parts flags (omega arith)
    by false rest = ap (λ (l : List Part). p ∷ l) rest

blanks_length : (signs : List Sign) (flags : List Bool) → length flags ≡ length signs → length (blank_flags signs flags) ≡ length signs
blanks_length [] [] long = refl
blanks_length [] (f ∷ flags) long = absurd (omega arith)
blanks_length (x ∷ signs) [] long = absurd (omega arith)
blanks_length (x ∷ signs) (false ∷ flags) long = ap suc (blanks_length signs flags (omega arith))
blanks_length (x ∷ signs) (true ∷ flags) long = by (ends_blanks x) (blanks_length signs flags (omega arith))
  where
    by : (b : Bool) → length (blank_flags signs flags) ≡ length signs
        → length (if b then true ∷ flags else not (is_plain_sign x) ∷ blank_flags signs flags) ≡ suc (length signs)
    by true rest = long
    by false rest = ap suc rest

pub left_length : (depth : ℕ) (signs : List Sign) (flags : List Bool) → length flags ≡ length signs → length (left_last depth signs flags) ≡ length signs
left_length depth [] [] long = refl
left_length depth [] (f ∷ flags) long = absurd (omega arith)
left_length depth (x ∷ signs) [] long = absurd (omega arith)
left_length depth (x ∷ signs) (false ∷ flags) long = ap suc (left_length depth signs flags (omega arith))
left_length depth (x ∷ signs) (true ∷ flags) long =
    by (is_own_comma depth x && none_left signs flags) (left_length (depth_after depth x) signs flags (omega arith))
  where
    by : (b : Bool) → length (left_last (depth_after depth x) signs flags) ≡ length signs
        → length (if b then false ∷ blank_flags signs flags else true ∷ left_last (depth_after depth x) signs flags) ≡ suc (length signs)
    by true rest = ap suc (blanks_length signs flags (omega arith))
    by false rest = ap suc rest

-- what is left after the commas of a list have gone
pub commas_are : (may_end : Bool) (parts : List Part) (signs : List Sign) (flags : List Bool) → signs ≡ map sign_of parts → length flags ≡ length parts
    → items_where_true (comma_flags may_end signs flags) parts ≡ without_commas may_end (items_where_true flags parts)
commas_are may_end parts signs flags are long = ap (λ (l : List Sign). items_where_true (comma_flags may_end l flags) parts) are ∙ by may_end
  where
    by : (b : Bool) → items_where_true (comma_flags b (map sign_of parts) flags) parts ≡ without_commas b (items_where_true flags parts)
    by true = early_is list_start parts flags long
    by false =
        let signs_long : length (map sign_of parts) ≡ length parts = length-map parts sign_of in
        let early_long : length (early_flags list_start (map sign_of parts) flags) ≡ length (map sign_of parts) =
        early_length list_start (map sign_of parts) flags (omega arith) in
        ap (λ (l : List Bool). items_where_true l parts) (last_is (map sign_of parts) (early_flags list_start (map sign_of parts) flags) early_long)
        ∙ left_is 0 parts (early_flags list_start (map sign_of parts) flags) (omega arith)
        ∙ ap (without_last 0) (early_is list_start parts flags long)
