-- The classes of keywords and signs, by examples; and no list has a text twice.
use Rattle.std.proofs.Common.{◌≡◌, ℕ, List, [], ◌∷◌, refl}
use Rattle.std.specs.Prelude.{Bool, true, false, not, ◌&&◌, ◌||◌, codes}
use Rattle.std.specs.Str.{bytes_eq}
use Rattle.c_rows.specs.declared.class.Class.{Class}
use Rattle.c_rows.specs.declared.class.Class.TheVariants as class
use Rattle.c_rows.specs.Texts.{keywords, signs, pattern_signs, class_in}

keyword_of_its_own : class_in keywords (codes "goto") ≡ class.Goto
keyword_of_its_own = refl

keyword_of_a_basic_type : class_in keywords (codes "_Complex") ≡ class.Basic
keyword_of_a_basic_type = refl

keyword_without_a_row : class_in keywords (codes "_Generic") ≡ class.Other
keyword_without_a_row = refl

sign_of_two_uses : class_in signs (codes "*") ≡ class.Star
sign_of_two_uses = refl

sign_that_begins_another : class_in signs (codes "<<") ≡ class.Shift
sign_that_begins_another = refl

longer_sign : class_in signs (codes "<<=") ≡ class.Assign
longer_sign = refl

sign_of_the_preprocessor : class_in signs (codes "##") ≡ class.Other
sign_of_the_preprocessor = refl

sign_of_a_pattern : class_in pattern_signs (codes "<+...") ≡ class.PatNestOfExpression
sign_of_a_pattern = refl

abbrev has_text : List (List ℕ × Class) → List ℕ → Bool
has_text [] s = false
has_text (w ∷ ws) s = bytes_eq s w.0 || has_text ws s

abbrev apart : List (List ℕ × Class) → Bool
apart [] = true
apart (w ∷ ws) = not (has_text ws w.0) && apart ws

keywords_apart : apart keywords ≡ true
keywords_apart = refl

signs_apart : apart signs ≡ true
signs_apart = refl

pattern_signs_apart : apart pattern_signs ≡ true
pattern_signs_apart = refl
