-- Which commas of a list are left beside nothing.
use Rattle.std.specs.Prelude.{ℕ, ◌==◌, ◌&&◌, Bool, false, not, List, [], ◌∷◌, ◌++◌, if◌then◌else◌}
use Rattle.std.specs.Prelude.{Option, None, Some}
use Rattle.std.specs.List.{list_any}
use Rattle.c_lexer.specs.declared.piece.PieceKind.{PieceKind}
use Rattle.c_lexer.specs.declared.piece.PieceKind.TheVariants.{Word, Blank, Comment, Line}
use Rattle.tidy_flags.specs.declared.signs.Sign.{Sign}
use Rattle.tidy_flags.specs.declared.signs.Sign.TheVariants as sign
use Rattle.tidy_flags.specs.declared.signs.ListState.{ListState}
use Rattle.tidy_flags.specs.Signs.{depth_after, is_own_comma, is_token, list_start, state_after, stays_early, word_sign}
use Rattle.edit_unparse.specs.Output.{Part}
use Rattle.edit_unparse.specs.Tidy.Places.{is_plain}

-- what a piece is for lists
abbrev pub sign_for : PieceKind → List ℕ → Sign
sign_for (Word kind id) text = word_sign text
sign_for Blank text = if is_plain Blank text then sign.Blank else sign.Splice
sign_for Comment text = sign.Solid
sign_for Line text = sign.Solid

abbrev pub sign_of : Part → Sign
sign_of p = sign_for p.piece.kind p.piece.text

-- the parts between the brackets of a list without the commas, and the blanks behind them, that don't stay so
abbrev pub without_early : ListState → List Part → List Part
without_early s [] = []
without_early s (p ∷ parts) = let rest = without_early (state_after s (sign_of p)) parts in if stays_early s (sign_of p) then p ∷ rest else rest

-- given what a part is, the part, those behind it, and what is left of these: what is left without the blanks in front
abbrev pub blank_step : Sign → Part → List Part → List Part → List Part
blank_step sign.Blank p parts left = left
blank_step sign.Splice p parts left = p ∷ left
blank_step s p parts left = p ∷ parts

-- the parts without those blanks in front, up to the first token, comment or line, that have no backslash
abbrev pub without_blanks : List Part → List Part
without_blanks [] = []
without_blanks (p ∷ parts) = blank_step (sign_of p) p parts (without_blanks parts)

-- whether no token stands in these parts
abbrev pub has_no_token : List Part → Bool
has_no_token parts = not (list_any (λ p. is_token (sign_of p)) parts)

-- the parts without the last comma, if no token stands behind it, and without the blanks behind it
abbrev pub without_last : ℕ → List Part → List Part
without_last depth [] = []
without_last depth (p ∷ parts) = if is_own_comma depth (sign_of p) && has_no_token parts then without_blanks parts
    else p ∷ without_last (depth_after depth (sign_of p)) parts

abbrev pub without_commas : Bool → List Part → List Part
without_commas may_end parts = let left = without_early list_start parts in if may_end then left else without_last 0 left

abbrev pub is_from : ℕ → Option ℕ → Bool
is_from number None = false
is_from number (Some n) = n == number

-- the parts before the old piece with this number, and those from it on
abbrev pub front_of : ℕ → List Part → List Part
front_of number [] = []
front_of number (p ∷ parts) = if is_from number p.from then [] else p ∷ front_of number parts

abbrev pub rest_of : ℕ → List Part → List Part
rest_of number [] = []
rest_of number (p ∷ parts) = if is_from number p.from then p ∷ parts else rest_of number parts

-- the parts after the commas of the list whose brackets are the old pieces with these numbers have gone
abbrev pub inside : Bool → ℕ → List Part → List Part
inside may_end close [] = []
inside may_end close (p ∷ parts) = p ∷ (without_commas may_end (front_of close parts) ++ rest_of close parts)

abbrev pub with_list : Bool → ℕ → ℕ → List Part → List Part
with_list may_end begin close parts = front_of begin parts ++ inside may_end close (rest_of begin parts)
