-- Whether a place is in the shown arm of each group around it.
use Rattle.std.specs.Prelude.{ℕ, Bool, true, false, List, [], ◌∷◌, suc, zero}
use Rattle.cpp_lines.specs.declared.directive.Directive.{Directive}
use Rattle.cpp_lines.specs.declared.directive.Directive.TheVariants.{Open, OpenZero, Next, Close, Other}

-- Reads the lines before a place, the nearest first: `closed` groups that end before the place are still to be passed,
-- and `arm` arms of the group around the place have ended. A group that `#if 0` opens shows
-- its second arm, any other group its first.
abbrev pub is_hidden : (closed arm : ℕ) → List Directive → Bool
is_hidden closed arm [] = false
is_hidden closed arm (Close ∷ lines) = is_hidden (suc closed) arm lines
is_hidden zero arm (Next ∷ lines) = is_hidden zero (suc arm) lines
is_hidden (suc closed) arm (Next ∷ lines) = is_hidden (suc closed) arm lines
is_hidden zero zero (Open ∷ lines) = is_hidden zero zero lines
is_hidden zero (suc arm) (Open ∷ lines) = true
is_hidden (suc closed) arm (Open ∷ lines) = is_hidden closed arm lines
is_hidden zero zero (OpenZero ∷ lines) = true
is_hidden zero (suc zero) (OpenZero ∷ lines) = is_hidden zero zero lines
is_hidden zero (suc (suc arm)) (OpenZero ∷ lines) = true
is_hidden (suc closed) arm (OpenZero ∷ lines) = is_hidden closed arm lines
is_hidden closed arm (Other ∷ lines) = is_hidden closed arm lines
