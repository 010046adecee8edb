-- Which names and rows are constants.
use Rattle.std.specs.Prelude.{ℕ, Bool, true, false, ◌&&◌, ◌||◌, nat_lt, nat_eq, List}
use Rattle.std.specs.List.{list_any, list_all}
use Rattle.c_terms.specs.declared.label.Label.{Label}
use Rattle.c_terms.specs.declared.label.Label.TheVariants as label

-- `A` to `Z`
abbrev pub is_capital : ℕ → Bool
is_capital c = nat_lt 64 c && nat_lt c 91

-- a capital letter, a digit or `_`
abbrev pub is_constant_byte : ℕ → Bool
is_constant_byte c = is_capital c || ((nat_lt 47 c && nat_lt c 58) || nat_eq c 95)

-- the name of a constant by its form: such bytes alone, and at least one capital letter
abbrev pub is_constant_name : List ℕ → Bool
is_constant_name text = list_all is_constant_byte text && list_any is_capital text

-- adjacent string literals, which are a constant together
abbrev pub is_strings : Label → Bool
is_strings label.Strings = true
is_strings _ = false
