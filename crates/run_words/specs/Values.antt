-- The values of options.
use Rattle.std.specs.Prelude.{ℕ, ◌==◌, ◌&&◌, ◌+◌, ◌*◌, ◌-◌, ◌^◌, Bool, false, not, cond, nat_le, nat_lt, List, [], ◌∷◌, length, Option, None, Some, codes}
use Rattle.std.specs.List.{list_all}
use Rattle.std.specs.Str.{bytes_eq}
use Rattle.c_lexer.specs.Words.{is_letter, is_digit, is_word_byte, is_keyword}
use Rattle.run_choices.specs.declared.unread.Unread.{Unread}
use Rattle.run_choices.specs.declared.unread.Unread.TheVariants as unread

-- ---- numbers

-- the number that the digits represent when appended to the digits of this one
abbrev pub decimal_from : ℕ → List ℕ → ℕ
decimal_from n [] = n
decimal_from n (b ∷ bytes) = decimal_from (n * 10 + (b - 48)) bytes

abbrev pub decimal_value : List ℕ → ℕ
decimal_value = decimal_from 0

-- the number that a text of digits represents, if it is below 2^64
abbrev pub number_in : List ℕ → Option ℕ
number_in text = cond (list_all is_digit text && nat_lt (decimal_value text) (2 ^ 64)) (Some (decimal_value text)) None

-- the number that one to twenty digits represent, if it is below 2^64
abbrev pub seed_in : List ℕ → Option ℕ
seed_in text = cond (nat_le 1 (length text) && nat_le (length text) 20) (number_in text) None

abbrev pub begins_with_zero : List ℕ → Bool
begins_with_zero [] = false
begins_with_zero (b ∷ bytes) = b == 48

-- a number from 1 to a maximum, whose first digit isn't 0
abbrev pub count_in : ℕ → List ℕ → Option ℕ
count_in most text = cond (nat_le 1 (length text) && list_all is_digit text && not (begins_with_zero text) && nat_le (decimal_value text) most)
    (Some (decimal_value text)) None

-- ---- choices

-- which of the items that can't be read are told of
abbrev pub unread_in : List ℕ → Option Unread
unread_in text = cond (bytes_eq text (codes "all")) (Some unread.All)
    (cond (bytes_eq text (codes "needed")) (Some unread.Needed)
    (cond (bytes_eq text (codes "none")) (Some unread.None) None))

-- ---- names

-- an identifier that isn't a keyword
abbrev pub is_c_name : List ℕ → Bool
is_c_name [] = false
is_c_name (b ∷ bytes) = is_letter b && list_all is_word_byte bytes && not (is_keyword (b ∷ bytes))

-- prepends one byte to the first text
abbrev pub in_first : ℕ → List (List ℕ) → List (List ℕ)
in_first b [] = (b ∷ []) ∷ []
in_first b (text ∷ texts) = (b ∷ text) ∷ texts

-- the texts that are separated by commas
abbrev pub between_commas : List ℕ → List (List ℕ)
between_commas [] = [] ∷ []
between_commas (b ∷ bytes) = cond (b == 44) ([] ∷ between_commas bytes) (in_first b (between_commas bytes))

-- the names that are separated by commas
abbrev pub names_in : List ℕ → Option (List (List ℕ))
names_in text = cond (list_all is_c_name (between_commas text)) (Some (between_commas text)) None
