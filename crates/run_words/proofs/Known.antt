-- The parts of words have names of existing options.
use Rattle.std.proofs.Common.{◌≡◌, ℕ, true, cond, eqb, List, [], ◌∷◌, map, Option, Some, None, IfSome, option_map}
use Rattle.std.proofs.lemmas.Bool.{cond_both}
use Rattle.c_lexer.specs.Words.{is_in}
use Rattle.run_words.specs.Parts.{Part, Valued, Flag, File, Word, End, Awaits, Has, Bare, Plain, Unknown, after_word, after_sign, flag_options, is_option}
use Rattle.run_words.specs.Parts.{name_part, named, option_word, parts_from, value_part, valued_options, word_of}

abbrev pub IsKnown : Part → Type 0
IsKnown (Valued name value) = is_in valued_options name ≡ true
IsKnown (Flag name) = is_in flag_options name ≡ true
IsKnown (File word) = Unit {0}

abbrev pub AreKnown : List Part → Type 0
AreKnown [] = Unit {0}
AreKnown (part ∷ parts) = IsKnown part × AreKnown parts

abbrev HasKnown : Word → Type 0
HasKnown End = Unit {0}
HasKnown (Awaits name) = is_in valued_options name ≡ true
HasKnown (Has name value) = is_in valued_options name ≡ true
HasKnown (Bare name) = is_in flag_options name ≡ true
HasKnown Plain = Unit {0}
HasKnown Unknown = Unit {0}

named_known : (name : List ℕ) (value : Option (List ℕ)) → HasKnown (named name value)
named_known name None = cond_both (is_in valued_options name) (Awaits name) (cond (is_in flag_options name) (Bare name) Unknown) HasKnown
    (λ e. e) (λ e. cond_both (is_in flag_options name) (Bare name) Unknown HasKnown (λ f. f) (λ f. tt))
named_known name (Some value) = cond_both (is_in valued_options name) (Has name value) Unknown HasKnown (λ e. e) (λ e. tt)

after_sign_known : (bytes : List ℕ) → HasKnown (after_sign bytes)
after_sign_known [] = tt
after_sign_known (b ∷ []) = cond_both (eqb b 45) End Unknown HasKnown (λ e. tt) (λ e. tt)
after_sign_known (b ∷ c ∷ bytes) = cond_both (eqb b 45) (named (name_part (c ∷ bytes)) (value_part (c ∷ bytes))) Unknown HasKnown
    (λ e. named_known (name_part (c ∷ bytes)) (value_part (c ∷ bytes))) (λ e. tt)

option_known : (word : List ℕ) → HasKnown (option_word word)
option_known [] = tt
option_known (b ∷ bytes) = after_sign_known bytes

word_known : (word : List ℕ) → HasKnown (word_of word)
word_known word = cond_both (is_option word) (option_word word) Plain HasKnown (λ e. option_known word) (λ e. tt)

files_known : (words : List (List ℕ)) → AreKnown (map File words)
files_known [] = tt
files_known (word ∷ words) = (tt, files_known words)

with_known : (part : Part) → IsKnown part → (parts : Option (List Part)) → IfSome parts AreKnown → IfSome (option_map (λ ps. part ∷ ps) parts) AreKnown
with_known part k None h = tt
with_known part k (Some parts) h = (k, h)

abbrev FromKnown : List (List ℕ) → Type 0
FromKnown words = IfSome (parts_from words None) AreKnown × ((name : List ℕ) → is_in valued_options name ≡ true
    → IfSome (parts_from words (Some name)) AreKnown)

after_known : (kind : Word) → HasKnown kind → (word : List ℕ) (words : List (List ℕ)) → FromKnown words
    → IfSome (after_word kind word words (parts_from words)) AreKnown
after_known End k word words h = files_known words
after_known (Awaits name) k word words h = h.1 name k
after_known (Has name value) k word words h = with_known (Valued name value) k (parts_from words None) h.0
after_known (Bare name) k word words h = with_known (Flag name) k (parts_from words None) h.0
after_known Plain k word words h = with_known (File word) tt (parts_from words None) h.0
after_known Unknown k word words h = tt

from_known : (words : List (List ℕ)) → FromKnown words
unfolding parts_from
from_known [] = (tt, λ name k. tt)
from_known (word ∷ words) =
    let rest = from_known words in (
      after_known (word_of word) (word_known word) word words rest,
      λ name k. cond_both (is_option word) None (option_map (λ ps. Valued name word ∷ ps) (parts_from words None)) (λ o. IfSome o AreKnown)
          (λ e. tt) (λ e. with_known (Valued name word) k (parts_from words None) rest.0),
    )

pub parts_known : (words : List (List ℕ)) → IfSome (parts_from words None) AreKnown
parts_known words = (from_known words).0
