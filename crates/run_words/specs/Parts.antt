-- The parts of a command line: options with their values, and words that name files.
use Rattle.std.specs.Prelude.{ℕ, ◌==◌, Bool, false, cond, List, [], ◌∷◌, map, Option, None, Some, option_map, codes}
use Rattle.std.specs.List.{list_any, before_first, after_first}
use Rattle.c_lexer.specs.Words.{is_in}

pub data Part : Type 0 where
  -- an option with its value
  Valued : (name value : List ℕ) → Part
  -- an option that takes no value
  Flag : (name : List ℕ) → Part
  -- a word that names a file
  File : (word : List ℕ) → Part

-- ---- one word

-- a word before `--`
pub data Word : Type 0 where
  -- it ends the options
  End : Word
  -- an option whose value is the next word
  Awaits : (name : List ℕ) → Word
  -- `--NAME=VALUE`
  Has : (name value : List ℕ) → Word
  -- an option without a value
  Bare : (name : List ℕ) → Word
  -- not an option
  Plain : Word
  -- an option that doesn't exist
  Unknown : Word

abbrev pub valued_options : List (List ℕ)
valued_options = codes "sp-file" ∷ codes "iso-file" ∷ codes "define" ∷ codes "jobs" ∷ codes "generate" ∷ codes "functions"
    ∷ codes "unread" ∷ []

abbrev pub flag_options : List (List ℕ)
flag_options = codes "witnesses" ∷ codes "in-place" ∷ codes "check" ∷ codes "quiet" ∷ codes "tidy" ∷ codes "help" ∷ codes "version" ∷ []

-- the word begins with `-` and is longer than one byte
abbrev pub is_option : List ℕ → Bool
is_option [] = false
is_option (b ∷ []) = false
is_option (b ∷ c ∷ bytes) = b == 45

-- the bytes before the first `=`, and those after it, if there is one
abbrev pub name_part : List ℕ → List ℕ
name_part text = before_first (λ b. b == 61) text

abbrev pub value_part : List ℕ → Option (List ℕ)
value_part text = cond (list_any (λ b. b == 61) text) (Some (after_first (λ b. b == 61) text)) None

-- an option of this name, with the value that its word contains
abbrev pub named : List ℕ → Option (List ℕ) → Word
named name None = cond (is_in valued_options name) (Awaits name) (cond (is_in flag_options name) (Bare name) Unknown)
named name (Some value) = cond (is_in valued_options name) (Has name value) Unknown

-- an option by what follows its first `-`
abbrev pub after_sign : List ℕ → Word
after_sign [] = Unknown
after_sign (b ∷ []) = cond (b == 45) End Unknown
after_sign (b ∷ c ∷ bytes) = cond (b == 45) (named (name_part (c ∷ bytes)) (value_part (c ∷ bytes))) Unknown

abbrev pub option_word : List ℕ → Word
option_word [] = Plain
option_word (b ∷ bytes) = after_sign bytes

abbrev pub word_of : List ℕ → Word
word_of word = cond (is_option word) (option_word word) Plain

-- ---- all words

abbrev pub with_part : Part → Option (List Part) → Option (List Part)
with_part part parts = option_map (λ ps. part ∷ ps) parts

-- this word and those after it, by its kind; `next` reads those after it, the first of which may be the value of an option
abbrev pub after_word : Word → List ℕ → List (List ℕ) → (Option (List ℕ) → Option (List Part)) → Option (List Part)
after_word End word later next = Some (map File later)
after_word (Awaits name) word later next = next (Some name)
after_word (Has name value) word later next = with_part (Valued name value) (next None)
after_word (Bare name) word later next = with_part (Flag name) (next None)
after_word Plain word later next = with_part (File word) (next None)
after_word Unknown word later next = None

-- the parts of these words; if an option expects its value, the first word is that value
unfoldable pub parts_from : List (List ℕ) → Option (List ℕ) → Option (List Part)
parts_from [] None = Some []
parts_from [] (Some name) = None
parts_from (word ∷ words) (Some name) = cond (is_option word) None (with_part (Valued name word) (parts_from words None))
parts_from (word ∷ words) None = after_word (word_of word) word words (parts_from words)

abbrev pub parts_of : List (List ℕ) → Option (List Part)
parts_of words = parts_from words None
