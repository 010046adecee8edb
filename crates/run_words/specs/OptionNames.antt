-- The options by what they are called: each as it is written, and the one that a word was meant to be.
use Rattle.std.specs.Prelude.{ℕ, ◌||◌, Bool, cond, nat_eq, nat_le, List, [], ◌∷◌, ◌++◌, length, map, Option, None, Some, codes}
use Rattle.std.specs.List.{fold}
use Rattle.std.specs.Option.{option_or}
use Rattle.std.specs.Str.{chars}
use Rattle.strsim.specs.Edits.{levenshtein_row}
use Rattle.c_lexer.specs.Words.{is_in}
use Rattle.run_words.specs.declared.option_name.OptionName.{OptionName}
use Rattle.run_words.specs.declared.option_name.OptionName.TheVariants.{SpFile, IsoFile, Define, Jobs, Generate, Functions, Unread}
use Rattle.run_words.specs.declared.option_name.OptionName.TheVariants.{Witnesses, InPlace, Check, Quiet, Tidy, Help, Version}
use Rattle.run_words.specs.Parts.{name_part}

abbrev pub option_text : OptionName → List ℕ
option_text SpFile = codes "--sp-file"
option_text IsoFile = codes "--iso-file"
option_text Define = codes "--define"
option_text Jobs = codes "--jobs"
option_text Generate = codes "--generate"
option_text Functions = codes "--functions"
option_text Unread = codes "--unread"
option_text Witnesses = codes "--witnesses"
option_text InPlace = codes "--in-place"
option_text Check = codes "--check"
option_text Quiet = codes "--quiet"
option_text Tidy = codes "--tidy"
option_text Help = codes "--help"
option_text Version = codes "--version"

-- those that take a value, and then those that take none
abbrev pub all_options : List OptionName
all_options = SpFile ∷ IsoFile ∷ Define ∷ Jobs ∷ Generate ∷ Functions ∷ Unread ∷ Witnesses ∷ InPlace ∷ Check ∷ Quiet ∷ Tidy
    ∷ Help ∷ Version ∷ []

-- the first of these that there is
abbrev pub first_of : {X : Type 0} → List (Option X) → Option X
first_of options = fold option_or None options

-- the option of this name, as it is written
abbrev pub dashed : List ℕ → List ℕ
dashed name = codes "--" ++ name

-- an option's word without `=` and what follows
abbrev pub written : List ℕ → List ℕ
written word = name_part word

-- ---- near misses

-- how Coccinelle writes what this option is for, where that is no option here
abbrev pub spellings_of : OptionName → List (List ℕ)
spellings_of SpFile = codes "-sp_file" ∷ codes "--sp_file" ∷ codes "--cocci-file" ∷ codes "-cocci_file" ∷ []
spellings_of InPlace = codes "-in_place" ∷ codes "--in_place" ∷ codes "-inplace" ∷ []
spellings_of IsoFile = codes "-iso_file" ∷ codes "--iso_file" ∷ codes "-iso" ∷ codes "--iso" ∷ []
spellings_of Jobs = codes "-j" ∷ []
spellings_of Define = codes "-D" ∷ []
spellings_of option = []

-- how many characters must be added, left out or replaced
abbrev pub distance : List ℕ → List ℕ → ℕ
distance word text = levenshtein_row nat_eq (chars word) (chars text) (length (chars text))

-- the word is Coccinelle's for this option
abbrev pub is_spelling : List ℕ → OptionName → Bool
is_spelling word option = is_in (spellings_of option) word

-- so it is, or at most two characters must change
unfoldable pub is_near : List ℕ → OptionName → Bool
is_near word option = is_spelling word option || nat_le (distance word (option_text option)) 2

-- this option, if the word is near to it
abbrev pub near_one : List ℕ → OptionName → Option OptionName
near_one word option = cond (is_near word option) (Some option) None

-- the first option that the word is near to
abbrev pub meant_by : List ℕ → Option OptionName
meant_by word = first_of (map (near_one word) all_options)
