-- The words have a fault before their options are looked at exactly where they give no options.
use Rattle.std.proofs.Common.{◌≡◌, ◌∙◌, refl, sym, ap, ℕ, Bool, true, false, not, ◌&&◌, ◌||◌, cond, List, [], ◌∷◌, ◌++◌, map, Option, Some, None, is_some}
use Rattle.std.proofs.Common.{option_map, option_and_then}
use Rattle.std.specs.Str.{bytes_eq}
use Rattle.c_lexer.specs.Words.{is_in}
use Rattle.run_words.specs.declared.fault.WordFault.{WordFault}
use Rattle.run_words.specs.declared.fault.WordFault.TheVariants.{StandsTwice, ValueAbsent}
use Rattle.run_words.specs.Parts.{Part, Valued, Flag, File, Word, End, Awaits, Has, Bare, Plain, Unknown, after_word, is_option, parts_from, word_of}
use Rattle.run_words.specs.Options.{are_new, collected, options_in, options_of}
use Rattle.run_words.specs.OptionNames.{dashed}
use Rattle.run_words.specs.Faults.{fault_at, fault_from, twice_or}

abbrev Text : Type 0
Text = List ℕ

-- two lists have the same names
abbrev HaveSame : List Text → List Text → Type 0
HaveSame names others = (name : Text) → is_in names name ≡ is_in others name

is_in_append : (names : List Text) (last name : Text) → is_in (names ++ last ∷ []) name ≡ (bytes_eq name last || is_in names name)
is_in_append [] last name = refl
is_in_append (n ∷ names) last name = elim (bytes_eq name n) as (λ b. (b || is_in (names ++ last ∷ []) name) ≡ (bytes_eq name last || (b || is_in names name))) [
  | true ↦ elim (bytes_eq name last) as (λ b. true ≡ (b || true)) [ true ↦ refl | false ↦ refl ]
  | false ↦ is_in_append names last name
]

have_same : (names others : List Text) (name : Text) → HaveSame names others → HaveSame (names ++ name ∷ []) (name ∷ others)
have_same names others name same n = is_in_append names name n ∙ ap (λ b. bytes_eq n name || b) (same n)

-- there are parts, and they are new after these names
abbrev fits : List Text → Option (List Part) → Bool
fits names None = false
fits names (Some parts) = are_new names parts

never : (b : Bool) → false ≡ (b && false)
never true = refl
never false = refl

fits_valued : (names : List Text) (name value : Text) (parts : Option (List Part))
    → fits names (option_map (λ ps. Valued name value ∷ ps) parts) ≡ (not (is_in names name) && fits (name ∷ names) parts)
fits_valued names name value None = never (not (is_in names name))
fits_valued names name value (Some parts) = refl

fits_flag : (names : List Text) (name : Text) (parts : Option (List Part))
    → fits names (option_map (λ ps. Flag name ∷ ps) parts) ≡ (not (is_in names name) && fits (name ∷ names) parts)
fits_flag names name None = never (not (is_in names name))
fits_flag names name (Some parts) = refl

fits_file : (names : List Text) (word : Text) (parts : Option (List Part)) → fits names (option_map (λ ps. File word ∷ ps) parts) ≡ fits names parts
fits_file names word None = refl
fits_file names word (Some parts) = refl

files_new : (names words : List Text) → are_new names (map File words) ≡ true
files_new names [] = refl
files_new names (word ∷ words) = files_new names words

-- a part with this name, which may be there already
twice_law : (names others : List Text) (name : Text) (next : List Text → Option WordFault) (fitting : Bool) → HaveSame names others
    → is_some (next (names ++ name ∷ [])) ≡ not fitting → is_some (twice_or names name next) ≡ not (not (is_in others name) && fitting)
twice_law names others name next fitting same h = ap (λ (b : Bool). is_some (cond b (Some (StandsTwice (dashed name))) (next (names ++ name ∷ [])))) (same name)
    ∙ elim (is_in others name) as (λ b. is_some (cond b (Some (StandsTwice (dashed name))) (next (names ++ name ∷ []))) ≡ not (not b && fitting)) [
      | true ↦ refl
      | false ↦ h
    ]

-- at these words, a fault and parts exclude each other, and there is one of them
record Agree (words : List Text) : Type 0 where
  free : (names others : List Text) → HaveSame names others → is_some (fault_from words names None) ≡ not (fits others (parts_from words None))
  awaited : (names others : List Text) (name : Text) → HaveSame names others
      → is_some (fault_from words names (Some name)) ≡ not (fits others (parts_from words (Some name)))

with_valued : (words : List Text) → Agree words → (names others : List Text) (name value : Text) → HaveSame names others
    → is_some (twice_or names name (λ ns. fault_from words ns None)) ≡ not (fits others (option_map (λ ps. Valued name value ∷ ps) (parts_from words None)))
with_valued words agree names others name value same =
    twice_law names others name (λ ns. fault_from words ns None) (fits (name ∷ others) (parts_from words None)) same
    (agree.free (names ++ name ∷ []) (name ∷ others) (have_same names others name same))
    ∙ ap not (sym (fits_valued others name value (parts_from words None)))

with_flag : (words : List Text) → Agree words → (names others : List Text) (name : Text) → HaveSame names others
    → is_some (twice_or names name (λ ns. fault_from words ns None)) ≡ not (fits others (option_map (λ ps. Flag name ∷ ps) (parts_from words None)))
with_flag words agree names others name same =
    twice_law names others name (λ ns. fault_from words ns None) (fits (name ∷ others) (parts_from words None)) same
    (agree.free (names ++ name ∷ []) (name ∷ others) (have_same names others name same))
    ∙ ap not (sym (fits_flag others name (parts_from words None)))

at_word : (kind : Word) (word : Text) (words : List Text) → Agree words → (names others : List Text) → HaveSame names others
    → is_some (fault_at kind word names (fault_from words)) ≡ not (fits others (after_word kind word words (parts_from words)))
at_word End word words agree names others same = ap not (sym (files_new others words))
at_word (Awaits name) word words agree names others same = agree.awaited names others name same
at_word (Has name value) word words agree names others same = with_valued words agree names others name value same
at_word (Bare name) word words agree names others same = with_flag words agree names others name same
at_word Plain word words agree names others same = agree.free names others same ∙ ap not (sym (fits_file others word (parts_from words None)))
at_word Unknown word words agree names others same = refl

agree : (words : List Text) → Agree words
unfolding fault_from parts_from
agree [] = record { free = λ names others same. refl; awaited = λ names others name same. refl }
agree (word ∷ words) =
    let rest = agree words in record {
      free = λ names others same. at_word (word_of word) word words rest names others same;
      awaited = λ names others name same.
          elim (is_option word) as (λ b. is_some (cond b (Some (ValueAbsent (dashed name))) (twice_or names name (λ ns. fault_from words ns None)))
          ≡ not (fits others (cond b None (option_map (λ ps. Valued name word ∷ ps) (parts_from words None))))) [
            | true ↦ refl
            | false ↦ with_valued words rest names others name word same
          ];
    }

some_options : (parts : Option (List Part)) → fits [] parts ≡ is_some (option_and_then options_in parts)
some_options None = refl
some_options (Some parts) = elim (are_new [] parts) as (λ b. b ≡ is_some (cond b (Some (collected parts)) None)) [ true ↦ refl | false ↦ refl ]

pub words_law : (words : List Text) → is_some (fault_from words [] None) ≡ not (is_some (options_of words))
unfolding options_of
words_law words = (agree words).free [] [] (λ name. refl) ∙ ap not (some_options (parts_from words None))
