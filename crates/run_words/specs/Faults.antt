-- Why words are no command: the first fault that is told.
use Rattle.std.specs.Prelude.{ℕ, ◌+◌, ◌&&◌, ◌||◌, Bool, not, cond, List, [], ◌∷◌, ◌++◌, Option, None, Some, is_some, option_and_then}
use Rattle.std.specs.List.{list_all, list_any, prefix_len}
use Rattle.std.specs.Option.{option_or}
use Rattle.std.specs.Str.{bytes_eq, is_utf8}
use Rattle.c_lexer.specs.Words.{is_in}
use Rattle.run_words.specs.declared.option_name.OptionName.{OptionName}
use Rattle.run_words.specs.declared.option_name.OptionName.TheVariants.{SpFile, IsoFile, Define, Jobs, Generate, Functions, Unread}
use Rattle.run_words.specs.declared.option_name.OptionName.TheVariants.{Witnesses, InPlace, Check}
use Rattle.run_words.specs.declared.fault.Need.TheVariants as need
use Rattle.run_words.specs.declared.fault.WordFault.{WordFault}
use Rattle.run_words.specs.declared.fault.WordFault.TheVariants.{NotText, NoSuchOption, ValueAbsent, TakesNone, StandsTwice}
use Rattle.run_words.specs.declared.fault.WordFault.TheVariants.{BadValue, Needed, Apart, ApartFromFiles}
use Rattle.run_words.specs.Parts.{Word, End, Awaits, Has, Bare, Plain, Unknown, is_option, word_of, flag_options}
use Rattle.run_words.specs.Options.{Options, options_of}
use Rattle.run_words.specs.Values.{seed_in, count_in, names_in, unread_in}
use Rattle.run_words.specs.Orders.{is_filled, are_filled, asks_text, has_files, is_about_patches, stores_checked, most_jobs, most_functions}
use Rattle.run_words.specs.OptionNames.{dashed, first_of, written, meant_by}

-- ---- by the words in turn

-- an option that takes no value is written here
abbrev pub is_flag : List ℕ → Bool
is_flag text = list_any (λ name. bytes_eq text (dashed name)) flag_options

-- a word that is no option: one that takes no value has one, or none is written so
abbrev pub unknown_fault : List ℕ → WordFault
unknown_fault word = cond (is_flag (written word)) (TakesNone (written word)) (NoSuchOption (written word) (meant_by (written word)))

-- an option stands twice if one of this name came before; `next` is the fault after it
abbrev pub twice_or : List (List ℕ) → List ℕ → (List (List ℕ) → Option WordFault) → Option WordFault
twice_or names name next = cond (is_in names name) (Some (StandsTwice (dashed name))) (next (names ++ name ∷ []))

-- the fault at a word, by its kind, or the first after it
abbrev pub fault_at : Word → List ℕ → List (List ℕ) → (List (List ℕ) → Option (List ℕ) → Option WordFault) → Option WordFault
fault_at End word names next = None
fault_at (Awaits name) word names next = next names (Some name)
fault_at (Has name value) word names next = twice_or names name (λ ns. next ns None)
fault_at (Bare name) word names next = twice_or names name (λ ns. next ns None)
fault_at Plain word names next = next names None
fault_at Unknown word names next = Some (unknown_fault word)

-- the first fault at these words, after options of these names; if an option expects its value, the first word is that value
unfoldable pub fault_from : List (List ℕ) → List (List ℕ) → Option (List ℕ) → Option WordFault
fault_from [] names None = None
fault_from [] names (Some name) = Some (ValueAbsent (dashed name))
fault_from (word ∷ words) names (Some name) = cond (is_option word) (Some (ValueAbsent (dashed name)))
    (twice_or names name (λ ns. fault_from words ns None))
fault_from (word ∷ words) names None = fault_at (word_of word) word names (fault_from words)

-- ---- by the options and files

-- what is a value for it
abbrev pub is_value : OptionName → List ℕ → Bool
is_value Define text = is_some (names_in text)
is_value Jobs text = is_some (count_in most_jobs text)
is_value Generate text = is_some (seed_in text)
is_value Functions text = is_some (count_in most_functions text)
is_value Unread text = is_some (unread_in text)
is_value option text = is_filled (Some text)

-- the fault of this option's value, if it is given
abbrev pub bad_text : OptionName → Option (List ℕ) → Option WordFault
bad_text option value = option_and_then (λ text. cond (is_value option text) None (Some (BadValue option text))) value

abbrev pub value_faults : Options → List (Option WordFault)
value_faults o = bad_text SpFile o.sp_file ∷ bad_text IsoFile o.iso_file ∷ bad_text Define o.define ∷ bad_text Jobs o.jobs
    ∷ bad_text Generate o.generate ∷ bad_text Functions o.functions ∷ bad_text Unread o.unread ∷ []

-- the first value that is none for its option
abbrev pub value_fault : Options → Option WordFault
value_fault o = first_of (value_faults o)

abbrev pub told_if : Bool → WordFault → Option WordFault
told_if holds fault = cond holds (Some fault) None

-- a patch is needed without `--generate`, and for `--jobs`, `--quiet`, `--unread` and `--tidy`; a file without `--generate`; and the
-- number of functions with it
abbrev pub lacks_patch : Options → Bool
lacks_patch o = not (is_some o.sp_file) && (not (is_some o.generate) || is_about_patches o)

abbrev pub lacks_file : Options → Bool
lacks_file o = not (has_files o) && not (is_some o.generate)

abbrev pub lacks_functions : Options → Bool
lacks_functions o = not (is_some o.functions) && is_some o.generate

abbrev pub need_faults : Options → List (Option WordFault)
need_faults o = told_if (lacks_patch o) (Needed need.Patch)
    ∷ told_if (lacks_file o) (Needed need.File)
    ∷ told_if (lacks_functions o) (Needed need.Functions) ∷ []

-- the first thing that is needed and absent
abbrev pub need_fault : Options → Option WordFault
need_fault o = first_of (need_faults o)

-- what is about files isn't allowed with `--generate`
abbrev pub file_faults : Options → List (Option WordFault)
file_faults o = told_if (has_files o) (ApartFromFiles Generate) ∷ told_if (is_some o.iso_file) (Apart Generate IsoFile)
    ∷ told_if (is_some o.define) (Apart Generate Define) ∷ told_if o.witnesses (Apart Generate Witnesses)
    ∷ told_if o.in_place (Apart Generate InPlace) ∷ told_if o.check (Apart Generate Check) ∷ []

-- `--functions` is only allowed with `--generate`, and so without a file
abbrev pub edit_faults : Options → List (Option WordFault)
edit_faults o = told_if (is_some o.functions) (ApartFromFiles Functions) ∷ told_if (stores_checked o) (Apart Check InPlace) ∷ []

-- the first two things that don't go together
abbrev pub apart_fault : Options → Option WordFault
apart_fault o = cond (is_some o.generate) (first_of (file_faults o)) (first_of (edit_faults o))

-- a text about the program is asked for, and no value is empty
abbrev pub asks_only : Options → Bool
asks_only o = are_filled o && asks_text o

-- none if the options ask for a text and no value is empty
unfoldable pub options_fault : Options → Option WordFault
options_fault o = cond (asks_only o) None (first_of (value_fault o ∷ need_fault o ∷ apart_fault o ∷ []))

-- ---- all words

-- the first word that isn't UTF-8, counted from 1
abbrev pub text_fault : List (List ℕ) → WordFault
text_fault words = NotText (prefix_len is_utf8 words + 1)

-- why the words are no command; none if they are one
unfoldable pub word_fault : List (List ℕ) → Option WordFault
word_fault words = cond (list_all is_utf8 words) (option_or (fault_from words [] None) (option_and_then options_fault (options_of words)))
    (Some (text_fault words))
