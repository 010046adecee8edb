-- The walk over the words for the first fault at one of them, for internal use.
use Rattle.std.specs.Prelude.{ℕ, cond, List, [], ◌∷◌, ◌++◌, Option, None, Some, map, option_map}
use Rattle.c_lexer.specs.Words.{is_in}
use Rattle.run_words.specs.declared.fault.WordFault.{WordFault}
use Rattle.run_words.specs.declared.fault.WordFault.TheVariants.{StandsTwice, ValueAbsent}
use Rattle.run_words.specs.declared.word.Form.{Form}
use Rattle.run_words.specs.declared.word.Form.TheVariants as form
use Rattle.run_words.specs.declared.walk.Walk.{Walk}
use Rattle.run_words.specs.declared.walk.Walk.TheVariants as walk
use Rattle.run_words.specs.Parts.{Word, End, Awaits, Has, Bare, Plain, Unknown, is_option, word_of}
use Rattle.run_words.specs.OptionNames.{dashed}
use Rattle.run_words.specs.Faults.{unknown_fault}

-- an option with its value counts as one without
abbrev pub without_value : Word → Word
without_value End = End
without_value (Awaits name) = Awaits name
without_value (Has name value) = Bare name
without_value (Bare name) = Bare name
without_value Plain = Plain
without_value Unknown = Unknown

abbrev pub shown_form : Form → Word
shown_form form.End = End
shown_form (form.Awaits name) = Awaits name.now
shown_form (form.Named name) = Bare name.now
shown_form form.Plain = Plain
shown_form form.Unknown = Unknown

-- how far the walk has come: after options of these names, and with an option whose value is the next word; or it is over
pub data State : Type 0 where
  Going : (names : List (List ℕ)) (awaits : Option (List ℕ)) → State
  Over : (fault : Option WordFault) → State

abbrev pub shown_walk : Walk → State
shown_walk (walk.Going names awaits) = Going (map (λ name. name.now) names.items) (option_map (λ name. name.now) awaits)
shown_walk (walk.Over fault) = Over fault

-- after an option of this name
abbrev pub with_name : List (List ℕ) → List ℕ → State
with_name names name = cond (is_in names name) (Over (Some (StandsTwice (dashed name)))) (Going (names ++ name ∷ []) None)

-- after a word that is no value, by its kind
abbrev pub after_other : Word → List ℕ → List (List ℕ) → State
after_other End word names = Over None
after_other (Awaits name) word names = Going names (Some name)
after_other (Has name value) word names = with_name names name
after_other (Bare name) word names = with_name names name
after_other Plain word names = Going names None
after_other Unknown word names = Over (Some (unknown_fault word))

-- after a word where a value is expected
abbrev pub after_value : List (List ℕ) → List ℕ → List ℕ → State
after_value names name word = cond (is_option word) (Over (Some (ValueAbsent (dashed name)))) (with_name names name)

abbrev pub after_one : State → List ℕ → State
after_one (Over fault) word = Over fault
after_one (Going names None) word = after_other (word_of word) word names
after_one (Going names (Some name)) word = after_value names name word

-- the fault if there are no more words, but an option may expect its value
abbrev pub awaited : Option (List ℕ) → Option WordFault
awaited None = None
awaited (Some name) = Some (ValueAbsent (dashed name))

abbrev pub ended : State → Option WordFault
ended (Over fault) = fault
ended (Going names awaits) = awaited awaits
