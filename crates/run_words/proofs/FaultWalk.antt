-- The walk over the words finds the first fault at one of them.
use Rattle.std.proofs.Common.{◌≡◌, refl, ap, ℕ, true, false, cond, List, [], ◌∷◌, ◌++◌, fold}
use Rattle.std.proofs.Common.{Option, Some, None}
use Rattle.c_lexer.specs.Words.{is_in}
use Rattle.run_words.specs.declared.fault.WordFault.{WordFault}
use Rattle.run_words.specs.declared.fault.WordFault.TheVariants.{StandsTwice, ValueAbsent}
use Rattle.run_words.specs.Parts.{Word, End, Awaits, Has, Bare, Plain, Unknown, is_option, word_of}
use Rattle.run_words.specs.OptionNames.{dashed}
use Rattle.run_words.specs.Faults.{fault_at, fault_from, twice_or}
use Rattle.run_words.specs.Forms.{Going, Over, after_one, after_other, after_value, ended, with_name, without_value}

-- a walk that is over stays so
over_law : (fault : Option WordFault) (words : List (List ℕ)) → fold after_one (Over fault) words ≡ Over fault
over_law fault [] = refl
over_law fault (word ∷ words) = over_law fault words

abbrev Finds : List (List ℕ) → Type 0
Finds words = (names : List (List ℕ)) (awaits : Option (List ℕ)) → ended (fold after_one (Going names awaits) words) ≡ fault_from words names awaits

named_law : (words : List (List ℕ)) → Finds words → (names : List (List ℕ)) (name : List ℕ)
    → ended (fold after_one (with_name names name) words) ≡ twice_or names name (λ ns. fault_from words ns None)
named_law words finds names name = elim (is_in names name) as (λ b.
    ended (fold after_one (cond b (Over (Some (StandsTwice (dashed name)))) (Going (names ++ name ∷ []) None)) words)
    ≡ cond b (Some (StandsTwice (dashed name))) (fault_from words (names ++ name ∷ []) None)) [
      | true ↦ ap ended (over_law (Some (StandsTwice (dashed name))) words)
      | false ↦ finds (names ++ name ∷ []) None
    ]

kind_law : (kind : Word) (word : List ℕ) (words : List (List ℕ)) → Finds words → (names : List (List ℕ))
    → ended (fold after_one (after_other kind word names) words) ≡ fault_at kind word names (fault_from words)
kind_law End word words finds names = ap ended (over_law None words)
kind_law (Awaits name) word words finds names = finds names (Some name)
kind_law (Has name value) word words finds names = named_law words finds names name
kind_law (Bare name) word words finds names = named_law words finds names name
kind_law Plain word words finds names = finds names None
kind_law Unknown word words finds names = ap ended (over_law _ words)

value_law : (word : List ℕ) (words : List (List ℕ)) → Finds words → (names : List (List ℕ)) (name : List ℕ)
    → ended (fold after_one (after_value names name word) words)
    ≡ cond (is_option word) (Some (ValueAbsent (dashed name))) (twice_or names name (λ ns. fault_from words ns None))
value_law word words finds names name = elim (is_option word) as (λ b.
    ended (fold after_one (cond b (Over (Some (ValueAbsent (dashed name)))) (with_name names name)) words)
    ≡ cond b (Some (ValueAbsent (dashed name))) (twice_or names name (λ ns. fault_from words ns None))) [
      | true ↦ ap ended (over_law (Some (ValueAbsent (dashed name))) words)
      | false ↦ named_law words finds names name
    ]

pub walk_law : (words names : List (List ℕ)) (awaits : Option (List ℕ)) → ended (fold after_one (Going names awaits) words) ≡ fault_from words names awaits
unfolding fault_from
walk_law [] names None = refl
walk_law [] names (Some name) = refl
walk_law (word ∷ words) names None = kind_law (word_of word) word words (walk_law words) names
walk_law (word ∷ words) names (Some name) = value_law word words (walk_law words) names name

-- an option with its value leads where one without leads
pub same_after_other : (kind : Word) (word : List ℕ) (names : List (List ℕ)) → after_other (without_value kind) word names ≡ after_other kind word names
same_after_other End word names = refl
same_after_other (Awaits name) word names = refl
same_after_other (Has name value) word names = refl
same_after_other (Bare name) word names = refl
same_after_other Plain word names = refl
same_after_other Unknown word names = refl
