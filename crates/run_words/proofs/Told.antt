-- What the code finds is what the definitions say, test by test.
use Rattle.std.proofs.Common.{◌≡◌, ◌∙◌, ◌+◌, ◌≤◌, ◌||◌, refl, sym, ap, ℕ, Bool, true, false, nat_le, List, [], ◌∷◌, length, map, take, take_all, fold}
use Rattle.std.proofs.Common.{Option, Some, None, is_some, option_and_then}
use Rattle.std.specs.List.{list_all, prefix_len}
use Rattle.std.specs.Option.{option_or}
use Rattle.std.specs.Str.{is_utf8}
use Rattle.std.specs.Borrow.{Bor}
use Rattle.std.proofs.lemmas.Bool.{cond-false, cond-true}
use Rattle.run_words.specs.declared.option_name.OptionName.{OptionName}
use Rattle.run_words.specs.declared.fault.WordFault.{WordFault}
use Rattle.run_words.specs.declared.fault.WordFault.TheVariants.{NotText}
use Rattle.run_words.specs.Options.{Options, options_of}
use Rattle.run_words.specs.OptionNames.{distance, first_of, is_near, is_spelling, option_text}
use Rattle.run_words.specs.Faults.{apart_fault, asks_only, fault_from, need_fault, options_fault, text_fault, value_fault, word_fault}
use Rattle.run_words.specs.Shown.{shown_value}
use Rattle.run_words.specs.Forms.{State, Going, after_one, ended}
use Rattle.run_words.proofs.FaultWalk.{walk_law}
use Rattle.run_words.proofs.FormLemmas.{fold_now}

-- ---- near misses

pub near_spelled : (word : List ℕ) (option : OptionName) (spelled : Bool) → spelled ≡ is_spelling word option → spelled ≡ true
    → spelled ≡ is_near word option
unfolding is_near
near_spelled word option spelled is same =
    same ∙ sym (ap (λ (b : Bool). b || nat_le (distance word (option_text option)) 2) (sym is ∙ same))

pub near_other : (word : List ℕ) (option : OptionName) (spelled : Bool) (far : ℕ) → spelled ≡ is_spelling word option → spelled ≡ false
    → far ≡ distance word (option_text option) → nat_le far 2 ≡ is_near word option
unfolding is_near
near_other word option spelled far is other d =
    ap (λ (n : ℕ). nat_le n 2) d ∙ sym (ap (λ (b : Bool). b || nat_le (distance word (option_text option)) 2) (sym is ∙ other))

-- ---- options

pub is_shown : (value : Option (Bor (List ℕ))) → is_some value ≡ is_some (shown_value value)
is_shown None = refl
is_shown (Some text) = refl

pub asked_fine : (o : Options) → true ≡ asks_only o → None ≡ options_fault o
unfolding options_fault
asked_fine o asks = sym (cond-true (asks_only o) None (first_of (value_fault o ∷ need_fault o ∷ apart_fault o ∷ [])) (sym asks))

pub options_told : (o : Options) → false ≡ asks_only o → (value need apart : Option WordFault) → value ≡ value_fault o → need ≡ need_fault o
    → apart ≡ apart_fault o → option_or (option_or value need) apart ≡ options_fault o
unfolding options_fault
options_told o asks value need apart v n a =
    ap (λ (x : Option WordFault). option_or (option_or x need) apart) v
    ∙ (ap (λ (x : Option WordFault). option_or (option_or (value_fault o) x) apart) n
    ∙ (ap (λ (x : Option WordFault). option_or (option_or (value_fault o) (need_fault o)) x) a
    ∙ sym (cond-false (asks_only o) None (first_of (value_fault o ∷ need_fault o ∷ apart_fault o ∷ [])) (sym asks))))

-- ---- words

-- the fault of words that are text
abbrev text_words : List (List ℕ) → Option WordFault
text_words words = option_or (fault_from words [] None) (option_and_then options_fault (options_of words))

pub not_text : (words : List (List ℕ)) → list_all is_utf8 words ≡ false → (n : ℕ) → n ≡ prefix_len is_utf8 words
    → Some (NotText (n + 1)) ≡ word_fault words
unfolding word_fault
not_text words bad n is = ap (λ (k : ℕ). Some (NotText (k + 1))) is
    ∙ sym (cond-false (list_all is_utf8 words) (text_words words) (Some (text_fault words)) bad)

word_told : (words : List (List ℕ)) → list_all is_utf8 words ≡ true → text_words words ≡ word_fault words
unfolding word_fault
word_told words text = sym (cond-true (list_all is_utf8 words) (text_words words) (Some (text_fault words)) text)

pub first_told : (words : List (List ℕ)) → list_all is_utf8 words ≡ true → (fault : Option WordFault) → fault ≡ fault_from words [] None
    → true ≡ is_some fault → fault ≡ word_fault words
first_told words text None is some = let wrong : true ≡ false = some in absurd cc
first_told words text (Some fault) is some =
    ap (λ (x : Option WordFault). option_or x (option_and_then options_fault (options_of words))) is ∙ word_told words text

pub later_told : (words : List (List ℕ)) → list_all is_utf8 words ≡ true → (fault : Option WordFault) → fault ≡ fault_from words [] None
    → false ≡ is_some fault → (o : Option Options) → o ≡ options_of words → (found : Option WordFault) → found ≡ option_and_then options_fault o
    → found ≡ word_fault words
later_told words text None is none o given found e =
    e ∙ (ap (option_and_then options_fault) given
    ∙ (ap (λ (x : Option WordFault). option_or x (option_and_then options_fault (options_of words))) is ∙ word_told words text))
later_told words text (Some fault) is none o given found e = let wrong : false ≡ true = none in absurd cc

-- the walk over all words, as the code has them
pub walked : (words : List (Bor (List ℕ))) (n : ℕ) (s : State) → length words ≤ n
    → s ≡ fold (λ t w. after_one t w.now) (Going [] None) (take n words) → ended s ≡ fault_from (map (λ w. w.now) words) [] None
walked words n s all is =
    ap ended (is ∙ (ap (fold (λ t w. after_one t w.now) (Going [] None)) (take_all n words all) ∙ fold_now words (Going [] None)))
    ∙ walk_law (map (λ w. w.now) words) [] None
