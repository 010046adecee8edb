-- The words that the rules of a patch need, as they are kept.
use Rattle.std.specs.Prelude.{ℕ, ◌≡◌, Bool, true, false, List, slice_get}
use Rattle.std.specs.Option.{option_map_or}
use Rattle.std.specs.List.{AllZip, list_all, list_any}
use Rattle.std.specs.Coded.{Coded-set, coded_bool, Π_prop, Unit-prop}
use Rattle.run_choices.specs.declared.unread.Unread.{Unread}
use Rattle.run_choices.specs.declared.unread.Unread.TheVariants as unread
use Rattle.cpp_lines.specs.declared.span.ItemSpan.{ItemSpan}
use Rattle.c_file.specs.File.{FileItems}
use Rattle.ctl_formula.specs.Formulas.{FormulaOf, plain}
use Rattle.ctl_fixpoint.specs.RequiredWords.Words.{is_among}
use Rattle.rule_envs.specs.declared.rule_formulas.prepared.PreparedRule.{PreparedRule}
use Rattle.rule_chain.specs.Passed.{StandsIn}
use Rattle.rule_chain.specs.OneProof.{all_zip-prop}
use Rattle.rule_chain.specs.declared.rule_run.state.SkipNote.{SkipNote}
use Rattle.rule_chain.specs.RuleRun.Needed.{needs_word, holds_word, notes_where}

-- these are exactly the words that the formula needs, of which a long one counts as needing none
abbrev pub AreWordsIn : FormulaOf → List (List ℕ) → Type 0
AreWordsIn f words = (w : List ℕ) → is_among words w ≡ needs_word f.tokens (plain f) w

-- these are those of the rule
abbrev pub AreWordsOf : PreparedRule → List (List ℕ) → Type 0
AreWordsOf p words = AreWordsIn p.formula words

-- the words of each rule, which are asked for only if not all notes are told
abbrev pub AreRuleWords : Unread → List PreparedRule → List (List (List ℕ)) → Type 0
AreRuleWords unread.All prepared words = Unit {0}
AreRuleWords unread.Needed prepared words = AllZip AreWordsOf prepared words
AreRuleWords unread.None prepared words = AllZip AreWordsOf prepared words

-- one of the words stands nowhere in the bytes
abbrev pub LacksOne : List ℕ → List (List ℕ) → Type 0
LacksOne bytes words = (w : List ℕ) × ((is_among words w ≡ true) × (StandsIn bytes w → ⊥))

-- all words that are kept of the rule with this number pass the test
abbrev pub holds_kept : (List ℕ → Bool) → List (List (List ℕ)) → ℕ → Bool
holds_kept holds words n = option_map_or (λ (kept : List (List ℕ)). list_all holds kept) (slice_get words n) false

-- the item holds all words that are kept of one of the rules with these numbers
abbrev pub holds_some : List (List (List ℕ)) → List ℕ → FileItems → ItemSpan → Bool
holds_some words ran file span = list_any (holds_kept (holds_word file span) words) ran

-- the notes on the items of a reading that are skipped and hold the words of one of these rules
abbrev pub kept_on : List (List (List ℕ)) → List ℕ → (loaded reading : ℕ) → FileItems → List SkipNote
kept_on words ran loaded reading file = notes_where (holds_some words ran file) loaded reading file 0 file.items

-- ---- each of these has one proof

words_of-prop : (p : PreparedRule) (words : List (List ℕ)) → IsProp (AreWordsOf p words)
words_of-prop p words = Π_prop (λ w. Coded-set coded_bool (is_among words w) (needs_word p.formula.tokens (plain p.formula) w))

pub rule_words-prop : (choice : Unread) (prepared : List PreparedRule) (words : List (List (List ℕ))) → IsProp (AreRuleWords choice prepared words)
rule_words-prop unread.All prepared words = Unit-prop
rule_words-prop unread.Needed prepared words = all_zip-prop AreWordsOf words_of-prop prepared words
rule_words-prop unread.None prepared words = all_zip-prop AreWordsOf words_of-prop prepared words
