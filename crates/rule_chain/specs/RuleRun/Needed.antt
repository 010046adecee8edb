-- Items that can't be read and that hold all words which some rule needs that ran.
use Rattle.std.specs.Prelude.{ℕ, suc, nat_lt, Bool, false, not, ◌&&◌, ◌||◌, cond, List, [], ◌∷◌, ◌++◌, length, slice_get, slice_range}
use Rattle.std.specs.Option.{option_map_or}
use Rattle.std.specs.List.{list_any, list_all}
use Rattle.c_terms.specs.declared.token.Token.{Token}
use Rattle.c_terms.specs.declared.tree.Tree.{Tree}
use Rattle.c_terms.specs.Trees.{leaves}
use Rattle.c_terms.specs.Same.{same_bytes}
use Rattle.c_lexer.specs.Pieces.{TextPiece}
use Rattle.cpp_lines.specs.declared.span.ItemSpan.{ItemSpan}
use Rattle.cpp_lines.specs.declared.reading.Item.{Item}
use Rattle.cpp_lines.specs.declared.reading.Item.TheVariants.{Parsed, Skipped}
use Rattle.c_file.specs.File.{FileItems}
use Rattle.smpl_patch.specs.declared.rule.Rule.{Rule}
use Rattle.smpl_patch.specs.declared.pattern.PatToken.{PatToken}
use Rattle.ctl_formula.specs.Plain.{Plain, True, Atom, EarlyExit, BraceOpen, BraceClose, Inside, Outside, Not, And, Or, AX, EX, AU}
use Rattle.ctl_formula.specs.Plain.{EU, After, InBranch, Exists}
use Rattle.ctl_fixpoint.specs.RequiredWords.Words.{is_word_kind, needs}
use Rattle.ctl_translate.specs.Rules.{formula_of}
use Rattle.env_parts.specs.Parts.{Pairs}
use Rattle.rule_chain.specs.declared.rule_run.state.SkipNote.{SkipNote}
use Rattle.rule_chain.specs.RuleRun.Notes.{notes_from}

-- ---- words of a formula

-- the names, keywords, numbers and literals among tokens
abbrev pub words_among : List Token → List (List ℕ)
words_among [] = []
words_among (a ∷ tokens) = cond (is_word_kind a.kind) (a.text ∷ words_among tokens) (words_among tokens)

-- those of the first form
abbrev pub words_of_first : List Tree → List (List ℕ)
words_of_first [] = []
words_of_first (form ∷ forms) = words_among (leaves form)

-- Those of the first forms of its patterns. No other word can be one that the formula needs; so law `needed_words_are_held`.
abbrev pub words_in : Plain → List (List ℕ)
words_in True = []
words_in (Atom p) = words_of_first p.forms
words_in EarlyExit = []
words_in (BraceOpen p b) = words_of_first p.forms
words_in (BraceClose p b) = words_of_first p.forms
words_in (Inside b) = []
words_in (Outside b) = []
words_in (Not f) = words_in f
words_in (And f h) = words_in f ++ words_in h
words_in (Or f h) = words_in f ++ words_in h
words_in (AX f) = words_in f
words_in (EX f) = words_in f
words_in (AU f h) = words_in f ++ words_in h
words_in (EU f h) = words_in f ++ words_in h
words_in (After f) = words_in f
words_in (InBranch i f) = words_in f
words_in (Exists x f) = words_in f

-- the most tokens of a rule whose words are looked for
abbrev pub most_tokens : ℕ
most_tokens = 1000

abbrev pub is_long : List PatToken → Bool
is_long tokens = nat_lt most_tokens (length tokens)

-- The rule with these tokens and this formula counts as one that needs the word. A longer rule counts as one that needs none.
abbrev pub needs_word : List PatToken → Plain → List ℕ → Bool
needs_word tokens f w = not (is_long tokens) && needs w f

-- ---- items

-- the piece with this number is the word
abbrev pub is_word_at : List TextPiece → List ℕ → ℕ → Bool
is_word_at pieces w n = option_map_or (λ (p : TextPiece). same_bytes p.text w) (slice_get pieces n) false

module _ (file : FileItems) (span : ItemSpan) where
  -- one of the item's visible tokens is the word
  abbrev pub holds_word : List ℕ → Bool
  holds_word w = list_any (is_word_at file.pieces w) (slice_range file.shown span.first span.last)

  -- it holds each word that the formula needs
  abbrev pub holds_needed : Plain → Bool
  holds_needed f = list_all (λ w. not (needs w f) || holds_word w) (words_in f)

  -- it holds each word that the rule needs, of which a long one counts as needing none
  abbrev pub holds_words : Rule → Bool
  holds_words rule = is_long rule.tokens || holds_needed (formula_of rule)

  -- it holds each word that one of these rules needs
  abbrev pub may_match : List Rule → Bool
  may_match rules = list_any holds_words rules

-- ---- notes

-- the item is skipped and passes the test
abbrev pub is_where : (ItemSpan → Bool) → Item → Bool
is_where test (Parsed t) = false
is_where test (Skipped span why) = test span

-- notes on those of these items of a file that a reading skipped and that pass the test; they are numbered from here
abbrev pub notes_where : (ItemSpan → Bool) → (loaded reading : ℕ) → FileItems → (at : ℕ) → List Item → List SkipNote
notes_where test loaded reading file at [] = []
notes_where test loaded reading file at (item ∷ items) = cond (is_where test item)
    (notes_from loaded reading file at (item ∷ []) ++ notes_where test loaded reading file (suc at) items)
    (notes_where test loaded reading file (suc at) items)

-- the notes on a reading in which these rules ran: on the items that hold all words of one of them
abbrev pub needed_on : List Rule → (loaded reading : ℕ) → FileItems → List SkipNote
needed_on rules loaded reading file = notes_where (λ span. may_match file span rules) loaded reading file 0 file.items

-- ---- so far

-- What the chain has so far of them.
pub record NeededNotes : Type 0 where
  -- the numbers of the pieces that the last reading shows
  pub shown : List ℕ
  -- the rules that ran over it, in order
  pub ran : List Rule
  -- the notes on the readings before it
  pub earlier : List SkipNote

-- before the first rule
abbrev pub none_needed : (shown : List ℕ) → NeededNotes
none_needed shown = record { shown = shown; ran = []; earlier = [] }

-- a rule runs if it has something to run under, so if some environment takes part in it
abbrev pub ran_after : List Rule → Rule → List Pairs → List Rule
ran_after ran rule [] = ran
ran_after ran rule (env ∷ envs) = ran ++ rule ∷ []
