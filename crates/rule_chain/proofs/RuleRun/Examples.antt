-- Examples of notes on skipped items and of the words that items hold, above all where two readings would differ.
use Rattle.std.proofs.Common.{◌≡◌, ℕ, true, false, refl, List, [], ◌∷◌, Some, None}
use Rattle.std.specs.Prelude.{codes}
use Rattle.c_terms.specs.declared.token.TokenKind.TheVariants.{Name, Number, Punct}
use Rattle.c_lexer.specs.declared.piece.PieceKind.TheVariants.{Word, Blank, Comment}
use Rattle.c_lexer.specs.Pieces.{TextPiece}
use Rattle.cpp_lines.specs.declared.reading.Item.TheVariants.{Skipped}
use Rattle.cpp_lines.specs.declared.reading.Why.TheVariants.{NoTree, TooDeep}
use Rattle.c_file.specs.File.{FileItems}
use Rattle.ctl_formula.specs.Plain.{True}
use Rattle.rule_chain.specs.RuleRun.Notes.{item_token, notes_on}
use Rattle.rule_chain.specs.RuleRun.Needed.{words_among, holds_word, holds_needed, needed_on}

abbrev token : ℕ → TextPiece
token id = record { kind = Word Name id; text = codes "x" }

abbrev blank : TextPiece
blank = record { kind = Blank; text = codes " " }

-- A later reading of a text that had 5 tokens when it was loaded: tokens with the ids 7, 0, 3, 8 and 9, a blank after the first.
-- The token with the id 0 is a marker, so it isn't shown.
abbrev later : FileItems
later = record {
  pieces = token 7 ∷ blank ∷ token 0 ∷ token 3 ∷ token 8 ∷ token 9 ∷ [];
  shown = 0 ∷ 3 ∷ 4 ∷ 5 ∷ [];
  items = Skipped (record { first = 0; last = 2 }) NoTree ∷ Skipped (record { first = 2; last = 4 }) TooDeep ∷ [];
}

-- the first token of the item was added, and the second isn't shown
after_an_added_token : item_token 5 later (record { first = 0; last = 2 }) ≡ Some 3
after_an_added_token = refl

-- all tokens of the item were added
added_tokens : item_token 5 later (record { first = 2; last = 4 }) ≡ None
added_tokens = refl

-- had the text had 8 tokens, the item's first token would be one of them
first_token : item_token 8 later (record { first = 0; last = 2 }) ≡ Some 7
first_token = refl

notes_of_a_later_reading : notes_on 5 1 later ≡ record { reading = 1; item = 0; why = NoTree; token = Some 3 }
    ∷ record { reading = 1; item = 1; why = TooDeep; token = None } ∷ []
notes_of_a_later_reading = refl

-- ---- words of items

abbrev word : List ℕ → TextPiece
word text = record { kind = Word Name 0; text = text }

-- `locked`, a comment, `free` in a hidden arm and `lock`, in two items
abbrev held : FileItems
held = record {
  pieces = word (codes "locked") ∷ record { kind = Comment; text = codes "/* unlock */" } ∷ word (codes "free") ∷ word (codes "lock") ∷ [];
  shown = 0 ∷ 3 ∷ [];
  items = Skipped (record { first = 0; last = 1 }) NoTree ∷ Skipped (record { first = 1; last = 2 }) NoTree ∷ [];
}

a_part_of_a_word : holds_word held (record { first = 0; last = 1 }) (codes "lock") ≡ false
a_part_of_a_word = refl

the_word : holds_word held (record { first = 1; last = 2 }) (codes "lock") ≡ true
the_word = refl

in_a_comment : holds_word held (record { first = 0; last = 2 }) (codes "unlock") ≡ false
in_a_comment = refl

in_a_hidden_arm : holds_word held (record { first = 0; last = 2 }) (codes "free") ≡ false
in_a_hidden_arm = refl

-- where no rule ran, no item is needed
no_rule_ran : needed_on [] 5 0 held ≡ []
no_rule_ran = refl

-- a formula that needs nothing is held by each item
needs_nothing : holds_needed held (record { first = 0; last = 1 }) True ≡ true
needs_nothing = refl

-- names, keywords, numbers and literals are words; brackets and variables are none
words_of_tokens : words_among (record { kind = Name; text = codes "lock"; id = 0 } ∷ record { kind = Punct; text = codes "("; id = 1 }
    ∷ record { kind = Number; text = codes "0"; id = 2 } ∷ []) ≡ codes "lock" ∷ codes "0" ∷ []
words_of_tokens = refl
