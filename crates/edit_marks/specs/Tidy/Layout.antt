-- The text of a block at its anchor.
use Rattle.std.specs.Prelude.{ℕ, zero, suc, ◌+◌, ◌==◌, ◌||◌, Bool, false, List, [], ◌∷◌, ◌++◌, drop, take, if◌then◌else◌}
use Rattle.std.specs.Prelude.{Option, None}
use Rattle.std.specs.List.{prefix_len}
use Rattle.edit_marks.specs.declared.insert.Anchor.{Anchor}
use Rattle.edit_marks.specs.declared.insert.Anchor.TheVariants.{Removed, AfterLine, AfterToken, BeforeToken}
use Rattle.edit_marks.specs.Blocks.{block_ends, chunk_text, left_after, left_at}
use Rattle.edit_marks.specs.Inserts.{insert_of}
use Rattle.edit_marks.specs.declared.tidy.words.BlockWord.{BlockWord}

-- the text of the words of a line, after a token that they may be beside
abbrev pub words_text : Option (List ℕ) → List BlockWord → List ℕ
words_text left [] = []
words_text left (w ∷ words) = chunk_text left w.gap w.chunk ++ words_text (left_after (left_at left w.gap) w.chunk.last) words

-- without the blanks before the first word, as far as they begin all lines
abbrev pub without_lead : ℕ → List BlockWord → List BlockWord
without_lead m [] = []
without_lead m (w ∷ words) = record w { gap = drop m w.gap } ∷ words

-- how many words in front are of a line
abbrev pub count_at : ℕ → List BlockWord → ℕ
count_at number words = prefix_len (λ w. w.line == number) words

abbrev pub line_of : ℕ → ℕ → List BlockWord → List ℕ
line_of m number words = words_text None (without_lead m (take (count_at number words) words))

abbrev pub joint_before : ℕ → List ℕ → List ℕ
joint_before zero joint = []
joint_before (suc number) joint = joint

-- the text of this many lines from a number on, each but the first preceded by a joint
abbrev pub tidy_lines : ℕ → List ℕ → ℕ → ℕ → List BlockWord → List ℕ
tidy_lines m joint number zero words = []
tidy_lines m joint number (suc n) words =
    joint_before number joint ++ (line_of m number words ++ tidy_lines m joint (number + 1) n (drop (count_at number words) words))

-- the last token of words
abbrev pub last_word : Option (List ℕ) → List BlockWord → Option (List ℕ)
last_word left [] = left
last_word left (w ∷ words) = last_word (left_after left w.chunk.last) words

-- a sign before which no space stands
abbrev pub is_close_to_left : List ℕ → Bool
is_close_to_left [] = false
is_close_to_left (b ∷ bytes) = b == 44 || b == 59 || b == 41 || b == 93

-- the text at an anchor: as where it is not tidied, but that no space stands before a comma, `;`, `)` or `]`
abbrev pub tidy_insert_of : Anchor → List ℕ → List ℕ → Bool → List ℕ
tidy_insert_of AfterToken joint text ends = if is_close_to_left text then text else 32 ∷ text
tidy_insert_of Removed joint text ends = insert_of Removed joint text ends
tidy_insert_of AfterLine joint text ends = insert_of AfterLine joint text ends
tidy_insert_of BeforeToken joint text ends = insert_of BeforeToken joint text ends

-- the text of a block with these words at an anchor, its lines joined by these bytes
abbrev pub tidy_text : Anchor → List ℕ → ℕ → ℕ → List BlockWord → List ℕ
tidy_text anchor joint lead lines words = tidy_insert_of anchor joint (tidy_lines lead joint 0 lines words) (block_ends (last_word None words))
