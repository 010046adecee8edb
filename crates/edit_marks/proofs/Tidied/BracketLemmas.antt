-- Brackets around words, one more word, and words that need none.
use Rattle.std.proofs.Common.{◌≡◌, ◌<◌, ◌+◌, ◌&&◌, ◌||◌, ℕ, Bool, true, false, refl, sym, ap, ◌∙◌, List, [], ◌∷◌, ◌++◌, append_assoc, length, get_or, drop}
use Rattle.std.specs.Prelude.{Option, not}
use Rattle.edit_marks.specs.declared.tidy.words.BlockWord.{BlockWord}
use Rattle.edit_marks.specs.declared.tidy.words.Hold.{Hold}
use Rattle.edit_marks.specs.Blocks.{left_after}
use Rattle.edit_marks.specs.Tidy.Brackets.{is_firm, is_closed_left, is_closed_right, needs_brackets, first_token, with_brackets, with_brackets_if, has_loose_word}
use Rattle.edit_marks.proofs.Lines.{next}

pub brackets_step : (words : List BlockWord) (i : ℕ) (w : BlockWord) (left right : Option (List ℕ)) → i < length words → w ≡ get_or words i w
    → with_brackets left right (drop i words)
    ≡ with_brackets_if (needs_brackets w.hold left (first_token (drop (i + 1) words) right)) w
    ∷ with_brackets (left_after left w.chunk.last) right (drop (i + 1) words)
brackets_step words i w left right less is = ap (with_brackets left right) (next words i w less is)

-- one more word
pub brackets_more : (words : List BlockWord) (i : ℕ) (w b : BlockWord) (left next right : Option (List ℕ)) (needs : Bool) (behind all new whole : List BlockWord)
    → i < length words → w ≡ get_or words i w → behind ≡ drop (i + 1) words → needs ≡ needs_brackets w.hold left (first_token behind right)
    → b ≡ with_brackets_if needs w → new ≡ all ++ b ∷ [] → next ≡ left_after left w.chunk.last
    → all ++ with_brackets left right (drop i words) ≡ whole → new ++ with_brackets next right (drop (i + 1) words) ≡ whole
brackets_more words i w b left next right needs behind all new whole less is rest needs_is b_is new_is next_is h =
    let own : b ≡ with_brackets_if (needs_brackets w.hold left (first_token (drop (i + 1) words) right)) w =
    b_is ∙ ap (λ (x : Bool). with_brackets_if x w) (needs_is ∙ ap (λ (l : List BlockWord). needs_brackets w.hold left (first_token l right)) rest) in
    let more = with_brackets (left_after left w.chunk.last) right (drop (i + 1) words) in
    (λ j. new_is j ++ with_brackets (next_is j) right (drop (i + 1) words))
    ∙ append_assoc all (b ∷ []) more
    ∙ (λ j. all ++ (own j ∷ more))
    ∙ ap (λ (l : List BlockWord). all ++ l) (sym (brackets_step words i w left right less is))
    ∙ h

pub first_step : (words : List BlockWord) (i : ℕ) (w : BlockWord) (right : Option (List ℕ)) → i < length words → w ≡ get_or words i w
    → first_token (drop i words) right ≡ left_after (first_token (drop (i + 1) words) right) w.chunk.first
first_step words i w right less is = ap (λ (l : List BlockWord). first_token l right) (next words i w less is)

both_false : (a b : Bool) → (a || b) ≡ false → (a ≡ false) × (b ≡ false)
both_false true b e = absurd cc
both_false false b e = (refl, e)

firm : (b : Bool) → not b ≡ false → b ≡ true
firm true e = refl
firm false e = absurd cc

pub firm_needs_none : (h : Hold) (left right : Option (List ℕ)) → is_firm h ≡ true → needs_brackets h left right ≡ false
firm_needs_none h left right is = ap (λ (b : Bool). not b && not (is_closed_left h left && is_closed_right h right)) is

-- where no value may need brackets, the tokens next to the block make no difference
pub firm_same : (words : List BlockWord) (l r l' r' : Option (List ℕ)) → has_loose_word words ≡ false → with_brackets l r words ≡ with_brackets l' r' words
firm_same [] l r l' r' e = refl
firm_same (w ∷ words) l r l' r' e =
    let parts = both_false (not (is_firm w.hold)) (has_loose_word words) e in
    let is = firm (is_firm w.hold) parts.0 in
    let same = firm_needs_none w.hold l (first_token words r) is ∙ sym (firm_needs_none w.hold l' (first_token words r') is) in
    (λ j. with_brackets_if (same j) w ∷ firm_same words (left_after l w.chunk.last) r (left_after l' w.chunk.last) r' parts.1 j)
