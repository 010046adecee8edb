-- For internal use: from word to word, without the commas beside lists that have no member.
use Rattle.std.specs.Prelude.{Bool, true, false, List, [], ◌∷◌}
use Rattle.edit_marks.specs.declared.tidy.words.BlockWord.{BlockWord}

abbrev pub begins_with_list : List BlockWord → Bool
begins_with_list [] = false
begins_with_list (w ∷ words) = w.is_empty_list

abbrev pub begins_with_comma : List BlockWord → Bool
begins_with_comma [] = false
begins_with_comma (w ∷ words) = w.is_comma

abbrev pub closed_word : Bool → BlockWord → BlockWord
closed_word true w = record w { gap = [] }
closed_word false w = w

abbrev pub kept_word : Bool → Bool → BlockWord → List BlockWord
kept_word true closes w = []
kept_word false closes w = closed_word closes w ∷ []

abbrev pub closes_after : Bool → Bool → Bool → Bool
closes_after true closes takes = closes
closes_after false closes takes = takes

abbrev pub without_first : Bool → List BlockWord → List BlockWord
without_first goes [] = []
without_first true (w ∷ words) = words
without_first false (w ∷ words) = w ∷ words
