use Rattle.std.proofs.Common.{◌≡◌, ◌||◌, ℕ, List}
use Rattle.std.specs.Prelude.{slice_range}
use Rattle.std.specs.List.{list_any}
use Rattle.c_terms.specs.Names.{has_name}
use Rattle.rule_chain.specs.RuleRun.Needed.{is_word_at, holds_word}
use Rattle.rule_chain.proofs.item_texts.item_texts.Given as goal

-- the texts so far and those of the tokens from here on are all
abbrev pub invariant-loop-place : goal.invariant-loop-place
invariant-loop-place l = (w : List ℕ)
    → (has_name l.texts w || list_any (is_word_at l.file.pieces w) (slice_range l.shown l.place l.fn.span.last)) ≡ holds_word l.file l.fn.span w
