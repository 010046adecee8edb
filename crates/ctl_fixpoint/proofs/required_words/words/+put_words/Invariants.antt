use Rattle.std.proofs.Common.{◌≡◌, ◌&&◌, ◌||◌, ℕ, List, drop}
use Rattle.std.specs.List.{list_any}
use Rattle.ctl_formula.specs.Formulas.{plain}
use Rattle.ctl_fixpoint.specs.RequiredWords.Words.{needs, is_among, has_word}
use Rattle.ctl_fixpoint.proofs.required_words.words.+put_words.Given as goal

abbrev pub invariant-loop-child : goal.invariant-loop-child
invariant-loop-child l = (w : List ℕ) → (is_among l.found w || (needs w (plain l.f) && list_any (has_word w) (drop l.child-index l.child-items)))
    ≡ (is_among l.initial.found w || (needs w (plain l.f) && has_word w l.tree))
