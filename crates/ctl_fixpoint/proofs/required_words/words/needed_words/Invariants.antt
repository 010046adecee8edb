use Rattle.std.proofs.Common.{◌≡◌, ◌&&◌, ◌||◌, ℕ, List, drop}
use Rattle.std.specs.List.{list_any}
use Rattle.ctl_formula.specs.Formulas.{plain}
use Rattle.ctl_fixpoint.specs.RequiredWords.Words.{needs, is_among}
use Rattle.ctl_fixpoint.specs.RequiredWords.Standing.{stands_at}
use Rattle.ctl_fixpoint.proofs.required_words.words.needed_words.Given as goal

abbrev pub invariant-loop-i : goal.invariant-loop-i
invariant-loop-i l = (w : List ℕ) → (is_among l.found w || (needs w (plain l.f) && list_any (stands_at w) (drop l.i l.f.nodes)))
    ≡ (needs w (plain l.f) && list_any (stands_at w) l.f.nodes)
