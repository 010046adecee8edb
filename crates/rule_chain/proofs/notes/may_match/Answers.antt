use Rattle.std.proofs.Common.{◌∙◌, ℕ, Bool, List, ap}
use Rattle.std.specs.List.{list_any}
use Rattle.rule_chain.specs.RuleWords.{holds_kept}
use Rattle.rule_chain.proofs.notes.may_match.Goals as goal

pub returns : goal.returns
returns c =
    c.has_some.ensures
    ∙ ap (λ (holds : List ℕ → Bool). list_any (holds_kept holds c.args.words.now) c.args.ran.now) (λ i w. c.in_ok-texts.ensures w i)
