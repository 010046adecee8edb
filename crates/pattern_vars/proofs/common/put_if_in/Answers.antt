use Rattle.std.proofs.Common.{Bool, ◌||◌, ap, sym, ◌∙◌}
use Rattle.pattern_vars.specs.Reads.{has}
use Rattle.pattern_vars.proofs.SetLemmas.{put-none}
use Rattle.pattern_vars.proofs.SureLemmas.{same-has, same-lacks}
use Rattle.pattern_vars.proofs.common.put_if_in.Goals as goal

pub returns-in_ok-put : goal.returns-in_ok-put
returns-in_ok-put c y =
    c.in_ok-put.ensures y
    ∙ ap (λ (b : Bool). has c.args.set.now y || b)
    (same-has c.args.other.now c.args.x.now y (sym c.in_ok-has.ensures ∙ c.if-branch.true))

pub returns-else-branch : goal.returns-else-branch
returns-else-branch c y =
    put-none (has c.args.set.now y) _ (same-lacks c.args.other.now c.args.x.now y (sym c.in_ok-has.ensures ∙ c.if-branch.false))
