use Rattle.std.proofs.Common.{◌<◌, ◌+◌, ◌-◌, ◌||◌, Bool, sym, ap, ◌∙◌, arith}
use Rattle.std.specs.List.{list_any, range_with_len}
use Rattle.edit_unparse.specs.Tidy.Text.{changes}
use Rattle.edit_unparse.specs.Tidy.Plans.{placement_in}
use Rattle.edit_unparse.proofs.StayLemmas.{range_ahead}
use Rattle.edit_unparse.proofs.tidy.commas.changes_between.Goals as goal

pub loop-token-preserved : goal.loop-token-preserved
loop-token-preserved c =
    let f = changes (placement_in c.args.edits.now c.args.plan.now) in
    let token = c.loop-token.token in
    let stop = c.args.last + 1 in
    let less : token < stop = omega arith in
    sym (range_ahead f token stop less
    ∙ ap (λ (b : Bool). b || list_any f (range_with_len (token + 1) (stop - (token + 1)))) (sym c.changes.ensures ∙ c.if-changes.false))
    ∙ c.loop-token.invariant
