use Rattle.std.proofs.Common.{◌≡◌, ◌&&◌, sym, ap, ◌∙◌}
use Rattle.std.proofs.lemmas.Result.{IfOk-weaker}
use Rattle.env_sets.specs.Sets.{set_denotes}
use Rattle.ctl_fixpoint.proofs.BlockLemmas.{end-of_block, no-end}
use Rattle.ctl_fixpoint.proofs.blocks.without_end.Goals as goal

pub returns-then-is_close-clause-gives : goal.returns-then-is_close-clause-gives
returns-then-is_close-clause-gives c = λ env.
    c.in_ok-meet.ensures.meaning env ∙ (λ i. set_denotes c.args.shut.now env && c.in_ok-off_place.ensures.gives env i)
    ∙ end-of_block c.args.g.now c.args.s c.label-label.result c.label-label.ensures.value (env c.args.b.now)
    (set_denotes c.args.shut.now env) (sym c.is_close.ensures ∙ c.if-is_close.true)

pub returns-clause-gives : goal.returns-clause-gives
returns-clause-gives c = IfOk-weaker c.copy.result _ _
    (λ r h env.
    ap (λ e. set_denotes e env) h
    ∙ no-end c.args.g.now c.args.s c.label-label.result c.label-label.ensures.value (env c.args.b.now)
    (set_denotes c.args.shut.now env) (sym c.is_close.ensures ∙ c.if-is_close.false))
    c.copy.ensures.same
