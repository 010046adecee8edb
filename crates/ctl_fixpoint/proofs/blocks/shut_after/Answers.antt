use Rattle.std.proofs.Common.{◌≡◌, ◌&&◌, ◌||◌, sym, ◌∙◌}
use Rattle.env_sets.specs.Sets.{set_denotes}
use Rattle.ctl_fixpoint.proofs.BlockLemmas.{open-brace_shut, close-brace_shut, no-brace_shut}
use Rattle.ctl_fixpoint.proofs.blocks.shut_after.Goals as goal

pub returns-then-is_open-clause-gives : goal.returns-then-is_open-clause-gives
returns-then-is_open-clause-gives c = λ env.
    c.in_ok-meet.ensures.meaning env ∙ (λ i. set_denotes c.args.shut env && c.in_ok-off_place.ensures.gives env i)
    ∙ open-brace_shut c.args.g.now c.args.s c.label-label.result c.label-label.ensures.value (env c.args.b.now)
    (set_denotes c.args.shut env) (sym c.is_open.ensures ∙ c.if-is_open.true)

pub returns-then-is_close-clause-gives : goal.returns-then-is_close-clause-gives
returns-then-is_close-clause-gives c = λ env.
    c.in_ok-join.ensures.meaning env ∙ (λ i. set_denotes c.args.shut env || c.in_ok-at_place.ensures.gives env i)
    ∙ close-brace_shut c.args.g.now c.args.s c.label-label.result c.label-label.ensures.value (env c.args.b.now)
    (set_denotes c.args.shut env) (sym c.is_open.ensures ∙ c.if-is_open.false) (sym c.is_close.ensures ∙ c.if-is_close.true)

pub returns-clause-gives : goal.returns-clause-gives
returns-clause-gives c = λ env.
    no-brace_shut c.args.g.now c.args.s c.label-label.result c.label-label.ensures.value (env c.args.b.now)
    (set_denotes c.args.shut env) (sym c.is_open.ensures ∙ c.if-is_open.false) (sym c.is_close.ensures ∙ c.if-is_close.false)
