use Rattle.std.proofs.Common.{◌&&◌, ◌||◌, ap, sym, ◌∙◌}
use Rattle.std.specs.List.{list_any}
use Rattle.std.proofs.lemmas.Result.{IfOk-weaker}
use Rattle.smpl_terms.specs.Values.{same}
use Rattle.env_sets.specs.Sets.{entry_denotes, set_denotes}
use Rattle.env_sets.proofs.BoundLemmas.{any_same-along}
use Rattle.env_sets.proofs.GroupLemmas.{fixed_same}
use Rattle.env_sets.proofs.LoopLemmas.{denotes_one}
use Rattle.env_sets.proofs.MeetLemmas.{known, unknown}
use Rattle.env_sets.proofs.algebra.meet_at_variable.Goals as goal

pub returns-then-have-clause-meaning : goal.returns-then-have-clause-meaning
returns-then-have-clause-meaning c = λ env.
    ap (λ es. set_denotes es env) c.in_ok-push-in-Some.ensures.items
    ∙ denotes_one c.args.out.now.items c.in_ok-copy-in-Some.field-0 env
    ∙ ap (λ b. set_denotes c.args.out.now.items env || b)
    (ap (λ e. entry_denotes e env) c.in_ok-copy-in-Some.ensures.same
    ∙ known (entry_denotes c.args.e.now env) (list_any (λ v. same v (env c.args.x.now)) c.args.parts.now.fixed)
    (set_denotes c.args.b.now env) (set_denotes c.args.parts.now.others env)
    (λ yes. sym (any_same-along c.in-Some.v.now (env c.args.x.now)
    (fixed_same c.args.x.now c.args.e.now c.in-Some.v.now c.in-Some.ensures env yes) c.args.parts.now.fixed) ∙ sym c.have.ensures.value ∙ c.if-have.true)
    (c.requires.parts env))

pub returns-else-have-clause-meaning : goal.returns-else-have-clause-meaning
returns-else-have-clause-meaning c = IfOk-weaker c.meet_by_group.result _ _ (λ r h env.
    h env
    ∙ ap (λ es. set_denotes c.args.out.now.items env || (entry_denotes c.args.e.now env && set_denotes es env)) c.entries.ensures.entries
    ∙ ap (λ b. set_denotes c.args.out.now.items env || b)
    (unknown (entry_denotes c.args.e.now env) (list_any (λ v. same v (env c.args.x.now)) c.args.parts.now.fixed)
    (set_denotes c.args.b.now env) (set_denotes c.args.parts.now.others env)
    (λ yes. sym (any_same-along c.in-Some.v.now (env c.args.x.now)
    (fixed_same c.args.x.now c.args.e.now c.in-Some.v.now c.in-Some.ensures env yes) c.args.parts.now.fixed) ∙ sym c.have.ensures.value ∙ c.if-have.false)
    (c.requires.parts env)))
    c.meet_by_group.ensures.meaning
