use Rattle.std.proofs.Common.{◌≡◌, ◌<◌, ◌&&◌, ◌||◌, [], ap, sym, ◌∙◌, arith, length, get_or}
use Rattle.std.specs.List.{list_any}
use Rattle.smpl_terms.specs.Values.{same}
use Rattle.std.proofs.lemmas.List.{get_or_default}
use Rattle.std.proofs.lemmas.Result.{IfOk-weaker}
use Rattle.env_sets.specs.Sets.{entry_denotes, set_denotes, set_vars}
use Rattle.env_sets.proofs.GroupLemmas.{met_elsewhere, met_in_group}
use Rattle.env_sets.proofs.algebra.meet_by_group.Goals as goal

pub returns-in-None-place_in_order-clause-meaning : goal.returns-in-None-place_in_order-clause-meaning
returns-in-None-place_in_order-clause-meaning c = IfOk-weaker c.meet_each-in-None-place_in_order.result _ _ (λ r h env.
    h env
    ∙ ap (λ es. set_denotes c.args.out.now.items env || (entry_denotes c.args.e.now env && set_denotes es env)) c.entries.ensures.entries
    ∙ ap (λ b. set_denotes c.args.out.now.items env || b)
    (met_elsewhere c.args.x.now c.args.groups.now.values c.args.b.now c.args.groups.now.groups.items c.args.groups.now.others c.args.e.now c.in-Some.v.now
    c.requires.groups c.in-Some.ensures (ap (list_any (λ w. same w c.in-Some.v.now)) (sym c.as_slice.ensures.items) ∙ c.in-None-place_in_order.ensures) env))
    c.meet_each-in-None-place_in_order.ensures.meaning

pub returns-in-Some-place_in_order-clause-meaning : goal.returns-in-Some-place_in_order-clause-meaning
returns-in-Some-place_in_order-clause-meaning c =
    let k = c.in-Some-place_in_order.k in
    let values = c.as_slice.ensures.items in
    let within : k < length c.args.groups.now.values = omega (arith, c.in-Some-place_in_order.ensures.0, ap length values) in
    let group : c.entries-in-Some-place_in_order.result.now ≡ get_or c.args.groups.now.groups.items k [] =
    c.entries-in-Some-place_in_order.ensures.entries ∙ c.index.ensures
    ∙ get_or_default c.args.groups.now.groups.items k c.index.result.now [] (omega (arith, within, c.requires.groups.0)) in
    let here = ap (λ vs. same (get_or vs k c.in-Some.v.now) c.in-Some.v.now) (sym values) ∙ c.in-Some-place_in_order.ensures.1 in
    IfOk-weaker c.meet_group_and_others.result _ _ (λ r h env.
    h env
    ∙ ap (λ es. set_denotes c.args.out.now.items env
    || (entry_denotes c.args.e.now env &&
    (set_denotes c.entries-in-Some-place_in_order.result.now env || set_denotes es env))) c.entries-in-Some-place_in_order-2.ensures.entries
    ∙ ap (λ b. set_denotes c.args.out.now.items env || b)
    (met_in_group c.args.x.now c.args.groups.now.values c.args.b.now c.args.groups.now.groups.items c.args.groups.now.others
    c.entries-in-Some-place_in_order.result.now c.args.e.now c.in-Some.v.now k c.requires.groups c.in-Some.ensures within here group env))
    c.meet_group_and_others.ensures.meaning

pub returns-in-Some-place_in_order-clause-vars : goal.returns-in-Some-place_in_order-clause-vars
returns-in-Some-place_in_order-clause-vars c =
    let k = c.in-Some-place_in_order.k in
    let within : k < length c.args.groups.now.values = omega (arith, c.in-Some-place_in_order.ensures.0, ap length c.as_slice.ensures.items) in
    let group : c.entries-in-Some-place_in_order.result.now ≡ get_or c.args.groups.now.groups.items k [] =
    c.entries-in-Some-place_in_order.ensures.entries ∙ c.index.ensures
    ∙ get_or_default c.args.groups.now.groups.items k c.index.result.now [] (omega (arith, within, c.requires.groups.0)) in
    IfOk-weaker c.meet_group_and_others.result _ _ (λ r h t first second third.
    let all = c.requires.vars t third in
    h t first second (ap (set_vars t) group ∙ all.0 k) (ap (set_vars t) c.entries-in-Some-place_in_order-2.ensures.entries ∙ all.1))
    c.meet_group_and_others.ensures.vars
