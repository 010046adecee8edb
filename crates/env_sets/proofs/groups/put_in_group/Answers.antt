use Rattle.std.proofs.Common.{◌++◌, ◌∷◌, [], ap, ◌∙◌, arith, set, get_or}
use Rattle.std.proofs.lemmas.List.{get_or_default}
use Rattle.env_sets.proofs.GroupLemmas.{group_more}
use Rattle.env_sets.proofs.groups.put_in_group.Goals as goal

pub returns-in_ok-put-in-Some-clause-meaning : goal.returns-in_ok-put-in-Some-clause-meaning
returns-in_ok-put-in-Some-clause-meaning c =
    let k = c.in-Some.k in
    let groups = c.args.groups.now in
    group_more c.args.x.now c.args.values.now groups (set groups k c.put.new.self) c.args.others.now.items c.args.e.now k
    c.requires.rise c.in-Some.ensures.0 c.in-Some.ensures.1
    (ap (set groups k)
    (c.in_ok-put-in-Some.ensures
    ∙ ap (λ g. g ++ c.in_ok-copy-in-Some.field-0 ∷ [])
    (get_or_default groups k c.index-groups-k.result [] (omega (arith, c.in-Some.ensures.0, c.requires.count)))
    ∙ ap (λ e. get_or groups k [] ++ e ∷ []) c.in_ok-copy-in-Some.ensures.same))
