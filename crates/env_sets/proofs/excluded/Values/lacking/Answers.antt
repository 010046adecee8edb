use Rattle.std.proofs.Common.{◌||◌, ap, ◌∙◌}
use Rattle.std.specs.List.{list_any}
use Rattle.smpl_terms.specs.Values.{same}
use Rattle.env_sets.proofs.RunLemmas.{lacked}
use Rattle.env_sets.proofs.excluded.Values.lacking.Goals as goal

pub returns-clause-meaning : goal.returns-clause-meaning
returns-clause-meaning c = λ z.
    let mine = list_any (λ v. same v z) c.args.self.now in
    ap (λ b. mine || b) (ap (list_any (λ v. same v z)) c.into_vec.ensures.items ∙ c.in_ok-lacking.ensures.meaning z)
    ∙ lacked mine c.new-lacking.result.items c.put_lacking.new.out.items c.lack_runs.new.out.items c.as_slice.result.now
    c.more.inside.runs.first c.args.more.now c.as_slice-2.result.now c.more.inside.runs.rest z
    c.new-lacking.ensures.items c.as_slice.ensures.items c.as_slice-2.ensures.items c.more.view_is (c.in_ok-put_lacking.ensures z) (c.in_ok-lack_runs.ensures z)
