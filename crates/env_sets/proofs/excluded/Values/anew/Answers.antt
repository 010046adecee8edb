use Rattle.std.proofs.Common.{◌||◌, ap, ◌∙◌}
use Rattle.std.specs.List.{list_any}
use Rattle.std.proofs.lemmas.Result.{IfOk-weaker}
use Rattle.smpl_terms.specs.Values.{same}
use Rattle.env_sets.proofs.excluded.Values.anew.Goals as goal

pub returns-clause-meaning : goal.returns-clause-meaning
returns-clause-meaning c = IfOk-weaker c.of.result _ _ (λ r h z.
    let mine = list_any (λ v. same v z) c.args.self.now in
    ap (list_any (λ v. same v z)) (h ∙ c.into_vec.ensures.items) ∙ c.in_ok-all.ensures.meaning z ∙ c.in_ok-put_in-2.ensures z
    ∙ ap (λ b. b || list_any (λ v. same v z) c.args.more.now)
    (c.in_ok-put_in.ensures z ∙ ap (λ vs. list_any (λ v. same v z) vs || mine) c.new-all.ensures.items)) c.of.ensures.items
