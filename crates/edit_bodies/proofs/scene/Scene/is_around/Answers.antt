use Rattle.std.proofs.Common.{ap, ◌∙◌, List, ℕ, get_or, []}
use Rattle.std.specs.Prelude.{slice_get}
use Rattle.std.specs.List.{list_all}
use Rattle.edit_bodies.specs.Scenes.{is_within_some, statements_of}
use Rattle.edit_bodies.proofs.SceneLemmas.{within_all}
use Rattle.edit_bodies.proofs.scene.Scene.is_around.Goals as goal

pub returns : goal.returns
returns c =
    let all = statements_of c.args.self.now in
    c.is_within_all.ensures
    ∙ ap (list_all (λ (n : ℕ). is_within_some (slice_get all n) c.args.body.now))
    (c.own_numbers.ensures ∙ ap (λ (l : List (List ℕ)). get_or l c.args.edit []) c.deref.ensures.value ∙ c.args.self.now.by_edit c.args.edit)
    ∙ within_all all c.args.body.now c.args.edit
