use Rattle.std.proofs.Common.{◌≡◌, ℕ, refl, ap, ◌∙◌}
use Rattle.edit_marks.specs.EditWalk.Touches.{Touched}
use Rattle.edit_marks.specs.EditWalk.WalkContexts.{patterns_at}
use Rattle.edit_marks.specs.Tidy.Edits.{TouchAt, touch_of}
use Rattle.edit_marks.specs.Tidy.Reach.{without_last}
use Rattle.edit_marks.specs.Tidy.Touch.{touch_at}
use Rattle.edit_marks.proofs.Tidied.TouchLemmas.{same_edit_of}
use Rattle.edit_marks.proofs.tidy.touch.tidied_touch.Goals as goal

pub returns : goal.returns
returns c =
    let walk = c.args.context.now.walk in
    let place = c.args.place in
    let t : Touched = record { item = place.item; node = place.node; atom = place.atom; path = place.path.now; env = c.args.env.now } in
    let at = c.location-at.result in
    let there : touch_of at ≡ touch_at (patterns_at walk) walk.items.now c.args.context.now.depths.now t = c.location-at.ensures.touch t refl refl refl in
    let deep = ap (λ (x : TouchAt). x.depth.around) there in
    record {
      edit = same_edit_of walk.decls.now walk.tokens.now c.args.env.now _ _ _ _ _ _ _ _ c.in_ok-edit.edit
          c.location-at.ensures.ids c.location-at.ensures.files there (c.deref.ensures.value ∙ c.in_ok-pairs.ensures) c.in_ok-edit.ensures;
      statement = λ i. record {
        item = c.in_ok-statement.ensures.item i;
        path = (c.in_ok-statement.ensures.path ∙ ap (λ (n : ℕ). without_last n place.path.now) deep) i;
      };
    }
