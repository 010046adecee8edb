use Rattle.std.proofs.Common.{◌≡◌, ℕ, ◌++◌, ap, ◌∙◌}
use Rattle.std.specs.Prelude.{Option, Some, slice_get}
use Rattle.edit_bodies.specs.Looks.{pair_for}
use Rattle.edit_bodies.specs.Scenes.{leaves_of, statements_of, text_in}
use Rattle.edit_bodies.proofs.SeeLemmas.{pair_made}
use Rattle.edit_bodies.proofs.see.with_pair.Goals as goal

pub returns : goal.returns
returns c = λ all is.
    let s = c.args.scene.now in
    let p = c.args.place.now in
    let leads : Some c.in-Some-Some.lead ≡ p.lead = cc in
    let owns : Some c.in-Some-Some.owner ≡ slice_get (leaves_of s) p.body.now.owner = cc in
    let made = pair_made (text_in s) (leaves_of s) (statements_of s) p.body.now c.in-Some-Some.lead c.in-Some-Some.owner all c.args.row.now
    c.args.seen.braces c.in_ok-braces.braces c.in_ok-braces-2.braces c.end_of.result is owns c.end_of.ensures c.in_ok-braces.ensures
    c.in_ok-braces-2.ensures
    ∙ ap (λ (o : Option ℕ). c.args.seen.braces ++ pair_for (text_in s) (leaves_of s) (statements_of s) p.body.now o all) leads in
    λ i. record { braces = made i; broken = c.args.seen.broken }
