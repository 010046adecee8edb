use Rattle.std.proofs.Common.{ap, ◌∙◌, List}
use Rattle.std.specs.Prelude.{filter, map}
use Rattle.edit_bodies.specs.declared.braces.Coming.{Coming}
use Rattle.edit_bodies.specs.Rows.{same_spot}
use Rattle.edit_bodies.proofs.PlaceLemmas.{same_there}
use Rattle.edit_bodies.proofs.braces.Braces.at.Goals as goal

pub returns : goal.returns
returns c =
    c.in_ok-found.ensures
    ∙ ap (λ (bs : List Coming). map (λ (b : Coming). b.opens) (filter (λ b. same_spot b.spot c.args.spot) bs)) c.of_token-own.ensures
    ∙ ap (map (λ (b : Coming). b.opens)) (same_there c.args.self.now c.args.spot)
