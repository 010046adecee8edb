use Rattle.std.proofs.Common.{ap, ◌∙◌, ◌||◌, Bool, true, false, List}
use Rattle.smpl_terms.specs.declared.var.Var.{Var}
use Rattle.smpl_patch.specs.declared.pattern.Pattern.{Pattern}
use Rattle.smpl_patch.proofs.BodyLemmas.{bodies}
use Rattle.pattern_vars.specs.Reads.{has}
use Rattle.pattern_vars.specs.VarPlaces.Places.{reads_by}
use Rattle.pattern_vars.specs.VarPlaces.Placing as placing
use Rattle.pattern_vars.proofs.var_places.sets.standing_in_whens.Goals as goal

pub returns : goal.returns
returns c y =
    let test : Pattern → Bool = λ p. reads_by c.args.reader.now false p y in
    c.in_ok-put_bodies.ensures y ∙ ap (λ (vs : List Var). has vs y || placing.any_bodies true test (bodies c.args.ws.now)) c.new-set.ensures
