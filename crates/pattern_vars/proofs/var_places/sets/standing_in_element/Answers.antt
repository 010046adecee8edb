use Rattle.std.proofs.Common.{ap, ◌∙◌, ◌||◌, Bool, false, List}
use Rattle.smpl_terms.specs.declared.var.Var.{Var}
use Rattle.smpl_patch.specs.declared.pattern.Pattern.{Pattern}
use Rattle.smpl_patch.specs.Bodies.{element}
use Rattle.pattern_vars.specs.Reads.{has}
use Rattle.pattern_vars.specs.VarPlaces.Places.{reads_by}
use Rattle.pattern_vars.specs.VarPlaces.Placing as placing
use Rattle.pattern_vars.proofs.var_places.sets.standing_in_element.Goals as goal

pub returns : goal.returns
returns c y =
    let test : Pattern → Bool = λ p. reads_by c.args.reader.now false p y in
    c.in_ok-put_element.ensures y ∙ ap (λ (vs : List Var). has vs y || placing.any_element false test (element c.args.e.now)) c.new-set.ensures
