use Rattle.std.proofs.Common.{ap, ◌∙◌, ◌||◌, Bool, true, List}
use Rattle.smpl_terms.specs.declared.var.Var.{Var}
use Rattle.smpl_patch.specs.declared.pattern.Pattern.{Pattern}
use Rattle.pattern_vars.specs.Reads.{has}
use Rattle.pattern_vars.specs.VarPlaces.Places.{reads_by}
use Rattle.pattern_vars.specs.VarPlaces.Placing as placing
use Rattle.pattern_vars.proofs.var_places.sets.used_in_option.Goals as goal

pub returns : goal.returns
returns c y =
    let test : Pattern → Bool = λ p. reads_by c.args.reader.now true p y in
    c.in_ok-put_option.ensures y ∙ ap (λ (vs : List Var). has vs y || placing.any_option test c.args.p.now) c.new-set.ensures
