use Rattle.std.proofs.Common.{ap, ◌∙◌, ◌||◌, Bool, true, false, List}
use Rattle.smpl_terms.specs.declared.var.Var.{Var}
use Rattle.smpl_patch.specs.declared.pattern.Pattern.{Pattern}
use Rattle.smpl_patch.specs.Bodies.{body}
use Rattle.pattern_vars.specs.Reads.{has}
use Rattle.pattern_vars.specs.VarPlaces.Places.{reads_by}
use Rattle.pattern_vars.proofs.SetLemmas.{put-two}
use Rattle.pattern_vars.specs.VarPlaces.Placing as placing
use Rattle.pattern_vars.proofs.var_places.sets.occurring_in_body.Goals as goal

pub returns : goal.returns
returns c y =
    let used : Pattern → Bool = λ p. reads_by c.args.reader.now true p y in
    let stands : Pattern → Bool = λ p. reads_by c.args.reader.now false p y in
    let first = placing.any_body false used (body c.args.b.now) in
    let second = placing.any_body true stands (body c.args.b.now) in
    put-two (has c.new-set.result y) (has c.put_body.new.set y) (has c.put_body-2.new.set y) first second
    (c.in_ok-put_body.ensures y) (c.in_ok-put_body-2.ensures y)
    ∙ ap (λ (vs : List Var). has vs y || (first || second)) c.new-set.ensures
