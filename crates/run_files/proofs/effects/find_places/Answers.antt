use Rattle.std.proofs.Common.{◌∙◌, ap, sym, Bool, cond}
use Rattle.std.proofs.lemmas.Result.{IfOk-weaker}
use Rattle.run_files.specs.Treatment.{no_places}
use Rattle.run_files.proofs.effects.find_places.Goals as goal

pub returns-then-quiet : goal.returns-then-quiet
returns-then-quiet c = λ found are. c.no_places.ensures ∙ sym (ap (λ (b : Bool). cond b no_places found) c.if-quiet.true)

pub returns : goal.returns
returns c = IfOk-weaker c.places_in.result _ _ (λ here is found are.
    c.places_are_one.ensures c.args.text.now here found is are ∙ sym (ap (λ (b : Bool). cond b no_places found) c.if-quiet.false))
    c.places_in.ensures.places
