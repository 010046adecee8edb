use Rattle.std.proofs.Common.{◌≡◌, false, cond, Bool, ap, arith, [], ◌∷◌}
use Rattle.std.proofs.lemmas.Grind.{common_steps}
use Rattle.std.proofs.lemmas.Result.{IfErr-weaker}
use Rattle.c_terms.specs.Same.{same_bytes}
use Rattle.run_acts.specs.Acts.{Store}
use Rattle.run_files.specs.Treatment.{storing}
use Rattle.run_files.proofs.ActLemmas.{Stops-one}
use Rattle.run_files.proofs.effects.store_if_changed.Goals as goal

pub returns-clause-stopped : goal.returns-clause-stopped
returns-clause-stopped g c =
    let differs : same_bytes c.args.bytes.now c.args.text.now ≡ false = grind (arith, common_steps) in
    let is : storing c.args.name.now c.args.bytes.now c.args.text.now ≡ Store c.args.name.now c.args.text.now ∷ [] =
    ap (λ (b : Bool). cond b [] (Store c.args.name.now c.args.text.now ∷ [])) differs in
    rw is (IfErr-weaker c.store.result _ _
    (λ stopped h out o o'. Stops-one (Store c.args.name.now c.args.text.now) _ _ _ _ _ (h out o o')) c.store.ensures.stopped)
