use Rattle.std.proofs.lemmas.Result.{IfErr-weaker, on_ok_weaker}
use Rattle.run_files.specs.Treatment.{storing, stored_after}
use Rattle.run_files.proofs.ActLemmas.{Does-as, Stops-as}
use Rattle.run_files.proofs.TreatLemmas.{stored_after_text}
use Rattle.run_files.proofs.process.store_file.Goals as goal

pub returns-clause-done : goal.returns-clause-done
returns-clause-done g c =
    let name = c.args.name.now in let old = c.args.old.now in let text = c.args.text.now in
    on_ok_weaker c.store_if_changed.result (λ h s same.
    Does-as (storing name old text) (stored_after c.args.mode name old s) _ _ (stored_after_text c.args.mode name old text s c.if-not-mode.false same)
    (h (g.O.Sink.written c.args.outside.now.out.now))) c.store_if_changed.ensures.done

pub returns-clause-stopped : goal.returns-clause-stopped
returns-clause-stopped g c =
    let name = c.args.name.now in let old = c.args.old.now in let text = c.args.text.now in let out = c.args.outside.now.out.now in
    IfErr-weaker c.store_if_changed.result _ _ (λ stopped h s same.
    Stops-as (storing name old text) (stored_after c.args.mode name old s) _ _ _ _ _ (stored_after_text c.args.mode name old text s c.if-not-mode.false same)
    (h (g.O.Sink.written out) (g.O.Sink.faults out) (g.O.Sink.faults out))) c.store_if_changed.ensures.stopped
