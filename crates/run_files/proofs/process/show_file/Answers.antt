use Rattle.std.proofs.Common.{◌∙◌, ap, refl}
use Rattle.std.proofs.lemmas.Result.{IfErr-weaker, on_ok_weaker}
use Rattle.run_files.specs.Treatment.{printing}
use Rattle.run_files.proofs.ActLemmas.{Does-as, Stops-as}
use Rattle.run_files.proofs.process.show_file.Goals as goal

pub returns-in-Report-clause-done : goal.returns-in-Report-clause-done
returns-in-Report-clause-done g c =
    let shelf = c.args.outside.now.shelf.now in
    rw c.in-Report.is (on_ok_weaker c.show_report.result (λ h unread s a.
    h unread s (g.S.Loads.holds shelf) (g.S.Loads.stores shelf) a) c.show_report.ensures.done)

pub returns-in-Report-clause-stopped : goal.returns-in-Report-clause-stopped
returns-in-Report-clause-stopped g c =
    let shelf = c.args.outside.now.shelf.now in
    rw c.in-Report.is (IfErr-weaker c.show_report.result _ _ (λ stopped h unread s a.
    h unread s (g.S.Loads.holds shelf) (g.S.Loads.stores shelf) (g.S.Loads.faults shelf) (g.S.Loads.faults shelf) a) c.show_report.ensures.stopped)

pub returns-in-Name-clause-done : goal.returns-in-Name-clause-done
returns-in-Name-clause-done g c =
    let shelf = c.args.outside.now.shelf.now in
    rw c.in-Name.is (on_ok_weaker c.show_name.result (λ h unread s a. h (g.S.Loads.holds shelf) (g.S.Loads.stores shelf)) c.show_name.ensures.done)

pub returns-in-Name-clause-stopped : goal.returns-in-Name-clause-stopped
returns-in-Name-clause-stopped g c =
    let shelf = c.args.outside.now.shelf.now in
    rw c.in-Name.is (IfErr-weaker c.show_name.result _ _ (λ stopped h unread s a.
    h (g.S.Loads.holds shelf) (g.S.Loads.stores shelf) (g.S.Loads.faults shelf) (g.S.Loads.faults shelf)) c.show_name.ensures.stopped)

pub returns-in-Text-clause-done : goal.returns-in-Text-clause-done
returns-in-Text-clause-done g c =
    let shelf = c.args.outside.now.shelf.now in
    rw c.in-Text.is (on_ok_weaker c.show.result (λ h unread s a.
    Does-as (printing c.deref.result.now) (printing s.page.bytes) _ _ (ap printing (c.deref.ensures.value ∙ a.bytes))
    (h (g.S.Loads.holds shelf) (g.S.Loads.stores shelf))) c.show.ensures.done)

pub returns-in-Text-clause-stopped : goal.returns-in-Text-clause-stopped
returns-in-Text-clause-stopped g c =
    let shelf = c.args.outside.now.shelf.now in
    rw c.in-Text.is (IfErr-weaker c.show.result _ _ (λ stopped h unread s a.
    Stops-as (printing c.deref.result.now) (printing s.page.bytes) _ _ _ _ _ (ap printing (c.deref.ensures.value ∙ a.bytes))
    (h (g.S.Loads.holds shelf) (g.S.Loads.stores shelf) (g.S.Loads.faults shelf) (g.S.Loads.faults shelf))) c.show.ensures.stopped)

pub returns-in-Nothing-clause-done : goal.returns-in-Nothing-clause-done
returns-in-Nothing-clause-done g c = rw c.in-Nothing.is (λ unread s a. record { observed = refl })
