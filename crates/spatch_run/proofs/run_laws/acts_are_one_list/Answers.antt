use Rattle.spatch_run.proofs.RunLaws.Unique.{ReadOnce, IsTreatmentOf-one}
use Rattle.spatch_run.proofs.RunLaws.OnePath.{acts_one, first_acts}
use Rattle.spatch_run.proofs.RunLaws.ReadyFiles.{files_follow}
use Rattle.spatch_run.proofs.run_laws.acts_are_one_list.Goals as goal

pub returns : goal.returns
returns c =
    let laws : ReadOnce = record {
      patch = λ bytes one other a b. c.patches_are_read_once.ensures.patch bytes one other a.spelled b.spelled;
      patch_fault = c.patches_have_one_fault.ensures.whole;
      patch_apart = c.patches_are_read_once.ensures.faultless;
      notes = c.patches_are_noted_once.ensures;
      isos = c.isos_are_read_once.ensures.isos;
      isos_fault = c.isos_are_read_once.ensures.fault;
      isos_apart = c.isos_are_read_once.ensures.apart;
      whole = c.patches_are_expanded_once.ensures.whole;
      rule = c.patches_are_expanded_once.ensures.rule;
      whole_apart = c.patches_are_expanded_once.ensures.apart;
      patch_place = c.faults_have_one_place.ensures;
      places = c.places_are_one.ensures;
      alike = λ tidy choice rules defined bytes end other short one two. (
        c.unread_changes_notes_alone.ensures.alike tidy choice choice rules defined bytes end other short one two,
        c.unread_changes_notes_alone.ensures.told tidy choice rules defined bytes end other short one two,
      );
    } in
    record { same = acts_one laws; begins = first_acts laws; files = files_follow laws; treated = IsTreatmentOf-one laws }
