use Rattle.std.proofs.Common.{◌≡◌, ◌<◌, ◌+◌, ◌-◌, ℕ, sym, arith, List, take, drop, length, subst}
use Rattle.std.specs.Prelude.{slice_index_or}
use Rattle.std.specs.List.{prefix_len}
use Rattle.std.proofs.lemmas.List.{get_or_default, drop_all, drop-drop}
use Rattle.edit_marks.specs.declared.edit_conflict.edit.Edit.{Edit}
use Rattle.edit_marks.specs.declared.edit_conflict.mark.Act.TheVariants.{Remove}
use Rattle.edit_marks.specs.declared.edit_conflict.mark.Mark.{Mark}
use Rattle.edit_marks.specs.declared.edit_conflict.clash.Clash.{Clash}
use Rattle.edit_marks.specs.declared.edit_conflict.clash.Acts.{Acts}
use Rattle.edit_marks.specs.declared.edit_conflict.clash.Settled.{Settled}
use Rattle.edit_marks.specs.EditConflict.Once.{Differ}
use Rattle.edit_marks.specs.EditConflict.Marks.{AreMarks, marks_from}
use Rattle.edit_marks.specs.EditConflict.Clashes.{NotAfter, IsClash, IsFirstClash}
use Rattle.edit_marks.specs.EditConflict.Scan.{conflicts, settled_at, is_of}
use Rattle.edit_marks.proofs.EditConflict.Members.{In, In-same, In-drop, In-take}
use Rattle.edit_marks.proofs.EditConflict.Ordered.{marks_ordered}
use Rattle.edit_marks.proofs.EditConflict.Meets.{MarkClash, found, clash_of, along}
use Rattle.edit_marks.proofs.EditConflict.Scans.{Quiet, quiet_none, quiet_at, none_passes}
use Rattle.edit_marks.proofs.EditConflict.Steps.{Step, taken, nothing_here, clash_here, quiet_here}
use Rattle.edit_marks.proofs.edit_conflict.clash.first_clash.Goals as goal

abbrev at : List Mark → ℕ → Mark
at marks k = slice_index_or marks k (record { token = 0; edit = 0; act = Remove })

step : (marks : List Mark) (k n : ℕ) (acts : Acts) → k < length marks
    → n ≡ prefix_len (is_of (at marks k).token (at marks k).edit) (take (length marks - k) (drop k marks))
    → acts ≡ taken (take (k + n - k) (drop k marks)) → Step marks k n (at marks k) acts
step marks k n acts less run is = record { place = less; here = get_or_default marks k _ _ less; run = run; acts_is = is }

none : (edits : List Edit) (marks : List Mark) (c : Clash) → AreMarks edits marks → IsClash edits c → MarkClash marks c
none edits marks c are is = along (marks_from 0 edits) marks c (In-same (marks_from 0 edits) marks (λ token. sym (are.all token))) (found edits c is)

first : (edits : List Edit) (marks : List Mark) (k : ℕ) (c : Clash) → Differ edits → AreMarks edits marks
    → ((d : Clash) → MarkClash marks d → MarkClash (drop k marks) d)
    → MarkClash (drop k marks) c → ((d : Clash) → MarkClash (drop k marks) d → NotAfter c d) → IsFirstClash edits c
first edits marks k c differ are left is least = record {
  clash = clash_of edits c differ (along (drop k marks) (marks_from 0 edits) c (λ m h. In-same marks (marks_from 0 edits) are.all m (In-drop m k marks h)) is);
  first = λ d e. least d (left d (none edits marks d are e));
}

known_quiet : (marks : List Mark) (k : ℕ) (s : Settled) (token : ℕ) (known : Acts) → known ≡ settled_at s token
    → Quiet s.acts s.token (drop k marks) → Quiet known token (drop k marks)
known_quiet marks k s token known is h = subst (λ (a : Acts). Quiet a token (drop k marks)) (sym is) (quiet_at s token (drop k marks) h)

pub loop-at-init : goal.loop-at-init
loop-at-init c = record {
  within = omega arith;
  quiet = subst (λ (a : Acts). Quiet a 0 c.marks-marks.result.now) (sym c.no_acts.ensures) (quiet_none 0 c.marks-marks.result.now);
  left = λ d m. m;
}

pub first_met_but-requires : goal.first_met_but-requires
first_met_but-requires c =
    let marks = c.marks-marks.result.now in
    let k = c.loop-at.at in
    let end = k + c.run_length.result in
    let known = known_quiet marks k c.loop-at.settled (at marks k).token c.settled_at-known.result c.settled_at-known.ensures c.loop-at.invariant.quiet in
    none_passes (conflicts c.settled_at-known.result) (at marks k).token (take (length marks - end) (drop end marks))
    (λ d h. known d (In-drop d c.run_length.result (drop k marks)
    (subst (In d) (sym (drop-drop c.run_length.result k marks)) (In-take d (length marks - end) (drop end marks) h))))

pub returns-in-Some-clause-first : goal.returns-in-Some-clause-first
returns-in-Some-clause-first c =
    let marks = c.marks-marks.result.now in
    let k = c.loop-at.at in
    let s = step marks k c.run_length.result c.acts_of-acts.result c.loop-at-test.true c.run_length.ensures.value c.acts_of-acts.ensures in
    let r = clash_here marks k c.run_length.result (at marks k) c.acts_of-acts.result
    (marks_ordered c.args.edits.now marks c.marks-marks.ensures.marks) s c.in-Some.second c.in-Some.ensures in
    first c.args.edits.now marks k _ c.edits-differ.ensures.differ c.marks-marks.ensures.marks c.loop-at.invariant.left r.0 r.1

pub loop-at-preserved : goal.loop-at-preserved
loop-at-preserved c =
    let marks = c.marks-marks.result.now in
    let k = c.loop-at.at in
    let s = step marks k c.run_length.result c.acts_of-acts.result c.loop-at-test.true c.run_length.ensures.value c.acts_of-acts.ensures in
    record {
      within = omega arith;
      quiet = subst (λ (a : Acts). Quiet a (at marks k).token (drop (k + c.run_length.result) marks)) (sym c.acts_of_both.ensures)
          (quiet_here marks k c.run_length.result (at marks k) c.acts_of-acts.result (marks_ordered c.args.edits.now marks c.marks-marks.ensures.marks) s
          c.settled_at-known.result (known_quiet marks k c.loop-at.settled
          (at marks k).token c.settled_at-known.result c.settled_at-known.ensures c.loop-at.invariant.quiet)
          c.in_default.ensures);
      left = λ d m. nothing_here marks k c.run_length.result (at marks k) c.acts_of-acts.result
          (marks_ordered c.args.edits.now marks c.marks-marks.ensures.marks) s c.in_default.ensures d (c.loop-at.invariant.left d m);
    }

pub returns-clause-none : goal.returns-clause-none
returns-clause-none c = λ d is.
    let marks = c.marks-marks.result.now in
    let m = c.loop-at.invariant.left d (none c.args.edits.now marks d c.marks-marks.ensures.marks is) in
    subst (In m.one) (drop_all c.loop-at.at marks c.loop-at-test.false) m.one_in
