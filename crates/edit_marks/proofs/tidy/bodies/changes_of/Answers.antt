use Rattle.std.proofs.Common.{◌==◌, ℕ, Bool}
use Rattle.std.specs.List.{list_any}
use Rattle.edit_marks.specs.declared.edit_conflict.edit.Edit.{Edit}
use Rattle.edit_marks.specs.declared.tidy.touch.TouchEdit.{TouchEdit}
use Rattle.edit_marks.specs.Tidy.Bodies.{is_after, is_at}
use Rattle.edit_marks.proofs.Tidied.FlagLemmas.{adds_none, adds_more, adds_end, flags_from}
use Rattle.edit_marks.proofs.tidy.bodies.changes_of.Goals as goal

abbrev goes : TouchEdit → ℕ → Bool
goes t n = list_any (λ m. m == n) t.edit.removed

abbrev comes : TouchEdit → ℕ → Bool
comes t n = is_at t.edit.inserts n

abbrev after : TouchEdit → ℕ → Bool
after t n = is_after t.edit.inserts n

pub loop-touch-init : goal.loop-touch-init
loop-touch-init c = record {
  removed = adds_none c.in_ok-removed.removed.items;
  inserts = adds_none c.in_ok-inserts.inserts.items;
  after = adds_none c.in_ok-after.after.items;
}

pub loop-touch-preserved : goal.loop-touch-preserved
loop-touch-preserved c =
    let touches = c.args.touches.now in
    let t = c.touch-item.result in
    let i = c.loop-touch.touch-index in
    let old = c.loop-touch.changes in
    let new = c.put_edit.new.changes in
    record {
      removed = adds_more goes touches i t _ old.removed.items new.removed.items c.loop-touch-test.true c.touch-item.is c.loop-touch.invariant.removed
          c.put_edit.ensures.removed;
      inserts = adds_more comes touches i t _ old.inserts.items new.inserts.items c.loop-touch-test.true c.touch-item.is c.loop-touch.invariant.inserts
          c.put_edit.ensures.inserts;
      after = adds_more after touches i t _ old.after.items new.after.items c.loop-touch-test.true c.touch-item.is c.loop-touch.invariant.after
          c.put_edit.ensures.after;
    }

pub returns : goal.returns
returns c =
    let touches = c.args.touches.now in
    let i = c.loop-touch.touch-index in
    let new = c.loop-touch.changes in
    let edit = λ (t : TouchEdit). t.edit in
    record {
      removed = flags_from (λ (e : Edit) (n : ℕ). list_any (λ m. m == n) e.removed) edit touches c.args.count _ new.removed.items c.in_ok-removed.ensures
          (adds_end goes touches i _ new.removed.items c.loop-touch-test.false c.loop-touch.invariant.removed);
      inserts = flags_from (λ (e : Edit) (n : ℕ). is_at e.inserts n) edit touches c.args.count _ new.inserts.items c.in_ok-inserts.ensures
          (adds_end comes touches i _ new.inserts.items c.loop-touch-test.false c.loop-touch.invariant.inserts);
      after = flags_from (λ (e : Edit) (n : ℕ). is_after e.inserts n) edit touches c.args.count _ new.after.items c.in_ok-after.ensures
          (adds_end after touches i _ new.after.items c.loop-touch-test.false c.loop-touch.invariant.after);
    }
