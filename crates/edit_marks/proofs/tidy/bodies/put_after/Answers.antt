use Rattle.std.proofs.Common.{ℕ, ◌==◌, ◌&&◌, Bool, ap}
use Rattle.edit_marks.specs.declared.edit_conflict.edit.Insert.{Insert}
use Rattle.edit_marks.specs.EditConflict.Same.{side_number}
use Rattle.edit_marks.proofs.Tidied.FlagLemmas.{adds_none, adds_more, adds_end, adds_same}
use Rattle.edit_marks.proofs.tidy.bodies.put_after.Goals as goal

pub loop-insert-init : goal.loop-insert-init
loop-insert-init c = adds_none c.args.flags.now.items

pub loop-insert-preserved : goal.loop-insert-preserved
loop-insert-preserved c =
    let own = c.insert-item.result in
    adds_more (λ (i : Insert) (n : ℕ). i.token == n && side_number i.side == 1) c.args.inserts.now c.loop-insert.insert-index own c.args.flags.now.items
    c.loop-insert.flags.items c.put.new.flags.items c.loop-insert-test.true c.insert-item.is c.loop-insert.invariant
    (adds_same c.loop-insert.flags.items c.put.new.flags.items (λ n. own.token == n && c.is_after.result) (λ n. own.token == n && side_number own.side == 1)
    (λ n. ap (λ (b : Bool). own.token == n && b) c.is_after.ensures) c.put.ensures)

pub returns : goal.returns
returns c =
    adds_end (λ (i : Insert) (n : ℕ). i.token == n && side_number i.side == 1) c.args.inserts.now c.loop-insert.insert-index c.args.flags.now.items
    c.loop-insert.flags.items c.loop-insert-test.false c.loop-insert.invariant
