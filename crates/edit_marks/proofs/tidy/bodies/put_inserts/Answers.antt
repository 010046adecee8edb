use Rattle.std.proofs.Common.{ℕ, ◌==◌, refl}
use Rattle.edit_marks.specs.declared.edit_conflict.edit.Insert.{Insert}
use Rattle.edit_marks.proofs.Tidied.FlagLemmas.{adds_none, adds_more, adds_end, adds_always}
use Rattle.edit_marks.proofs.tidy.bodies.put_inserts.Goals as goal

pub loop-insert-init : goal.loop-insert-init
loop-insert-init c = adds_none c.args.flags.now.items

pub loop-insert-preserved : goal.loop-insert-preserved
loop-insert-preserved c =
    adds_more (λ (i : Insert) (n : ℕ). i.token == n) c.args.inserts.now c.loop-insert.insert-index c.insert-item.result c.args.flags.now.items
    c.loop-insert.flags.items c.put.new.flags.items c.loop-insert-test.true c.insert-item.is c.loop-insert.invariant
    (adds_always c.loop-insert.flags.items c.put.new.flags.items c.insert-item.result.token _ refl c.put.ensures)

pub returns : goal.returns
returns c =
    adds_end (λ (i : Insert) (n : ℕ). i.token == n) c.args.inserts.now c.loop-insert.insert-index c.args.flags.now.items c.loop-insert.flags.items
    c.loop-insert-test.false c.loop-insert.invariant
