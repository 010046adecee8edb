use Rattle.std.proofs.Common.{drop}
use Rattle.std.specs.List.{items_where_true}
use Rattle.edit_unparse.specs.Tidy.Made.{parts_in}
use Rattle.edit_unparse.proofs.Reached.{Reaches}
use Rattle.edit_unparse.proofs.tidy.write.put_parts.Given as goal

abbrev pub invariant-loop-i : goal.invariant-loop-i
invariant-loop-i l = Reaches l.initial.draft (items_where_true l.stays (parts_in l.lexed l.parts)) l.draft
    (items_where_true (drop l.i l.stays) (drop l.i (parts_in l.lexed l.parts)))
