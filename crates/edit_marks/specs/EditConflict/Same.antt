-- When two edits are the same.
use Rattle.std.specs.Prelude.{ℕ, Bool, nat_eq, ◌++◌}
use Rattle.std.specs.Bool.{beq}
use Rattle.std.specs.Ordering.{on, eq_of_both}
use Rattle.std.specs.Cmp.Lexicographic.{pointwise}
use Rattle.std.specs.Hash as fed
use Rattle.edit_marks.specs.declared.edit_conflict.edit.Side.{Side}
use Rattle.edit_marks.specs.declared.edit_conflict.edit.Side.TheVariants.{Before, After}
use Rattle.edit_marks.specs.declared.edit_conflict.edit.Insert.{Insert}
use Rattle.edit_marks.specs.declared.edit_conflict.edit.Edit.{Edit}

abbrev pub side_number : Side → ℕ
side_number Before = 0
side_number After = 1

abbrev pub same_insert : Insert → Insert → Bool
same_insert = eq_of_both (on (λ i. i.token) nat_eq) (eq_of_both (on (λ i. side_number i.side) nat_eq)
    (eq_of_both (on (λ i. i.many) beq) (on (λ i. i.text) (pointwise nat_eq))))

abbrev pub same_edit : Edit → Edit → Bool
same_edit = eq_of_both (on (λ e. e.removed) (pointwise nat_eq)) (on (λ e. e.inserts) (pointwise same_insert))

abbrev pub insert_input : Insert → fed.HashWrites
insert_input i = fed.u32 i.token ++ fed.u8 (side_number i.side) ++ fed.bool i.many ++ fed.slice fed.u8 i.text

abbrev pub edit_input : Edit → fed.HashWrites
edit_input e = fed.slice fed.u32 e.removed ++ fed.slice insert_input e.inserts
