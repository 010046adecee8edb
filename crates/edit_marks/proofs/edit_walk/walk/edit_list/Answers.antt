use Rattle.edit_marks.proofs.edit_walk.walk.edit_list.Goals as goal

pub returns : goal.returns
returns c = record {
  all = c.in_ok-all.all.items;
  each = c.in_ok-all.ensures;
  distinct = c.in_ok-list.ensures.edits;
}
