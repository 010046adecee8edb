use Rattle.std.proofs.Common.{◌∙◌, ap, length}
use Rattle.ctl_table.specs.Settings.{setting_at, all_below}
use Rattle.ctl_table.proofs.FollowLemmas.{all-kept-within}
use Rattle.ctl_table.proofs.MadeLemmas.{headed-made}
use Rattle.ctl_table.proofs.element.headed.Goals as goal

pub and_all-requires-clause-more : goal.and_all-requires-clause-more
and_all-requires-clause-more c =
    ap (all_below (length c.own_atom.new.parts)) c.as_slice.ensures.value
    ∙ all-kept-within c.args.parts.now c.in_branches.new.parts c.own_atom.new.parts c.in_ok-in_branches.in_branches.items _
    c.in_ok-in_branches.ensures.made c.in_ok-head.ensures.made.grows

pub returns : goal.returns
returns c = record {
  made = headed-made (setting_at c.args.m.now) c.args.parts.now c.in_branches.new.parts c.own_atom.new.parts c.and_all.new.parts
      c.with_tail.new.parts c.args.vars.now c.args.tail.now _
      c.in_ok-in_branches.in_branches.items c.as_slice.result.now _ c.in_ok-head.head c.in_ok-f.f c.with_tail.result
      c.as_slice.ensures.value c.in_ok-in_branches.ensures.made c.in_ok-head.ensures.made c.in_ok-f.ensures.made c.with_tail.ensures.made;
}
