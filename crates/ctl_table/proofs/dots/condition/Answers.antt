use Rattle.std.proofs.Common.{◌∙◌, ap, length}
use Rattle.ctl_table.specs.Settings.{all_below}
use Rattle.ctl_table.proofs.FollowLemmas.{dots-firsts}
use Rattle.ctl_table.proofs.DotsLemmas.{condition-made}
use Rattle.ctl_table.proofs.dots.condition.Goals as goal

pub push_last_atoms-requires-clause-found : goal.push_last_atoms-requires-clause-found
push_last_atoms-requires-clause-found c =
    ap (all_below (length c.args.parts.now)) (c.in_ok-found.ensures ∙ c.as_slice.ensures.value)
    ∙ dots-firsts (length c.args.parts.now) c.args.d.now c.requires.d

pub returns : goal.returns
returns c = record {
  made = condition-made c.args.parts.now c.push_last_atoms.new.parts c.all_of.new.parts c.args.d.now.firsts.items
      c.push_last_atoms.new.found.items c.as_slice-2.result.now
      c.in_ok-found.found.items c.args.d.now.any _ _ c.all_of.result (c.in_ok-found.ensures ∙ c.as_slice.ensures.value) c.as_slice-2.ensures.value
      c.in_ok-push_last_atoms.ensures.made c.all_of.ensures.made;
}
