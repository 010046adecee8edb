use Rattle.std.proofs.Common.{length, arith}
use Rattle.ctl_table.proofs.ChoiceLemmas.{all-but_last, first-made}
use Rattle.ctl_table.proofs.wrap.first_branch.Goals as goal

pub choices-requires-clause-alone : goal.choices-requires-clause-alone
choices-requires-clause-alone c = all-but_last (length c.args.parts.now) c.min.result c.args.alone.now c.requires.alone

pub returns : goal.returns
returns c = record {
  made = first-made c.args.parts.now c.choices.new.parts c.any_of.new.parts c.args.with.now c.args.alone.now _ c.in_ok-made.made.items c.as_slice.result.now _
      (grind arith) c.as_slice.ensures.value c.in_ok-made.ensures.made c.any_of.ensures.made;
}
