use Rattle.ctl_formula.specs.Tables.{plains}
use Rattle.ctl_table.specs.Settings.{before_at}
use Rattle.ctl_table.proofs.MakingLemmas.{stands-still}
use Rattle.ctl_table.proofs.FollowLemmas.{dots-stand}
use Rattle.ctl_table.proofs.DotsLemmas.{dots_at-made}
use Rattle.ctl_table.proofs.dots.dots_at.Goals as goal

pub passed-requires-clause-d : goal.passed-requires-clause-d
passed-requires-clause-d c = dots-stand c.args.parts.now c.condition.new.parts c.args.d.now c.in_ok-through.ensures.made.grows c.requires.d

pub passed-requires-clause-target : goal.passed-requires-clause-target
passed-requires-clause-target c = stands-still c.args.parts.now c.condition.new.parts c.args.target c.in_ok-through.ensures.made.grows c.requires.target

pub returns : goal.returns
returns c = record {
  made = dots_at-made c.args.forall_walks c.args.parts.now c.condition.new.parts c.passed.new.parts c.exists_all.new.parts
      (before_at (plains c.args.parts.now) c.args.before.now)
      c.args.d.now c.args.target c.args.scope.now c.as_slice-here.result.now c.in_ok-around.around c.in_ok-through.through c.in_ok-f.f c.exists_all.result
      c.requires.d c.requires.target c.as_slice-here.ensures c.in_ok-around.ensures
      c.in_ok-through.ensures.made c.in_ok-f.ensures.made c.exists_all.ensures.made;
}
