use Rattle.std.proofs.lemmas.Result.{IfOk-weaker}
use Rattle.smpl_patch.specs.Bodies.{element}
use Rattle.ctl_table.specs.Settings.{setting_at}
use Rattle.ctl_table.proofs.EachLemmas.{all-behind}
use Rattle.ctl_table.proofs.each.behind_each.Goals as goal

pub returns : goal.returns
returns c = record {
  made = IfOk-weaker c.all_behind.result _ _
      (λ gs h. all-behind c.args.parts.now c.last_atoms.new.parts (setting_at c.args.m.now)
      (element c.args.e.now) c.args.scope.now c.in_ok-before.before c.args.nexts.now gs.items
      c.requires c.in_ok-before.ensures.made h)
      c.all_behind.ensures;
}
