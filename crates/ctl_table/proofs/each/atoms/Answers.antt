use Rattle.std.proofs.lemmas.Result.{IfOk-weaker}
use Rattle.ctl_table.specs.Settings.{setting_at}
use Rattle.ctl_table.proofs.EachLemmas.{nexts-stand}
use Rattle.ctl_table.proofs.SuffixLemmas.{joined-each}
use Rattle.ctl_table.proofs.each.atoms.Goals as goal

pub joined_each-requires-clause-nexts : goal.joined_each-requires-clause-nexts
joined_each-requires-clause-nexts c = nexts-stand c.args.parts.now c.own_atom.new.parts c.args.nexts.now c.in_ok-f.ensures.made.grows c.requires

pub returns : goal.returns
returns c = record {
  made = IfOk-weaker c.joined_each.result _ _
      (λ is h. joined-each (setting_at c.args.m.now) c.args.parts.now c.own_atom.new.parts c.joined_each.new.parts
      c.is_statement-statement.result _ c.in_ok-f.f _ c.args.nexts.now is.items c.args.scope.now c.requires
      c.is_statement-statement.ensures.value c.in_ok-f.ensures.made h)
      c.joined_each.ensures.made;
}
