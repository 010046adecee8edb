use Rattle.std.proofs.Common.{◌∙◌, ap, not}
use Rattle.std.specs.List.{filter}
use Rattle.ctl_table.specs.Table as table
use Rattle.ctl_table.specs.Settings.{setting_at}
use Rattle.ctl_table.proofs.EndLemmas.{atom-made}
use Rattle.ctl_table.proofs.ends_of.ends_of_head.Goals as goal

pub returns : goal.returns
returns c = record {
  made = atom-made (setting_at c.args.m.now) c.args.parts.now c.push.new.self c.args.p.now
      c.in_ok-copy.field-0 c.in_ok-f.f c.args.scope.now c.in_ok-vars.vars c.in_ok-vars-2.vars c.in_ok-vars.ensures
      (c.in_ok-vars-2.ensures ∙ ap (filter (λ x. not (table.in_scope c.args.scope.now x))) c.as_slice.ensures) c.in_ok-copy.ensures.same c.in_ok-f.ensures.made;
}
