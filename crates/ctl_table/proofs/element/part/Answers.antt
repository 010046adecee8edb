use Rattle.std.proofs.Common.{subst, List}
use Rattle.smpl_terms.specs.declared.var.Var.{Var}
use Rattle.ctl_formula.specs.Tables.{at, plains, Makes}
use Rattle.ctl_table.specs.Table as table
use Rattle.ctl_table.specs.Settings.{setting_at}
use Rattle.ctl_table.proofs.ElementLemmas.{part-made}
use Rattle.ctl_table.proofs.element.part.Goals as goal

pub returns : goal.returns
returns c = record {
  made = part-made (setting_at c.args.m.now) c.args.parts.now c.exists_all.new.parts c.args.f c.in_ok-f.f c.args.place.now.here
      (subst (λ (z : List Var). Makes c.args.parts.now c.exists_all.new.parts c.in_ok-f.f
      (table.exists_all z (at (plains c.args.parts.now) c.args.f))) c.as_slice.ensures c.in_ok-f.ensures.made);
}
