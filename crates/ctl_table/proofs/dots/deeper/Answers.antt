use Rattle.std.proofs.Common.{◌∙◌, ap}
use Rattle.ctl_table.specs.declared.follow.Continuation.TheVariants as made
use Rattle.ctl_table.specs.Settings.{setting_at}
use Rattle.ctl_table.proofs.EachLemmas.{same-dots}
use Rattle.ctl_table.proofs.dots.deeper.Goals as goal

pub returns-in_ok-share-in-Some : goal.returns-in_ok-share-in-Some
returns-in_ok-share-in-Some c = record {
  made = same-dots (setting_at c.args.m.now) c.args.scope.now c.args.parts.now c.deeper_atoms.new.parts c.in-Dots.d
      c.in_ok-share-in-Some.field-0 c.in-Dots.target
      c.in-Some.known c.in_ok-known-in-Some.known c.args.next.now (c.in-Dots.is ∙ ap (made.Dots c.in-Dots.d c.in-Dots.target) c.in-Some.is)
      c.in_ok-share-in-Some.ensures.same c.requires c.in_ok-known-in-Some.ensures.made;
}
