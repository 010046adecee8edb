use Rattle.ctl_formula.proofs.TableLemmas.{grows-trans}
use Rattle.std.proofs.Common.{length}
use Rattle.std.proofs.lemmas.Result.{on_ok_weaker}
use Rattle.ctl_table.proofs.MakingLemmas.{all-stand}
use Rattle.ctl_table.proofs.FollowLemmas.{some-stands, dots-after}
use Rattle.ctl_table.proofs.DotsLemmas.{last_atoms-none, last_atoms-made}
use Rattle.ctl_table.proofs.dots.push_last_atoms.Goals as goal

pub push_not-requires-clause-found : goal.push_not-requires-clause-found
push_not-requires-clause-found c =
    all-stand c.args.parts.now c.before_dots.new.parts c.args.found.now.items c.in_ok-ends_of.ensures.made.grows c.requires.found

pub push_not-requires-2-clause-f : goal.push_not-requires-2-clause-f
push_not-requires-2-clause-f c =
    some-stands c.args.parts.now c.push_not.new.parts c.args.d.now.after
    (grows-trans c.args.parts.now c.before_dots.new.parts c.push_not.new.parts c.in_ok-ends_of.ensures.made.grows c.in_ok-push_not.ensures.made.grows)
    (dots-after (length c.args.parts.now) c.args.d.now c.requires.d)

pub returns-then-d : goal.returns-then-d
returns-then-d c = record { made = last_atoms-none c.args.parts.now c.args.found.now.items c.args.d.now.any _ c.if-d.true c.requires.found }

pub returns : goal.returns
returns c = record {
  made = on_ok_weaker c.push_not-2.result
      (λ m. last_atoms-made c.args.parts.now c.before_dots.new.parts c.push_not.new.parts c.push_not-2.new.parts c.args.found.now.items
      c.push_not.new.found.items c.push_not-2.new.found.items c.in_ok-ends_of.ends_of c.args.d.now.after _ c.args.d.now.any
      c.if-d.false c.requires.found (dots-after (length c.args.parts.now) c.args.d.now c.requires.d)
      c.in_ok-ends_of.ensures.made c.in_ok-push_not.ensures.made m)
      c.push_not-2.ensures.made;
}
