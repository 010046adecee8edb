use Rattle.ctl_table.specs.Table as table
use Rattle.ctl_formula.specs.Tables.{at, plains}
use Rattle.ctl_table.proofs.MakingLemmas.{made-up, stays, and-of}
use Rattle.ctl_table.proofs.wrap.and_next.Goals as goal

pub returns : goal.returns
returns c =
    let m = c.in_ok-next.ensures.made in
    let e = stays c.args.parts.now c.next.new.parts c.args.f m.grows c.requires.f in
    record {
      made = made-up c.args.parts.now c.next.new.parts c.push.new.self c.push.result _ _ m.grows
          (and-of (at (plains c.next.new.parts) c.args.f) (at (plains c.next.new.parts) c.in_ok-next.next)
          (at (plains c.args.parts.now) c.args.f) (table.next_of c.args.forall_walks (at (plains c.args.parts.now) c.args.g)) e m.is) c.push.ensures.made;
    }
