use Rattle.std.proofs.Common.{get_or, refl}
use Rattle.ctl_formula.proofs.TableLemmas.{grows-trans}
use Rattle.ctl_table.proofs.MakingLemmas.{all-stand}
use Rattle.ctl_table.proofs.ChoiceLemmas.{chosen-more}
use Rattle.ctl_table.proofs.wrap.choices.Goals as goal

pub exclude-requires-clause-alone : goal.exclude-requires-clause-alone
exclude-requires-clause-alone c =
    all-stand c.args.parts.now c.and_all.new.parts c.args.alone.now
    (grows-trans c.args.parts.now c.loop-i.parts c.and_all.new.parts c.loop-i.invariant.grows c.in_ok-one.ensures.made.grows) c.requires.alone

pub exclude-requires-clause-earlier : goal.exclude-requires-clause-earlier
exclude-requires-clause-earlier c =
    all-stand c.loop-i.parts c.and_all.new.parts c.loop-i.earlier.items c.in_ok-one.ensures.made.grows c.loop-i.invariant.excluded

pub loop-i-preserved : goal.loop-i-preserved
loop-i-preserved c =
    chosen-more c.args.parts.now c.loop-i.parts c.and_all.new.parts c.exclude.new.parts c.args.with.now c.args.alone.now
    c.loop-i.made.items c.push.new.self.items c.loop-i.earlier.items c.as_slice.result.now c.exclude.new.earlier.items
    c.loop-i.i 0 (get_or c.args.with.now c.loop-i.i 0) c.in_ok-one.one c.loop-i-test.true refl c.requires.with c.requires.alone
    c.loop-i.invariant c.as_slice.ensures.value c.in_ok-one.ensures.made c.in_ok-push.ensures.items c.in_ok-exclude.ensures.made
