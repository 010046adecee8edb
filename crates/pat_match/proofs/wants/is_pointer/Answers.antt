use Rattle.std.proofs.Common.{sym, ap, ◌∙◌, arith}
use Rattle.std.specs.Option.{option_copied}
use Rattle.pat_match.proofs.WantLemmas.{pointer_next, pointer_not, pointer_end}
use Rattle.pat_match.proofs.wants.is_pointer.Goals as goal

pub loop-preserved : goal.loop-preserved
loop-preserved c =
    pointer_next c.args.times c.loop.counter _ _ _ _ (omega arith) c.loop-test.true
    (sym c.element.ensures.value ∙ ap option_copied c.in-Some.is) c.loop.invariant

pub returns-in-None : goal.returns-in-None
returns-in-None c =
    pointer_not c.args.times c.loop.counter _ _ c.loop-test.true
    (sym c.element.ensures.value ∙ ap option_copied c.in-None.is) c.loop.invariant

pub returns : goal.returns
returns c = pointer_end c.args.times c.loop.counter _ _ c.loop-test.false c.loop.invariant
