use Rattle.std.proofs.Common.{◌&&◌, ◌||◌, ap}
use Rattle.ctl_formula.specs.Formulas.{plain}
use Rattle.ctl_fixpoint.specs.RequiredWords.Words.{needs, is_among}
use Rattle.ctl_fixpoint.proofs.RequiredWords.NeedLemmas.{kids_shown}
use Rattle.ctl_fixpoint.proofs.required_words.words.+put_words.Goals as goal

pub loop-child-init : goal.loop-child-init
loop-child-init t c = λ w.
    ap (λ b. is_among c.args.found.now w || (needs w (plain c.args.f.now) && b))
    (kids_shown w c.args.tree.now c.in-Branch.field-0 c.in-Branch.children c.as_slice-child-items.result.now c.in-Branch.is c.as_slice-child-items.ensures)
