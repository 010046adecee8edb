use Rattle.edit_bodies.proofs.OneLayout.{laid_or_broken, one_break, one_layout}
use Rattle.edit_bodies.proofs.laws.edits_have_one_layout.Goals as goal

pub returns-clause-frames : goal.returns-clause-frames
returns-clause-frames c = λ pieces items made same one other are.
    one_layout c.cut_once.ensures.whole c.shown_once.ensures c.ranges_have_one_tree.ensures pieces items made same are one other

pub returns-clause-apart : goal.returns-clause-apart
returns-clause-apart c = λ pieces items made same laid token are.
    laid_or_broken c.cut_once.ensures.whole c.shown_once.ensures c.ranges_have_one_tree.ensures pieces items made same are laid token

pub returns-clause-broken : goal.returns-clause-broken
returns-clause-broken c = λ pieces items made same one other are.
    one_break c.cut_once.ensures.whole c.shown_once.ensures c.ranges_have_one_tree.ensures pieces items made same are one other
