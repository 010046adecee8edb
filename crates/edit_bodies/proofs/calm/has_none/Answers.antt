use Rattle.std.proofs.Common.{◌∙◌}
use Rattle.std.specs.Prelude.{nat_eq}
use Rattle.edit_bodies.proofs.CalmLemmas.{none_between}
use Rattle.edit_bodies.proofs.calm.has_none.Goals as goal

pub returns : goal.returns
returns c = λ flags are less.
    (λ i. nat_eq (c.count_at.ensures i) (c.count_at-2.ensures i)) ∙ none_between flags c.args.counts.now c.args.list are c.requires less
