use Rattle.std.proofs.Common.{is_some, sym, ap, ◌∙◌}
use Rattle.smpl_meta.specs.Before.{Before}
use Rattle.smpl_meta.specs.Heads.{is_virtual}
use Rattle.smpl_meta.proofs.IndexLemmas.{virtual-has-place}
use Rattle.smpl_meta.proofs.earlier.Earlier.is_virtual.Goals as goal

pub returns : goal.returns
returns c =
    c.is_some.ensures ∙ ap is_some c.place.ensures ∙ sym (virtual-has-place c.self.inside.virtuals c.args.name.now)
    ∙ ap (λ (b : Before). is_virtual b.virtuals c.args.name.now) c.self.view_is
