use Rattle.std.proofs.Common.{None, Some, ap, ◌∙◌}
use Rattle.smpl_meta.specs.Before.{Before}
use Rattle.smpl_meta.specs.Known.{head_named}
use Rattle.smpl_meta.proofs.IndexLemmas.{head-at-place}
use Rattle.smpl_meta.proofs.earlier.Earlier.known_head.Goals as goal

pub returns-in-None : goal.returns-in-None
returns-in-None c =
    head-at-place c.self.inside.heads c.self.inside.names c.args.name.now None c.self.invariant c.in-None.ensures
    ∙ ap (λ (b : Before). head_named c.args.name.now b.heads) c.self.view_is

pub returns-in-Some : goal.returns-in-Some
returns-in-Some c =
    c.get.ensures.value
    ∙ head-at-place c.self.inside.heads c.self.inside.names c.args.name.now (Some c.in-Some.i) c.self.invariant c.in-Some.ensures
    ∙ ap (λ (b : Before). head_named c.args.name.now b.heads) c.self.view_is
