use Rattle.std.proofs.Common.{◌<◌, length, sym, ap, ◌∙◌, arith}
use Rattle.smpl_meta.specs.Before.{Before}
use Rattle.smpl_meta.specs.Known.{number_from}
use Rattle.smpl_meta.proofs.IndexLemmas.{number-is-place, number_within}
use Rattle.smpl_meta.proofs.earlier.Earlier.number_of.Goals as goal

pub returns-in-None : goal.returns-in-None
returns-in-None c =
    c.in-None.ensures ∙ sym (number-is-place c.self.inside.heads c.self.inside.names c.args.name.now c.self.invariant)
    ∙ ap (λ (b : Before). number_from 0 c.args.name.now b.heads) c.self.view_is

pub returns-in-Some : goal.returns-in-Some
returns-in-Some c =
    c.in-Some.ensures ∙ sym (number-is-place c.self.inside.heads c.self.inside.names c.args.name.now c.self.invariant)
    ∙ ap (λ (b : Before). number_from 0 c.args.name.now b.heads) c.self.view_is

pub overflow_cast-result : goal.overflow_cast-result
overflow_cast-result c =
    let within : c.in-Some.i < length c.self.inside.heads =
    number_within c.self.inside.heads c.self.inside.names c.args.name.now c.in-Some.i c.self.invariant c.in-Some.ensures in
    omega (arith, within, c.requires, ap (λ (b : Before). length b.heads) c.self.view_is)
