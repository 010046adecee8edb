use Rattle.std.proofs.Common.{sym, ap, ◌∙◌}
use Rattle.std.specs.List.{list_any}
use Rattle.smpl_terms.specs.Values.{same}
use Rattle.env_sets.proofs.RunLemmas.{alike}
use Rattle.env_sets.proofs.excluded.Values.are_alike.Goals as goal

pub returns-then-same_slices : goal.returns-then-same_slices
returns-then-same_slices c = λ h z.
    ap (list_any (λ v. same v z)) (sym c.self.view_is)
    ∙ alike c.self.inside.runs.first c.others.inside.runs.first c.as_slice.result.now c.as_slice-2.result.now c.self.inside.runs.rest c.others.inside.runs.rest
    c.as_slice-then-same_slices.result.now c.as_slice-then-same_slices-2.result.now z
    c.as_slice.ensures.items c.as_slice-2.ensures.items c.as_slice-then-same_slices.ensures.items c.as_slice-then-same_slices-2.ensures.items
    (c.same_slices.ensures c.if-same_slices.true z) (c.same_runs.ensures h z)
    ∙ ap (list_any (λ v. same v z)) c.others.view_is
