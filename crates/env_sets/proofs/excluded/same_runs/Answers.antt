use Rattle.std.proofs.Common.{arith, refl, sym, ap, ◌∙◌}
use Rattle.std.specs.List.{list_any}
use Rattle.smpl_terms.specs.Values.{same}
use Rattle.env_sets.proofs.SameLemmas.{both_any}
use Rattle.env_sets.proofs.excluded.same_runs.Goals as goal

pub loop-i-preserved : goal.loop-i-preserved
loop-i-preserved c = λ z.
    both_any (λ us. list_any (λ v. same v z) us) c.args.vs.now c.args.ws.now c.loop-i.i c.index-vs-i.result c.index-ws-i.result
    (omega arith) (omega arith) c.index-vs-i.is c.index-ws-i.is
    (c.loop-i.invariant z)
    (ap (list_any (λ v. same v z)) (sym c.as_slice.ensures.items) ∙ c.if-not-same_slices.ensures refl z
    ∙ ap (list_any (λ v. same v z)) c.as_slice-in-loop-i.ensures.items)
