use Rattle.std.proofs.Common.{arith, sym}
use Rattle.smpl_terms.specs.Values.{same}
use Rattle.env_sets.proofs.SameLemmas.{both_any, same_alike}
use Rattle.env_sets.proofs.same.same_slices.Goals as goal

pub loop-i-preserved : goal.loop-i-preserved
loop-i-preserved c = λ z.
    both_any (λ v. same v z) c.args.vs.now c.args.ws.now c.loop-i.i c.index-vs-i.result c.index-ws-i.result (omega arith)
    (omega arith) c.index-vs-i.is c.index-ws-i.is
    (c.loop-i.invariant z) (same_alike c.index-vs-i.result c.index-ws-i.result z (sym c.if-not-same_value.ensures.value))
